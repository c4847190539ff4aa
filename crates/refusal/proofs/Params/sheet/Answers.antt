-- `Params::sheet` answers row k of the table, which is that of the definition, or refusal 1.
use Rattle.std.proofs.Common.{sym}
use Rattle.refusal.specs.Parameters.{sheet_table, made_sheet, sheet_set, sheet_refused, sheet_values}
use Rattle.refusal.proofs.Params.sheet.Goals as goal

pub returns-then-k-ge6 : goal.returns-then-k-ge6
unfolding made_sheet
returns-then-k-ge6 c =
    let v = sheet_values _ (sym (sheet_refused _ c.if-k-ge6.true)) in
    record { value = v.0; number = v.1.0; place = v.1.1.0; params = v.1.1.1 }

pub returns : goal.returns
unfolding sheet_table made_sheet
returns c =
    let v = sheet_values _ (sym (sheet_set _ c.if-k-ge6.false)) in
    record { value = v.0; number = v.1.0; place = v.1.1.0; params = v.1.1.1 }
