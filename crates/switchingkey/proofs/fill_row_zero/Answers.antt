-- `switchingkey::fill_row_zero` fills the buffer with row 0 of a switching key. Leans on the laws of `Filled`, and on what `row_zero_entry` returns for a column
-- (`entry_at`). Assumes nothing.
use Rattle.std.proofs.Common.{◌<◌, sym, ◌∙◌, length, get_or, pos, arith, rules, SFits, w64, to_z-of_z}
use Rattle.whole.specs.Lists.{length_tabulate, each_get_or, fill_start, fill_step}
use Rattle.switchingkey.proofs.Ready.{entry_at}
use Rattle.switchingkey.proofs.fill_row_zero.Goals as goal

pub loop-j-init : goal.loop-j-init
loop-j-init c = fill_start _ _ (length_tabulate _ _ ∙ sym c.requires.room)

pub row_zero_entry-requires : goal.row_zero_entry-requires
row_zero_entry-requires c =
    let fits : SFits w64 (get_or c.args.errors.now c.loop-j.j (pos 0)) = search rules in
    let inside : c.loop-j.j < length c.args.errors.now = omega arith in
    record {
      row = c.requires.row;
      error_small = rw (to_z-of_z fits) (each_get_or c.requires.errors_small _ (pos 0) inside);
      column = omega arith;
    }

pub loop-j-preserved : goal.loop-j-preserved
loop-j-preserved c =
    let fits : SFits w64 (get_or c.args.errors.now c.loop-j.j (pos 0)) = search rules in
    let entry_fits : SFits w64 c.big_value.result = search rules in
    fill_step c.loop-j.invariant _ (pos 0) (omega arith)
    (to_z-of_z entry_fits
    ∙ c.big_value.ensures
    ∙ entry_at (length c.args.s.now) c.args.q c.args.s.now c.args.masks.now c.args.errors.now c.loop-j.j (omega arith) (to_z-of_z fits) c.row_zero_entry.ensures)
