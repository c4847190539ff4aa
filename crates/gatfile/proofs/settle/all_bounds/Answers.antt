-- `settle::all_bounds` lends room for a bound of each wire, of which there are at most as many as the table has entries.
use Rattle.std.proofs.Common.{sym, ap, ◌∙◌, length-take-le, Result}
use Rattle.refusal.specs.declared.Refusal.{Refusal}
use Rattle.refusal.specs.Answer.{answer_to}
use Rattle.gatfile.specs.Settled.{wires_within, settled_table}
use Rattle.gatfile.proofs.settle.all_bounds.Goals as goal

pub slice_bounds-table-end : goal.slice_bounds-table-end
slice_bounds-table-end c = wires_within _ c.args.circuit.right c.wire_count.ensures.0

pub slice_bounds-settle-end : goal.slice_bounds-settle-end
slice_bounds-settle-end c = sym (length-take-le _ _ (wires_within _ c.args.circuit.right c.wire_count.ensures.0))

pub settle-requires : goal.settle-requires
settle-requires c = length-take-le _ _ (wires_within _ c.args.circuit.right c.wire_count.ensures.0) ∙ c.wire_count.ensures.0

pub returns-clause-table : goal.returns-clause-table
returns-clause-table c =
    let done = ap (λ (r : Result (Unit {0}) Refusal). (answer_to r).number) c.in_ok-settle.was in
    settled_table c.args.circuit.file.now _ c.settle.ensures.answer done c.settle.ensures.table_after c.wire_count.ensures.0
