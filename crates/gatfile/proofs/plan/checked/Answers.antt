-- `plan::checked` answers as the head's check does where it refuses, and otherwise what 9, 10 and the place are (`check_settled`).
use Rattle.std.proofs.Common.{sym, ◌∙◌, length-take-le}
use Rattle.refusal.proofs.Given.{passed_up, done_by}
use Rattle.circuitfile.specs.File.{head_rows}
use Rattle.circuitfile.specs.Order.{head_right, check_settled}
use Rattle.gatfile.specs.Settled.{wires_within}
use Rattle.gatfile.proofs.Ends.{check_refused}
use Rattle.gatfile.proofs.plan.checked.Goals as goal

pub returns-in_err-circuit : goal.returns-in_err-circuit
returns-in_err-circuit c = check_refused _ c.«open».ensures.answer c.in_err-circuit.was (passed_up c.from_residual.result c.from_residual.ensures.1)

pub slice_bounds-table-end : goal.slice_bounds-table-end
slice_bounds-table-end c = wires_within _ (done_by (head_rows c.args.file.now) c.«open».ensures.answer c.in_ok-circuit.was) c.wire_count.ensures.0

pub slice_bounds-settle-end : goal.slice_bounds-settle-end
slice_bounds-settle-end c =
    sym (length-take-le _ _ (wires_within _ (done_by (head_rows c.args.file.now) c.«open».ensures.answer c.in_ok-circuit.was) c.wire_count.ensures.0))

pub settle-requires : goal.settle-requires
settle-requires c =
    let right = done_by (head_rows c.args.file.now) c.«open».ensures.answer c.in_ok-circuit.was in
    rw c.in_ok-circuit.ensures.opened (length-take-le _ _ (wires_within _ right c.wire_count.ensures.0) ∙ c.wire_count.ensures.0)

pub returns : goal.returns
returns c =
    let right = head_right _ (done_by (head_rows c.args.file.now) c.«open».ensures.answer c.in_ok-circuit.was) in
    (rw c.in_ok-circuit.ensures.opened at c.settle.ensures.answer) ∙ check_settled _ right
