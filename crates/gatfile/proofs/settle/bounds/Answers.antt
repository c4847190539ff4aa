-- `settle::bounds` answers as the head's check does where it refuses, and otherwise what 9, 10 and the place are (`check_settled`), with the bounds of all wires.
use Rattle.std.proofs.Common.{◌∙◌}
use Rattle.refusal.proofs.Given.{passed_up, done_by}
use Rattle.circuitfile.specs.File.{head_rows}
use Rattle.circuitfile.specs.Order.{head_right, check_settled}
use Rattle.gatfile.specs.Settled.{told_refused, bounds_ended}
use Rattle.gatfile.proofs.Ends.{check_refused}
use Rattle.gatfile.proofs.settle.bounds.Goals as goal

pub returns-in_err-open : goal.returns-in_err-open
returns-in_err-open c =
    let h = passed_up c.from_residual.result c.from_residual.ensures.1 in
    told_refused _ (check_refused _ c.open.ensures.answer c.in_err-open.was h) h

pub returns : goal.returns
returns c =
    let right = head_right _ (done_by (head_rows c.args.file.now) c.open.ensures.answer c.in_ok-open.was) in
    let told = rw c.in_ok-open.ensures.opened at c.all_bounds.ensures.answer in
    bounds_ended _ c.all_bounds.result (told ∙ check_settled _ right) (rw c.in_ok-open.ensures.opened at c.all_bounds.ensures.table)
