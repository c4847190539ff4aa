-- `plan::check` is the check's number and place as one number.
use Rattle.std.proofs.Common.{ap, ◌∙◌}
use Rattle.refusal.specs.Answer.{Answer}
use Rattle.circuitfile.specs.File.{as_one, check_answer}
use Rattle.circuitfile.specs.Order.{check_place}
use Rattle.gatfile.proofs.plan.check.Goals as goal

pub as_one-requires : goal.as_one-requires
as_one-requires c = rw c.checked.ensures (check_place _)

pub returns : goal.returns
unfolding check_answer
returns c = record { answer = c.as_one.ensures ∙ ap (λ (a : Answer). as_one a) c.checked.ensures }
