-- `plan::plan` is planning's number and place as one number.
use Rattle.std.proofs.Common.{ap, ◌∙◌}
use Rattle.refusal.specs.Answer.{Answer}
use Rattle.circuitfile.specs.File.{as_one, plan_file_answer}
use Rattle.circuitfile.specs.Order.{plan_place}
use Rattle.gatfile.proofs.plan.plan.Goals as goal

pub as_one-requires : goal.as_one-requires
as_one-requires c = rw c.planned.ensures.answer (plan_place _ _)

pub returns : goal.returns
unfolding plan_file_answer
returns c =
    record {
      answer = c.as_one.ensures ∙ ap (λ (a : Answer). as_one a) c.planned.ensures.answer;
      bounds_left = c.planned.ensures.bounds_after;
    }
