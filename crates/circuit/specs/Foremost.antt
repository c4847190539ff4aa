-- Document 01, *Refusal numbers*, of planning and evaluation: the number that is answered is the first of the order that applies, and 0 exactly when none does, since
-- the rows stand in the order.
use Rattle.std.specs.Prelude.{refl}
use Rattle.refusal.specs.Order.{position_in, order, position, in_order, Foremost}
use Rattle.refusal.proofs.Order.{first_foremost}
use Rattle.circuit.specs.Circuits.{gate_rows}
use Rattle.circuit.specs.Plan.{PlanLoans, plan_front, plan_rows, plan_answer}
use Rattle.circuit.specs.Evaluate.{EvaluateLoans, evaluate_front, evaluate_rows, evaluate_answer}

pub plan_foremost : (a : PlanLoans) → Foremost (plan_rows a) (plan_answer a).number
unfolding position_in order position in_order gate_rows plan_front plan_rows plan_answer
plan_foremost a = first_foremost 0 (plan_rows a) refl

pub evaluate_foremost : (a : EvaluateLoans) → Foremost (evaluate_rows a) (evaluate_answer a).number
unfolding position_in order position in_order gate_rows evaluate_front evaluate_rows evaluate_answer
evaluate_foremost a = first_foremost 0 (evaluate_rows a) refl
