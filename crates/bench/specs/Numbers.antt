-- What the timed calls of planning and evaluation promise: those of planning and evaluation, of the number alone.
use Rattle.std.specs.Prelude.{◌≡◌, List, ℕ, ℤ}
use Rattle.std.proofs.Common.{ap}
use Rattle.refusal.specs.Answer.{Answer}
use Rattle.circuit.specs.Plan.{PlanLoans, plan_answer, plan_bounds, PlanPromise}
use Rattle.circuit.specs.Evaluate.{EvaluateLoans, evaluate_answer, evaluate_wires, evaluate_bounds, evaluate_scratch, EvaluatePromise}

pub record PlanNumber (a : PlanLoans) (r : ℕ) (bounds : List ℕ) : Type 0 where
  pub number : r ≡ (plan_answer a).number
  pub bounds_left : bounds ≡ plan_bounds a

pub record EvaluateNumber (a : EvaluateLoans) (r : ℕ) (wires : List ℤ) (bounds : List ℕ) (scratch : List ℤ) : Type 0 where
  pub number : r ≡ (evaluate_answer a).number
  pub wires_left : wires ≡ evaluate_wires a
  pub bounds_left : bounds ≡ evaluate_bounds a
  pub scratch_left : scratch ≡ evaluate_scratch a

pub plan_number : {a : PlanLoans} {r : Answer} {bounds : List ℕ} → PlanPromise a r bounds → PlanNumber a r.number bounds
plan_number e = record { number = ap (λ (x : Answer). x.number) e.answer; bounds_left = e.bounds_left }

pub evaluate_number : {a : EvaluateLoans} {r : Answer} {wires : List ℤ} {bounds : List ℕ} {scratch : List ℤ} → EvaluatePromise a r wires bounds scratch
    → EvaluateNumber a r.number wires bounds scratch
evaluate_number e =
    record { number = ap (λ (x : Answer). x.number) e.answer; wires_left = e.wires_left; bounds_left = e.bounds_left; scratch_left = e.scratch_left }
