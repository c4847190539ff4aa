-- Each promise of planning and evaluation has one answer: what meets a promise on the same loans is the same, buffers included. It is one law, `same_answer`, for each field.
use Rattle.std.specs.Prelude.{◌≡◌, List, ℕ, ℤ}
use Rattle.refusal.specs.Answer.{Answer}
use Rattle.refusal.specs.First.{same_answer}
use Rattle.circuit.specs.Plan.{PlanLoans, PlanPromise}
use Rattle.circuit.specs.Evaluate.{EvaluateLoans, EvaluatePromise}

pub plan_unique : (a : PlanLoans) {r r' : Answer} {bounds bounds' : List ℕ} → PlanPromise a r bounds → PlanPromise a r' bounds' → (r ≡ r') × (bounds ≡ bounds')
plan_unique a x y = (same_answer x.answer y.answer, same_answer x.bounds_left y.bounds_left)

pub evaluate_unique : (a : EvaluateLoans) {r r' : Answer} {wires wires' : List ℤ} {bounds bounds' : List ℕ} {scratch scratch' : List ℤ}
    → EvaluatePromise a r wires bounds scratch → EvaluatePromise a r' wires' bounds' scratch'
    → (r ≡ r') × (wires ≡ wires') × (bounds ≡ bounds') × (scratch ≡ scratch')
evaluate_unique a x y = (same_answer x.answer y.answer, same_answer x.wires_left y.wires_left, same_answer x.bounds_left y.bounds_left, same_answer x.scratch_left y.scratch_left)
