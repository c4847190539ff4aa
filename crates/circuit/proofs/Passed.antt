-- Laws about what `specs/Passed` defines that rest on a definition which a must-fail edit turns.
use Rattle.std.specs.Prelude.{◌≡◌, refl, List, ◌++◌}
use Rattle.std.proofs.lemmas.Bool.{not-false}
use Rattle.refusal.specs.First.{Row, first_of, clear_append}
use Rattle.refusal.specs.Order.{position_in, order, position, in_order}
use Rattle.refusal.proofs.Order.{first_clear}
use Rattle.circuit.specs.Circuits.{gate_rows}
use Rattle.circuit.specs.Plan.{shared_rows, circuit_rows}
use Rattle.circuit.specs.Evaluate.{EvaluateLoans, evaluate_front, evaluate_rows}
use Rattle.circuit.specs.Passed.{evaluate_passed, EvaluateDone}

-- ---- evaluation

pub evaluate_done : (a : EvaluateLoans) → first_of (evaluate_rows a) ≡ 0 → EvaluateDone a
unfolding evaluate_rows evaluate_front gate_rows position_in order position in_order
evaluate_done a e =
    let l = a.plan in
    let late : List Row = shared_rows l ++ circuit_rows l in
    let (front, rest) = clear_append (evaluate_front a) late (first_clear (evaluate_rows a) refl e) in
    record { passed = evaluate_passed a front; fit = not-false _ rest.0.0; gates_clear = (clear_append (shared_rows l) (circuit_rows l) rest).1 }
