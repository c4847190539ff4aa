-- Document 01, *Circuits*: what evaluation is lent, its refusals, what it answers and leaves, and the promise of these, which the contract of each function that
-- evaluates cites. Its loans are planning's, and also the buffer of all wires (inputs filled), the switching key, and n² of scratch, of which only the length counts.
use Rattle.std.specs.Prelude.{◌≡◌, ◌||◌, ℕ, ◌*◌, ℤ, pos, length, take, replicate}
use Rattle.std.proofs.Common.{subst}
use mathlib.Core.List.{List, [], ◌∷◌, ◌++◌, flatten}
use Rattle.whole.specs.Lists.{cut}
use Rattle.refusal.specs.Answer.{Answer}
use Rattle.refusal.specs.First.{Row, row, first_of, answer_of, done_or}
use Rattle.scheme.specs.Calls.{bad_params, differs, outside}
use Rattle.circuit.specs.Circuits.{bad_counts, bounds_of, wires_of}
use Rattle.circuit.specs.Plan.{PlanLoans, wire_count, stated, shared_rows, circuit_rows}

pub record EvaluateLoans : Type 0 where
  pub plan : PlanLoans
  pub wires : List ℤ
  pub key : List ℤ
  pub scratch : List ℤ

abbrev pub evaluate_loans : PlanLoans → List ℤ → List ℤ → List ℤ → EvaluateLoans
evaluate_loans plan wires W scratch = record { plan = plan; wires = wires; key = W; scratch = scratch }

-- the rows before planning's 8, 9 and 10
unfoldable pub evaluate_front : EvaluateLoans → List Row
evaluate_front a =
    let l = a.plan in
    let n = l.p.n in
    row 1 (bad_params l.p)
    ∷ row 2 (bad_counts l.inputs l.circuit.count)
    ∷ row 3 (l.circuit.uneven
    || differs (length a.wires) (wire_count l * n)
    || differs (length l.bounds) (wire_count l)
    || differs (length a.key) (n * (n * n))
    || differs (length a.scratch) (n * n))
    ∷ row 6 (outside l.p.q (take (l.inputs * n) a.wires) || outside (l.p.q * l.p.q) a.key)
    ∷ []

unfoldable pub evaluate_rows : EvaluateLoans → List Row
evaluate_rows a = evaluate_front a ++ (shared_rows a.plan ++ circuit_rows a.plan)

unfoldable pub evaluate_answer : EvaluateLoans → Answer
evaluate_answer a = answer_of (evaluate_rows a)

-- every gate's wire is as defined, and the inputs stand
unfoldable pub evaluate_wires : EvaluateLoans → List ℤ
evaluate_wires a =
    let l = a.plan in
    done_or (first_of (evaluate_rows a)) (flatten (wires_of l.p a.key l.circuit.gates (cut l.p.n l.inputs a.wires))) a.wires

-- so is every gate's bound
unfoldable pub evaluate_bounds : EvaluateLoans → List ℕ
evaluate_bounds a = let l = a.plan in done_or (first_of (evaluate_rows a)) (bounds_of l.p l.circuit.gates (stated l)) l.bounds

-- scratch is all zero
unfoldable pub evaluate_scratch : EvaluateLoans → List ℤ
evaluate_scratch a = done_or (first_of (evaluate_rows a)) (replicate (a.plan.p.n * a.plan.p.n) (pos 0)) a.scratch

pub record EvaluatePromise (a : EvaluateLoans) (r : Answer) (wires : List ℤ) (bounds : List ℕ) (scratch : List ℤ) : Type 0 where
  pub answer : r ≡ evaluate_answer a
  pub wires_left : wires ≡ evaluate_wires a
  pub bounds_left : bounds ≡ evaluate_bounds a
  pub scratch_left : scratch ≡ evaluate_scratch a

-- equal loans have one promise
pub evaluate_alike : {a b : EvaluateLoans} {r : Answer} {wires : List ℤ} {bounds : List ℕ} {scratch : List ℤ} → a ≡ b
    → EvaluatePromise a r wires bounds scratch → EvaluatePromise b r wires bounds scratch
evaluate_alike {r = r} {wires = wires} {bounds = bounds} {scratch = scratch} e = subst (λ (x : EvaluateLoans). EvaluatePromise x r wires bounds scratch) e
