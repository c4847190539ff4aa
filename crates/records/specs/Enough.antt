-- The first gates of a run are enough: of a run that is too long planning and evaluation answer 1 or 2, whatever the gates are, and leave all as found; and the
-- first gates are all of the run, or so many that they are too long too. The code has no need of it: it lends the whole run (`records::plan::plan_gates`).
use Rattle.std.specs.Prelude.{◌≡◌, refl, Bool, true, false, List, ◌∷◌, ℕ, ◌<◌, ltb, ℤ, length, take}
use Rattle.std.proofs.Common.{sym, ◌∙◌, arith, take_all, length-take-le, ltb-true, ltb-false}
use Rattle.std.proofs.Math.Path.{ap}
use Rattle.std.proofs.Math.Bool.{cond}
use Rattle.refusal.specs.Answer.{Answer}
use Rattle.refusal.specs.First.{Row, row, refused, first_of, place_of, answer_of, some_true, first_true, done_or}
use Rattle.scheme.specs.Calls.{bad_params}
use Rattle.circuit.specs.declared.Gate.{Gate}
use Rattle.circuit.specs.Circuits.{bad_counts, as_records}
use Rattle.circuit.specs.Plan.{PlanLoans, plan_loans, plan_front, plan_rows, plan_answer, plan_bounds, PlanPromise}
use Rattle.circuit.specs.Evaluate.{EvaluateLoans, evaluate_loans, evaluate_front, evaluate_rows, evaluate_answer, evaluate_wires, evaluate_bounds, evaluate_scratch, EvaluatePromise}
use Rattle.circuit.specs.Answers.{gates_within}
use Rattle.records.specs.First.{listed_count, first_gates, count_there, count_few, count_many, take_first}

-- ---- a run that is too long

too_many : (inputs gates : ℕ) → 4096 < gates → bad_counts inputs gates ≡ true
too_many inputs gates h = by_test (bad_counts inputs gates) refl
  where
    by_test : (t : Bool) → bad_counts inputs gates ≡ t → t ≡ true
    by_test true e = refl
    by_test false e = absurd (omega (arith, gates_within inputs gates e))

-- the number is 1 or 2
one_or_two : (t : Bool) (rest : List Row) → answer_of (row 1 t ∷ row 2 true ∷ rest) ≡ refused (cond t 1 2) 0
unfolding first_of place_of some_true first_true
one_or_two true rest = refl
one_or_two false rest = refl

early_kept : {A : Type 0} (t : Bool) (a z : A) → done_or (cond t 1 2) a z ≡ z
unfolding done_or
early_kept true a z = refl
early_kept false a z = refl

-- the loans of a call, of another run of gates
abbrev plan_of : PlanLoans → List Gate → PlanLoans
plan_of a gates = plan_loans a.p a.inputs (as_records gates) a.bounds

abbrev evaluate_of : EvaluateLoans → List Gate → EvaluateLoans
evaluate_of a gates = evaluate_loans (plan_of a.plan gates) a.wires a.key a.scratch

module _ (a : PlanLoans) (gates : List Gate) (long : 4096 < length gates) where
  plan_refused : plan_answer (plan_of a gates) ≡ refused (cond (bad_params a.p) 1 2) 0
  unfolding plan_answer plan_rows plan_front
  plan_refused = rw (too_many a.inputs (length gates) long) (one_or_two (bad_params a.p) _)

  plan_kept : plan_bounds (plan_of a gates) ≡ a.bounds
  unfolding plan_answer plan_bounds
  plan_kept =
      let number : first_of (plan_rows (plan_of a gates)) ≡ cond (bad_params a.p) 1 2 = ap (λ (r : Answer). r.number) plan_refused in
      rw number (early_kept (bad_params a.p) _ a.bounds)

module _ (a : EvaluateLoans) (gates : List Gate) (long : 4096 < length gates) where
  abbrev bad : Bool
  bad = bad_params a.plan.p

  evaluate_refused : evaluate_answer (evaluate_of a gates) ≡ refused (cond bad 1 2) 0
  unfolding evaluate_answer evaluate_rows evaluate_front
  evaluate_refused = rw (too_many a.plan.inputs (length gates) long) (one_or_two bad _)

  number : first_of (evaluate_rows (evaluate_of a gates)) ≡ cond bad 1 2
  unfolding evaluate_answer
  number = ap (λ (r : Answer). r.number) evaluate_refused

  wires_kept : evaluate_wires (evaluate_of a gates) ≡ a.wires
  unfolding evaluate_wires
  wires_kept = rw number (early_kept bad _ a.wires)

  bounds_kept : evaluate_bounds (evaluate_of a gates) ≡ a.plan.bounds
  unfolding evaluate_bounds
  bounds_kept = rw number (early_kept bad _ a.plan.bounds)

  scratch_kept : evaluate_scratch (evaluate_of a gates) ≡ a.scratch
  unfolding evaluate_scratch
  scratch_kept = rw number (early_kept bad _ a.scratch)

-- ---- the first gates

-- what is the same for all runs that are too long is that of the whole run
enough : {X : Type 0} (f : List Gate → X) (z : X) → ((gates : List Gate) → 4096 < length gates → f gates ≡ z)
    → (gates : List Gate) → f (take (listed_count (length gates)) (first_gates gates)) ≡ f gates
enough {X} f z same gates = ap f (take_first gates) ∙ by_test (ltb (length gates) 4097) refl
  where
    n : ℕ
    n = length gates

    by_test : (t : Bool) → ltb n 4097 ≡ t → f (take (listed_count n) gates) ≡ f gates
    by_test true e = ap f (take_all (listed_count n) gates (omega (arith, count_few n (ltb-true n 4097 e))))
    by_test false e =
        same (take (listed_count n) gates) (omega (arith, length-take-le (listed_count n) gates (count_there n), count_many n (ltb-false n 4097 e)))
        ∙ sym (same gates (omega (arith, ltb-false n 4097 e)))

module _ (gates : List Gate) where
  abbrev listed : List Gate
  listed = take (listed_count (length gates)) (first_gates gates)

  -- **what is promised of the first gates is promised of the run**
  pub plan_enough : (a : PlanLoans) {r : Answer} {bounds : List ℕ} → PlanPromise (plan_of a listed) r bounds → PlanPromise (plan_of a gates) r bounds
  plan_enough a e =
      record {
        answer = e.answer ∙ enough (λ gs. plan_answer (plan_of a gs)) _ (plan_refused a) gates;
        bounds_left = e.bounds_left ∙ enough (λ gs. plan_bounds (plan_of a gs)) _ (plan_kept a) gates;
      }

  pub evaluate_enough : (a : EvaluateLoans) {r : Answer} {wires : List ℤ} {bounds : List ℕ} {scratch : List ℤ}
      → EvaluatePromise (evaluate_of a listed) r wires bounds scratch → EvaluatePromise (evaluate_of a gates) r wires bounds scratch
  evaluate_enough a e =
      record {
        answer = e.answer ∙ enough (λ gs. evaluate_answer (evaluate_of a gs)) _ (evaluate_refused a) gates;
        wires_left = e.wires_left ∙ enough (λ gs. evaluate_wires (evaluate_of a gs)) _ (wires_kept a) gates;
        bounds_left = e.bounds_left ∙ enough (λ gs. evaluate_bounds (evaluate_of a gs)) _ (bounds_kept a) gates;
        scratch_left = e.scratch_left ∙ enough (λ gs. evaluate_scratch (evaluate_of a gs)) _ (scratch_kept a) gates;
      }
