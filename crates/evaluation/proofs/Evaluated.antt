-- The rows of evaluation in two stages: those that it tests itself, and then 8, 9 and 10, which are planning's. And the three ends of evaluation: what each
-- answers and leaves, where the first stage refuses, where planning does, and where neither does.
use Rattle.std.proofs.Common.{◌≡◌, sym, ap, ◌∙◌, ◌≢◌, List, ◌++◌, ℕ, ◌*◌, replicate, Result, Ok, Err, arith}
use Rattle.std.specs.Prelude.{ℤ, pos}
use mathlib.Core.List.{flatten}
use Rattle.whole.specs.Lists.{cut}
use Rattle.refusal.specs.declared.Refusal.{Refusal}
use Rattle.refusal.specs.Answer.{Answer, answer_to, refusal_numbered}
use Rattle.refusal.specs.First.{first_of, answer_of, answer_front, done_or_done, done_or_refused}
use Rattle.refusal.proofs.Given.{refused_by, refused_number}
use Rattle.circuit.specs.Circuits.{wires_of}
use Rattle.circuit.specs.Plan.{shared_rows, circuit_rows, plan_answer, plan_bounds, PlanPromise}
use Rattle.circuit.specs.Evaluate.{EvaluateLoans, evaluate_front, evaluate_rows, evaluate_answer, evaluate_wires, evaluate_bounds, evaluate_scratch, EvaluatePromise}
use Rattle.circuit.specs.Passed.{evaluate_clear}
use Rattle.circuit.proofs.Exact.{plan_agrees}

module _ (a : EvaluateLoans) where
  answer_number : {r : Answer} → r ≡ evaluate_answer a → r.number ≡ first_of (evaluate_rows a)
  unfolding evaluate_answer
  answer_number e = ap (λ (x : Answer). x.number) e

  -- a refusal leaves all as found
  evaluated_refused : {r : Answer} {bounds : List ℕ} → r ≡ evaluate_answer a → r.number ≢ 0 → bounds ≡ evaluate_bounds a → EvaluatePromise a r a.wires bounds a.scratch
  unfolding evaluate_wires evaluate_scratch
  evaluated_refused e h b =
      let refuses : first_of (evaluate_rows a) ≢ 0 = λ z. h (answer_number e ∙ z) in
      record { answer = e; wires_left = sym (done_or_refused _ _ refuses); bounds_left = b; scratch_left = sym (done_or_refused _ _ refuses) }

  -- ---- the first stage refuses, as `check_evaluate` did

  pub evaluated_early : {x r : Result (Unit {0}) Refusal} {e : Refusal} → answer_to x ≡ answer_of (evaluate_front a) → x ≡ Err e → r ≡ Err e
      → EvaluatePromise a (answer_to r) a.wires a.plan.bounds a.scratch
  unfolding evaluate_answer evaluate_rows evaluate_bounds
  evaluated_early {x} {r} {e} told h up =
      let same : answer_to r ≡ answer_of (evaluate_front a) = ap answer_to (up ∙ sym h) ∙ told in
      let refuses : first_of (evaluate_front a) ≢ 0 = refused_number (refused_by (evaluate_front a) told h) in
      let answer : answer_to r ≡ evaluate_answer a = same ∙ sym (answer_front (evaluate_front a) (shared_rows a.plan ++ circuit_rows a.plan) refuses) in
      let numbered : (answer_to r).number ≢ 0 = λ z. refuses (sym (ap (λ (y : Answer). y.number) same) ∙ z) in
      evaluated_refused answer numbered (sym (done_or_refused _ _ (λ z. numbered (answer_number answer ∙ z))))

  -- ---- it does not: what is left is planning's

  module _ (front : first_of (evaluate_front a) ≡ 0) where
    late : (plan_answer a.plan ≡ evaluate_answer a) × (plan_bounds a.plan ≡ evaluate_bounds a)
    late = plan_agrees a (evaluate_clear a front)

    answer : {r : Answer} {bounds : List ℕ} → PlanPromise a.plan r bounds → r ≡ evaluate_answer a
    answer planned = planned.answer ∙ late.0

    module _ {x : Result (Unit {0}) Refusal} {bounds : List ℕ} (planned : PlanPromise a.plan (answer_to x) bounds) where
      -- planning refuses
      pub evaluated_late : {r : Result (Unit {0}) Refusal} {e : Refusal} → x ≡ Err e → r ≡ Err e → EvaluatePromise a (answer_to r) a.wires bounds a.scratch
      evaluated_late {r} {e} h up =
          let same : answer_to r ≡ answer_to x = ap answer_to (up ∙ sym h) in
          let numbered : (answer_to r).number ≢ 0 = λ z. absurd (omega (arith, refusal_numbered e, sym (ap (λ (y : Result (Unit {0}) Refusal). (answer_to y).number) up) ∙ z)) in
          evaluated_refused (same ∙ answer planned) numbered (planned.bounds_left ∙ late.1)

      -- ---- neither refuses

      module _ {u : Unit {0}} (went : x ≡ Ok u) where
        pub evaluated_clear : first_of (evaluate_rows a) ≡ 0
        evaluated_clear = sym (answer_number (sym (ap answer_to went) ∙ answer planned))

        pub evaluated_done : {wires scratch : List ℤ}
            → wires ≡ flatten (wires_of a.plan.p a.key a.plan.circuit.gates (cut a.plan.p.n a.plan.inputs a.wires))
            → scratch ≡ replicate (a.plan.p.n * a.plan.p.n) (pos 0)
            → EvaluatePromise a (answer_to (Ok (tt {0}))) wires bounds scratch
        unfolding evaluate_wires evaluate_scratch
        evaluated_done w s =
            record {
              answer = sym (ap answer_to went) ∙ answer planned;
              wires_left = w ∙ sym (done_or_done _ _ evaluated_clear);
              bounds_left = planned.bounds_left ∙ late.1;
              scratch_left = s ∙ sym (done_or_done _ _ evaluated_clear);
            }
