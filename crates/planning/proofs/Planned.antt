-- What it tells that none of the rows in front of the gates' applies, and the four ends of planning: what each answers, and what it leaves in the bounds.
use Rattle.std.proofs.Common.{◌≡◌, sym, ap, ◌∙◌, ◌≢◌, Bool, false, List, ℕ, ◌≤◌, ◌<◌, arith, length, length-take-le, Result, Err}
use Rattle.refusal.specs.declared.Refusal.{Refusal}
use Rattle.refusal.specs.declared.Refusal.TheVariants.{Budget}
use Rattle.refusal.specs.Answer.{Answer, answer_to}
use Rattle.refusal.specs.First.{refused, first_of, answer_of, answer_front, first_true, Clear, done_or_done, done_or_refused}
use Rattle.refusal.proofs.Given.{refused_by, refused_number}
use Rattle.circuit.specs.declared.Gate.{Gate}
use Rattle.circuit.specs.Circuits.{wrong_gates}
use Rattle.circuit.specs.Plan.{PlanLoans, stated, circuit_rows, plan_front, plan_rows, plan_answer, plan_bounds, PlanPromise}
use Rattle.circuit.specs.Passed.{PlanPassed, plan_clear, plan_passed}
use Rattle.circuit.specs.Records.{length_wrong_gates}
use Rattle.circuit.proofs.Records.{length_bounds_of, length_over_gates}
use Rattle.circuit.proofs.Answers.{answered_wrong, answered_over, answered_done}
use Rattle.planning.proofs.Settling.{bounds_all, over_all}

pub record PlanReady (a : PlanLoans) : Type 0 where
  pub clear : Clear (plan_front a)
  pub passed : PlanPassed a
  pub many : length a.circuit.gates ≡ a.circuit.count

module _ (a : PlanLoans) where
  abbrev gates : List Gate
  gates = a.circuit.gates

  pub plan_ready : (a.circuit.uneven ≡ false → length a.circuit.gates ≡ a.circuit.count) → first_of (plan_front a) ≡ 0 → PlanReady a
  plan_ready sized e =
      let clear : Clear (plan_front a) = plan_clear a e in
      let passed : PlanPassed a = plan_passed a clear in
      record { clear = clear; passed = passed; many = sized passed.even }

  -- ---- the ends

  -- a refusal leaves the bounds as found
  planned_refused : {r : Answer} → r.number ≢ 0 → r ≡ plan_answer a → PlanPromise a r a.bounds
  unfolding plan_answer plan_bounds
  planned_refused h e = record { answer = e; bounds_left = sym (done_or_refused _ a.bounds (λ z. h (ap (λ (x : Answer). x.number) e ∙ z))) }

  -- one of the rows in front applies, by which `check_plan` refused
  pub planned_early : {x r : Result (Unit {0}) Refusal} {e : Refusal} → answer_to x ≡ answer_of (plan_front a) → x ≡ Err e → r ≡ Err e
      → PlanPromise a (answer_to r) a.bounds
  unfolding plan_answer plan_rows
  planned_early {x} {r} {e} told h up =
      let same : answer_to r ≡ answer_of (plan_front a) = ap answer_to (up ∙ sym h) ∙ told in
      let refuses : first_of (plan_front a) ≢ 0 = refused_number (refused_by (plan_front a) told h) in
      planned_refused (λ z. refuses (sym (ap (λ (x : Answer). x.number) same) ∙ z)) (same ∙ sym (answer_front (plan_front a) (circuit_rows a) refuses))

  module _ (r : PlanReady a) where
    -- the bounds of all wires are as many as the buffer holds
    pub bounds_kept : length (bounds_all a) ≡ length a.bounds
    bounds_kept =
        let long = r.passed.bounds_long in
        omega (arith, length_bounds_of a.p gates (stated a), length-take-le a.inputs a.bounds (omega (arith, long)), r.many, long)

    -- a gate is wrong
    abbrev wrong : List Bool
    wrong = wrong_gates a.inputs a.circuit.gates

    pub planned_wrong : {w : ℕ} → (w ≡ first_true wrong) × (w < length wrong) → PlanPromise a (refused 9 w) a.bounds
    unfolding plan_answer plan_rows
    planned_wrong e =
        planned_refused (λ z. omega arith)
        (rw e.0 (answered_wrong a.p a.inputs gates (stated a) (plan_front a) r.clear (omega (arith, e.0, e.1, length_wrong_gates a.inputs gates))))

    module _ (right : length wrong ≤ first_true wrong) where
      all_right : length gates ≤ first_true wrong
      all_right = omega (arith, right, length_wrong_gates a.inputs gates)

      -- a gate is over the budget
      pub planned_over : {r : Result (Unit {0}) Refusal} {e : Refusal} → (e ≡ Budget (first_true (over_all a))) × (first_true (over_all a) < length (over_all a))
          → r ≡ Err e → PlanPromise a (answer_to r) a.bounds
      unfolding plan_answer plan_rows
      planned_over e up =
          rw (up, e.0)
          (planned_refused (λ z. omega arith)
          (answered_over a.p a.inputs gates (stated a) (plan_front a) r.clear all_right (omega (arith, e.1, length_over_gates a.p gates (stated a)))))

      -- none is
      pub planned_done : {out : List ℕ} → length (over_all a) ≤ first_true (over_all a) → out ≡ bounds_all a → PlanPromise a (refused 0 0) out
      unfolding plan_answer plan_rows plan_bounds
      planned_done h w =
          let answer : refused 0 0 ≡ plan_answer a =
          answered_done a.p a.inputs gates (stated a) (plan_front a) r.clear all_right (omega (arith, h, length_over_gates a.p gates (stated a))) in
          record { answer = answer; bounds_left = w ∙ sym (done_or_done _ a.bounds (sym (ap (λ (x : Answer). x.number) answer))) }
