-- `evaluate` answers and writes as evaluation is defined: each return is one of the three ends of `Evaluated`. Where its own rows refuse, nothing is written; else
-- the answer and the bounds are planning's; and where planning does not refuse either (`EvaluateReady`) the wires and the scratch are what `work` leaves.
use Rattle.std.proofs.Common.{◌≡◌, List, ℕ, ℤ, Result, Ok}
use Rattle.refusal.specs.declared.Params.{Params}
use Rattle.refusal.specs.declared.Refusal.{Refusal}
use Rattle.refusal.specs.Answer.{answer_to}
use Rattle.refusal.specs.First.{first_of, none_true}
use Rattle.refusal.proofs.Given.{passed_up, done_by}
use Rattle.circuit.specs.Circuits.{Circuit, gate_rows}
use Rattle.circuit.specs.Plan.{plan_loans, PlanPromise}
use Rattle.circuit.specs.Evaluate.{EvaluateLoans, evaluate_loans, evaluate_front}
use Rattle.circuit.proofs.Passed.{evaluate_done}
use Rattle.working.specs.Ready.{EvaluateReady}
use Rattle.evaluation.proofs.Evaluated.{evaluated_early, evaluated_late, evaluated_clear, evaluated_done}
use Rattle.evaluation.proofs.evaluate.Goals as goal

-- the first stage is passed, and planning has answered
module _ (p : Params) (inputs : ℕ) (circuit : Circuit) (bounds : List ℕ) (wires W scratch : List ℤ) where
  abbrev loans : EvaluateLoans
  loans = evaluate_loans (plan_loans p inputs circuit bounds) wires W scratch

  ready : first_of (evaluate_front loans) ≡ 0 → {r : Result (Unit {0}) Refusal} {u : Unit {0}} {new : List ℕ} → PlanPromise loans.plan (answer_to r) new → r ≡ Ok u
      → EvaluateReady p inputs circuit wires W scratch
  unfolding gate_rows
  ready front planned went =
      let r = evaluate_done loans (evaluated_clear loans front planned went) in
      let h = r.passed in
      record {
        key = record { range = h.range; key_long = h.key_long; key_inside = h.key_inside; scratch_long = h.scratch_long };
        even = h.even;
        wires_long = h.wires_long;
        inside = h.inside;
        gates_right = none_true _ r.gates_clear.0;
      }

pub returns-in_err-check_evaluate : goal.returns-in_err-check_evaluate
returns-in_err-check_evaluate g c = evaluated_early _ c.check_evaluate.ensures c.in_err-check_evaluate.was (passed_up _ c.from_residual.ensures.1)

pub returns-in_err-plan : goal.returns-in_err-plan
returns-in_err-plan g c =
    evaluated_late _ (done_by _ c.check_evaluate.ensures c.in_ok-check_evaluate.was) c.plan.ensures c.in_err-plan.was
    (passed_up _ c.from_residual-in_err-plan.ensures.1)

pub work-requires : goal.work-requires
work-requires g c =
    ready _ _ _ _ _ _ _ (done_by _ c.check_evaluate.ensures c.in_ok-check_evaluate.was) c.plan.ensures c.in_ok-plan.was

pub returns : goal.returns
returns g c =
    evaluated_done _ (done_by _ c.check_evaluate.ensures c.in_ok-check_evaluate.was) c.plan.ensures c.in_ok-plan.was
    c.work.ensures.wires_after c.work.ensures.scratch_after
