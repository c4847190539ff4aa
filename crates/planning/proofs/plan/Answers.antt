-- `planning::plan` answers and writes as planning is defined: each return is one of the four ends of `Planned`. What `check_plan` tells where it does not refuse
-- (`PlanReady`) is what the functions ask for, and the buffer gets the copy of the bounds that `settle` filled.
use Rattle.std.proofs.Common.{◌≡◌, sym, ap, ◌∙◌, false, List, ◌++◌, ℕ, ◌≤◌, ◌<◌, length, take, take_at, length-take-le, arith, Result, Ok, Err}
use Rattle.refusal.specs.declared.Refusal.{Refusal}
use Rattle.refusal.specs.declared.Refusal.TheVariants.{Budget}
use Rattle.refusal.specs.Answer.{answer_to}
use Rattle.refusal.specs.First.{refused, answer_of, first_true, none_first}
use Rattle.refusal.proofs.Given.{passed_up, done_by}
use Rattle.circuit.specs.Circuits.{wrong_gates, over_gates, bounds_of}
use Rattle.circuit.specs.Plan.{PlanLoans, plan_front, PlanPromise}
use Rattle.circuit.specs.Answers.{inputs_within, gates_within}
use Rattle.checks.specs.Ready.{CircuitReady}
use Rattle.planning.specs.Ready.{SettleReady}
use Rattle.planning.proofs.Settling.{bounds_all}
use Rattle.planning.proofs.Planned.{PlanReady, plan_ready, bounds_kept, planned_early, planned_wrong, planned_over, planned_done}
use Rattle.planning.proofs.plan.Goals as goal

-- past the rows in front, where `check_plan` did not refuse
module _ (a : PlanLoans) (sized : a.circuit.uneven ≡ false → length a.circuit.gates ≡ a.circuit.count) {x : Result (Unit {0}) Refusal} {u : Unit {0}} (told : answer_to x ≡ answer_of (plan_front a)) (went : x ≡ Ok u) where
  ready : PlanReady a
  ready = plan_ready a sized (done_by (plan_front a) told went)

  circuit : CircuitReady a.inputs a.circuit
  circuit =
      let r = ready.passed in
      record { inputs_high = inputs_within _ _ r.counts; gates_high = gates_within a.inputs _ r.counts; even = r.even }

  short : length a.bounds ≤ 5120
  short = omega (arith, circuit.inputs_high, circuit.gates_high, ready.passed.bounds_long)

  -- no gate is wrong: the part of the table that was copied to is as found, with `rest` behind it
  module _ (right : length (wrong_gates a.inputs a.circuit.gates) ≤ first_true (wrong_gates a.inputs a.circuit.gates)) {new : List ℕ} (copied : new ≡ a.bounds) (rest : List ℕ) where
    abbrev table : List ℕ
    table = take (length a.bounds) (new ++ rest)

    lent : table ≡ a.bounds
    lent = rw copied (take_at a.bounds rest (length a.bounds) cc)

    to_settle : SettleReady a.p a.inputs a.circuit table
    to_settle =
        record {
          range = ready.passed.range;
          circuit = circuit;
          room = ap length lent ∙ ready.passed.bounds_long;
          fit = rw lent ready.passed.fit;
          gates_right = none_first _ right;
        }

    refused_over : {r : Result (Unit {0}) Refusal} {e : Refusal}
        → (let tests = over_gates a.p a.circuit.gates (take a.inputs table) in (e ≡ Budget (first_true tests)) × (first_true tests < length tests)) → r ≡ Err e
        → PlanPromise a (answer_to r) a.bounds
    refused_over e up = planned_over a ready right (rw lent at e) up

    done : {filled out : List ℕ} (others : List ℕ)
        → length (over_gates a.p a.circuit.gates (take a.inputs table)) ≤ first_true (over_gates a.p a.circuit.gates (take a.inputs table))
        → filled ≡ bounds_of a.p a.circuit.gates (take a.inputs table) → out ≡ take (length a.bounds) (filled ++ others) → PlanPromise a (refused 0 0) out
    done {filled} others fit after written =
        let all : filled ≡ bounds_all a = rw lent at after in
        let long : length filled ≡ length a.bounds = ap length all ∙ bounds_kept a ready in
        planned_done a ready right (rw lent at fit) (written ∙ take_at filled others (length a.bounds) long ∙ all)

pub returns-in_err-check_plan : goal.returns-in_err-check_plan
returns-in_err-check_plan g c = planned_early _ c.check_plan.ensures c.in_err-check_plan.was (passed_up _ c.from_residual.ensures.1)

pub first_wrong-requires : goal.first_wrong-requires
first_wrong-requires g c = circuit _ (g.met.C.Gates.sized _) c.check_plan.ensures c.in_ok-check_plan.was

pub returns-in-Some : goal.returns-in-Some
returns-in-Some g c = planned_wrong _ (ready _ (g.met.C.Gates.sized _) c.check_plan.ensures c.in_ok-check_plan.was) c.in-Some.ensures

pub slice_bounds-table-end : goal.slice_bounds-table-end
slice_bounds-table-end g c = short _ (g.met.C.Gates.sized _) c.check_plan.ensures c.in_ok-check_plan.was

pub slice_bounds-copy_from_slice-end : goal.slice_bounds-copy_from_slice-end
slice_bounds-copy_from_slice-end g c = sym (length-take-le _ _ (short _ (g.met.C.Gates.sized _) c.check_plan.ensures c.in_ok-check_plan.was))

pub copy_from_slice-requires : goal.copy_from_slice-requires
copy_from_slice-requires g c = length-take-le _ _ (short _ (g.met.C.Gates.sized _) c.check_plan.ensures c.in_ok-check_plan.was)

pub settle-requires : goal.settle-requires
settle-requires g c =
    to_settle _ (g.met.C.Gates.sized _) c.check_plan.ensures c.in_ok-check_plan.was c.in_default.ensures c.copy_from_slice.ensures.after _

pub returns-in_err-settle : goal.returns-in_err-settle
returns-in_err-settle g c =
    refused_over _ (g.met.C.Gates.sized _) c.check_plan.ensures c.in_ok-check_plan.was c.in_default.ensures c.copy_from_slice.ensures.after _
    c.in_err-settle.ensures.over (passed_up _ c.from_residual-in_err-settle.ensures.1)

pub returns : goal.returns
returns g c =
    done _ (g.met.C.Gates.sized _) c.check_plan.ensures c.in_ok-check_plan.was c.in_default.ensures c.copy_from_slice.ensures.after _ _
    c.in_ok-settle.ensures.over c.in_ok-settle.ensures.table_after c.copy_from_slice-2.ensures.after
