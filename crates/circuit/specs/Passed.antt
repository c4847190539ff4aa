-- What follows, fact by fact, where the rows in front do not apply, of planning and of evaluation. No other file counts rows.
use Rattle.std.specs.Prelude.{◌≡◌, refl, true, false, ◌*◌, length, take}
use Rattle.std.proofs.lemmas.Bool.{not-false}
use Rattle.whole.specs.Lists.{every}
use Rattle.whole.specs.Tests.{or_left, or_right}
use Rattle.refusal.specs.First.{first_of, Clear}
use Rattle.refusal.specs.Order.{position_in, order, position, in_order}
use Rattle.refusal.proofs.Order.{first_clear}
use Rattle.refusal.specs.Parameters.{InRange}
use Rattle.scheme.specs.Arithmetic.{fits, is_residue}
use Rattle.scheme.specs.Calls.{bad_params, outside}
use Rattle.scheme.specs.Passed.{params_in_range, length_is, entries_inside}
use Rattle.circuit.specs.Circuits.{bad_counts}
use Rattle.circuit.specs.Plan.{PlanLoans, wire_count, stated, circuit_rows, plan_front}
use Rattle.circuit.specs.Evaluate.{EvaluateLoans, evaluate_front}

-- ---- planning

pub record PlanPassed (a : PlanLoans) : Type 0 where
  pub range : InRange a.p
  pub counts : bad_counts a.inputs a.circuit.count ≡ false
  pub even : a.circuit.uneven ≡ false
  pub bounds_long : length a.bounds ≡ wire_count a
  pub fit : every (fits a.p.q) (stated a) ≡ true

pub plan_clear : (a : PlanLoans) → first_of (plan_front a) ≡ 0 → Clear (plan_front a)
unfolding plan_front position_in order position in_order
plan_clear a e = first_clear (plan_front a) refl e

pub plan_passed : (a : PlanLoans) → Clear (plan_front a) → PlanPassed a
unfolding plan_front
plan_passed a t =
    let three = t.1.1.0.0 in
    record {
      range = params_in_range a.p t.0.0;
      counts = t.1.0.0;
      even = or_left _ _ three;
      bounds_long = length_is _ _ (or_right a.circuit.uneven _ three);
      fit = not-false (every (fits a.p.q) (stated a)) t.1.1.1.0.0;
    }

-- ---- evaluation

pub record EvaluatePassed (a : EvaluateLoans) : Type 0 where
  pub params : bad_params a.plan.p ≡ false
  pub range : InRange a.plan.p
  pub counts : bad_counts a.plan.inputs a.plan.circuit.count ≡ false
  pub even : a.plan.circuit.uneven ≡ false
  pub wires_long : length a.wires ≡ wire_count a.plan * a.plan.p.n
  pub bounds_long : length a.plan.bounds ≡ wire_count a.plan
  pub key_long : length a.key ≡ a.plan.p.n * (a.plan.p.n * a.plan.p.n)
  pub scratch_long : length a.scratch ≡ a.plan.p.n * a.plan.p.n
  pub inside : every (is_residue a.plan.p.q) (take (a.plan.inputs * a.plan.p.n) a.wires) ≡ true
  pub key_inside : every (is_residue (a.plan.p.q * a.plan.p.q)) a.key ≡ true

pub evaluate_clear : (a : EvaluateLoans) → first_of (evaluate_front a) ≡ 0 → Clear (evaluate_front a)
unfolding evaluate_front position_in order position in_order
evaluate_clear a e = first_clear (evaluate_front a) refl e

pub evaluate_passed : (a : EvaluateLoans) → Clear (evaluate_front a) → EvaluatePassed a
unfolding evaluate_front
evaluate_passed a t =
    let lengths = t.1.1.0.0 in
    let l = a.plan in
    let n = l.p.n in
    record {
      params = t.0.0;
      range = params_in_range l.p t.0.0;
      counts = t.1.0.0;
      even = search (or_left, or_right, lengths) depth 10;
      wires_long = length_is (length a.wires) (wire_count l * n) (search (or_left, or_right, lengths) depth 10);
      bounds_long = length_is (length l.bounds) (wire_count l) (search (or_left, or_right, lengths) depth 10);
      key_long = length_is (length a.key) (n * (n * n)) (search (or_left, or_right, lengths) depth 10);
      scratch_long = length_is (length a.scratch) (n * n) (search (or_left, or_right, lengths) depth 10);
      inside = entries_inside l.p.q (take (l.inputs * n) a.wires) (or_left _ (outside (l.p.q * l.p.q) a.key) t.1.1.1.0.0);
      key_inside = entries_inside (l.p.q * l.p.q) a.key (or_right (outside l.p.q (take (l.inputs * n) a.wires)) _ t.1.1.1.0.0);
    }

-- and of all rows of evaluation, where it answers 0
pub record EvaluateDone (a : EvaluateLoans) : Type 0 where
  pub passed : EvaluatePassed a
  pub fit : every (fits a.plan.p.q) (stated a.plan) ≡ true
  pub gates_clear : Clear (circuit_rows a.plan)
