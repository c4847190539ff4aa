-- What follows where evaluation answers 0, for each input and for each gate.
use Rattle.std.specs.Prelude.{◌≡◌, true, false, ℕ, ◌+◌, ◌*◌, ◌≤◌, ◌<◌, ℤ, length, get_or, take}
use Rattle.std.proofs.Common.{sym, ap, ◌∙◌, mul-le-mul_right, arith, length-take-le}
use mathlib.Core.List.{List, [], flatten}
use Rattle.whole.specs.Lists.{every, every_get_or, each_get_or, cut, length_cut, each_cut, flatten_cut_take, flatten_every}
use Rattle.refusal.specs.declared.Params.{Params}
use Rattle.refusal.specs.First.{first_of, some_true, none_true, none_at}
use Rattle.scheme.specs.Arithmetic.{is_residue, fits}
use Rattle.scheme.specs.Passed.{bound_fits, fits_below}
use Rattle.circuit.specs.declared.Gate.{Gate}
use Rattle.circuit.specs.Circuits.{gate_bound, bounds_of, wrong_gates, over_gates, gate_rows}
use Rattle.circuit.specs.Plan.{PlanLoans, stated}
use Rattle.circuit.specs.Evaluate.{EvaluateLoans, evaluate_rows}
use Rattle.circuit.specs.Passed.{EvaluateDone}
use Rattle.circuit.proofs.Passed.{evaluate_done}
use Rattle.circuit.proofs.Run.{run_gate}
use Rattle.circuit.specs.Records.{Below, get_or_wrong_gates, gate_below}
use Rattle.circuit.proofs.Records.{get_or_over_gates}

-- the rows of evaluation, as facts
pub record Accepted (p : Params) (inputs : ℕ) (gates : List Gate) (wires : List ℤ) (Bs : List ℕ) : Type 0 where
  pub wires_long : inputs * p.n ≤ length wires
  pub bounds_long : inputs ≤ length Bs
  pub residues : every (is_residue p.q) (take (inputs * p.n) wires) ≡ true
  pub inputs_fit : every (fits p.q) (take inputs Bs) ≡ true
  pub none_wrong : some_true (wrong_gates inputs gates) ≡ false
  pub none_over : some_true (over_gates p gates (take inputs Bs)) ≡ false

pub accepted : (a : EvaluateLoans) → first_of (evaluate_rows a) ≡ 0 → Accepted a.plan.p a.plan.inputs a.plan.circuit.gates a.wires a.plan.bounds
unfolding gate_rows
accepted a e =
    let d : EvaluateDone a = evaluate_done a e in
    let l : PlanLoans = a.plan in
    let fewer : l.inputs ≤ l.inputs + l.circuit.count = omega arith in
    record {
      wires_long = omega (arith, d.passed.wires_long, mul-le-mul_right l.p.n fewer);
      bounds_long = omega (arith, d.passed.bounds_long);
      residues = d.passed.inside;
      inputs_fit = d.fit;
      none_wrong = none_true (wrong_gates l.inputs l.circuit.gates) d.gates_clear.0;
      none_over = none_true (over_gates l.p l.circuit.gates (stated l)) d.gates_clear.1.0;
    }

module _ {p : Params} {inputs : ℕ} {gates : List Gate} {wires : List ℤ} {Bs : List ℕ} (a : Accepted p inputs gates wires Bs) where
  -- the stated bounds are one for each input
  pub stated_long : length (take inputs Bs) ≡ inputs
  stated_long = length-take-le inputs Bs a.bounds_long

  module _ (i : ℕ) (inside : i < inputs) where
    pub stated_fits : 4 * get_or (take inputs Bs) i 0 < p.q
    stated_fits = fits_below p.q _ (every_get_or (fits p.q) (take inputs Bs) i 0 a.inputs_fit (omega (arith, stated_long)))

    -- each input has n entries, which are residues
    pub input_long : length (get_or (cut p.n inputs wires) i []) ≡ p.n
    input_long = each_get_or (each_cut p.n inputs wires a.wires_long) i [] (omega (arith, length_cut p.n inputs wires))

    pub input_residues : every (is_residue p.q) (get_or (cut p.n inputs wires) i []) ≡ true
    input_residues =
        let rows : List (List ℤ) = cut p.n inputs wires in
        let joined : every (is_residue p.q) (flatten rows) ≡ true = ap (every (is_residue p.q)) (flatten_cut_take p.n inputs wires) ∙ a.residues in
        each_get_or (flatten_every (is_residue p.q) rows joined) i [] (omega (arith, length_cut p.n inputs wires))

  module _ (i : ℕ) (z : Gate) (inside : i < length gates) where
    -- the operands of gate i lie below its own wire
    pub operands_below : Below (inputs + i) (get_or gates i z)
    operands_below =
        gate_below (inputs + i) (get_or gates i z) (sym (get_or_wrong_gates inputs gates i z inside) ∙ none_at (wrong_gates inputs gates) i a.none_wrong)

    -- its bound by the formula fits
    pub gate_fits : 4 * gate_bound p (get_or gates i z) (take (inputs + i) (bounds_of p gates (take inputs Bs))) < p.q
    unfolding bounds_of
    gate_fits =
        rw (run_gate (gate_bound p) gates (take inputs Bs) i z 0 inside, stated_long) at
        (bound_fits p.q _ (sym (get_or_over_gates p gates (take inputs Bs) i inside) ∙ none_at (over_gates p gates (take inputs Bs)) i a.none_over))
