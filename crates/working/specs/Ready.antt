-- What follows for the loans when evaluation refuses nothing, as far as working the gates needs it.
use Rattle.std.specs.Prelude.{◌≡◌, true, false, List, ℕ, ◌+◌, ◌*◌, ◌≤◌, ℤ, length, take}
use Rattle.std.proofs.Common.{◌∙◌}
use Rattle.whole.specs.Lists.{every}
use Rattle.refusal.specs.declared.Params.{Params}
use Rattle.refusal.specs.First.{some_true}
use Rattle.refusal.specs.Parameters.{InRange}
use Rattle.scheme.specs.Arithmetic.{is_residue}
use Rattle.circuit.specs.declared.Gate.{Gate}
use Rattle.circuit.specs.Circuits.{Circuit, wrong_gate, wrong_gates}
use Rattle.circuit.specs.Wires.{Wire}

-- the parameters, the switching key and the scratch, by which every gate is worked
pub record KeyReady (p : Params) (W scratch : List ℤ) : Type 0 where
  pub range : InRange p
  pub key_long : length W ≡ p.n * (p.n * p.n)
  pub key_inside : every (is_residue (p.q * p.q)) W ≡ true
  pub scratch_long : length scratch ≡ p.n * p.n

-- what the scratch holds does not count
pub key_kept : {p : Params} {W scratch new : List ℤ} → KeyReady p W scratch → length new ≡ length scratch → KeyReady p W new
key_kept r same = record { range = r.range; key_long = r.key_long; key_inside = r.key_inside; scratch_long = same ∙ r.scratch_long }

-- a circuit: the buffer has room for each wire, the inputs are there, and no gate is wrong
pub record EvaluateReady (p : Params) (inputs : ℕ) (c : Circuit) (wires W scratch : List ℤ) : Type 0 where
  pub key : KeyReady p W scratch
  pub even : c.uneven ≡ false
  pub wires_long : length wires ≡ (inputs + c.count) * p.n
  pub inside : every (is_residue p.q) (take (inputs * p.n) wires) ≡ true
  pub gates_right : some_true (wrong_gates inputs c.gates) ≡ false

-- the gate that makes the wire `own`: it is not wrong, the wires before its own are there, and the buffer has room for its own
pub record WorkGateReady (p : Params) (g : Gate) (own : ℕ) (wires W scratch : List ℤ) : Type 0 where
  pub key : KeyReady p W scratch
  pub own_inside : own * p.n + p.n ≤ length wires
  pub inside : every (is_residue p.q) (take (own * p.n) wires) ≡ true
  pub gate_right : wrong_gate own g ≡ false

-- its operands and its own stretch
pub record MakeWireReady (p : Params) (c d W scratch out : List ℤ) : Type 0 where
  pub key : KeyReady p W scratch
  pub left : Wire p c
  pub right : Wire p d
  pub out_long : length out ≡ p.n
