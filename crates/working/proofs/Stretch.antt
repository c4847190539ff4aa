-- The stretch of one wire, and the operands of its gate, which lie before it.
use Rattle.std.proofs.Common.{◌≡◌, sym, ◌∙◌, true, List, [], ◌++◌, ℕ, ◌+◌, ◌*◌, ◌-◌, ◌≤◌, arith, length, take, drop, drop-drop}
use lib.IntN.{ℤ}
use Rattle.std.proofs.Math.Nat.{add-sub_cancel_left}
use Rattle.whole.specs.Lists.{every, cut, get_or_cut, part_take}
use Rattle.refusal.specs.declared.Params.{Params}
use Rattle.scheme.specs.Arithmetic.{is_residue, XOR, NOT, AND}
use Rattle.circuit.specs.declared.Gate.{Gate}
use Rattle.circuit.specs.Circuits.{by_kind, gate_wire}
use Rattle.circuit.specs.Records.{Below}
use Rattle.circuit.specs.Wires.{Wire, part_wire, gate_makes}

-- x is the wire that begins at a
pub record Operand (p : Params) (a : ℕ) (wires x : List ℤ) : Type 0 where
  pub is : x ≡ take p.n (drop a wires)
  pub wire : Wire p x

-- so are the n entries from a on of those before `at`
pub operand : (p : Params) (a at : ℕ) (wires before : List ℤ) → before ≡ take at wires → a + p.n ≤ at → at + p.n ≤ length wires
    → every (is_residue p.q) (take at wires) ≡ true → Operand p a wires (take (a + p.n - a) (drop a before))
operand p a at wires before e h g r =
    let is : take (a + p.n - a) (drop a before) ≡ take p.n (drop a wires) = rw (e, add-sub_cancel_left) (part_take a p.n at wires h) in
    record { is = is; wire = rw is (part_wire p a at wires h (omega arith) r) }

-- what a gate makes of its operands is its wire, of the wires before its own
pub made : (p : Params) (W : List ℤ) (g : Gate) (own : ℕ) (wires : List ℤ) {x y out : List ℤ} → Below own g → Operand p (g.left * p.n) wires x
    → Operand p (g.right * p.n) wires y → out ≡ by_kind g.kind (XOR p.q x y) (AND p.n p.q W x y) (NOT p.q x)
    → out ≡ gate_wire p W g (cut p.n own wires)
made p W g own wires below left right e =
    e
    ∙ gate_makes p W g.kind g.left g.right (cut p.n own wires)
    (left.is ∙ sym (get_or_cut p.n own wires g.left [] below.left_below))
    (right.is ∙ sym (get_or_cut p.n own wires g.right [] below.right_below))

-- it is written at the front of what is not before `at`
pub written : (at n : ℕ) (wires before behind : List ℤ) {new made : List ℤ} → before ≡ take at wires → behind ≡ drop at wires → new ≡ made
    → before ++ (new ++ drop n behind) ≡ take at wires ++ (made ++ drop (at + n) wires)
written at n wires before behind e f g = rw (e, f, g, drop-drop)
