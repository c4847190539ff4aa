-- What it tells that no gate is wrong, what a gate makes of its operands, and that the wires of an evaluation are ciphertexts: n residues each.
use Rattle.std.specs.Prelude.{◌≡◌, refl, true, false, List, [], ℕ, zero, suc, ◌+◌, ◌*◌, ◌≤◌, ◌<◌, ℤ, length, get_or, take, drop}
use Rattle.std.proofs.Common.{sym, ◌∙◌, arith, length-drop, length-take-le}
use Rattle.whole.specs.Lists.{Each, each_get_or, get_or_each, every, all_part_take, cut, length_cut, get_or_cut, row_ends}
use Rattle.refusal.specs.declared.Params.{Params}
use Rattle.refusal.specs.First.{some_true, none_at}
use Rattle.refusal.specs.Parameters.{InRange}
use Rattle.scheme.specs.Arithmetic.{is_residue, XOR, NOT, AND}
use Rattle.scheme.specs.Wording.{length_XOR, xor_residues, length_NOT, not_residues, length_AND, and_residues}
use Rattle.circuit.specs.declared.Gate.{Gate}
use Rattle.circuit.specs.Circuits.{gate, by_kind, gate_wire, wrong_gate, wrong_gates}
use Rattle.circuit.specs.Records.{Below, get_or_wrong_gates, gate_below}

-- ---- a gate that is not wrong

-- of gates of which none is wrong, gate i is not
pub gate_right : (own : ℕ) (gs : List Gate) (i : ℕ) (z : Gate) → some_true (wrong_gates own gs) ≡ false → i < length gs → wrong_gate (own + i) (get_or gs i z) ≡ false
gate_right own gs i z e h = sym (get_or_wrong_gates own gs i z h) ∙ none_at (wrong_gates own gs) i e

-- ---- what a gate makes of its operands

pub gate_makes : (p : Params) (W : List ℤ) (k l r : ℕ) (cs : List (List ℤ)) {c d : List ℤ} → c ≡ get_or cs l [] → d ≡ get_or cs r []
    → by_kind k (XOR p.q c d) (AND p.n p.q W c d) (NOT p.q c) ≡ gate_wire p W (gate k l r) cs
unfolding gate_wire
gate_makes p W k l r cs e f = rw (e, f)

-- ---- wires are ciphertexts: n residues each

pub record Wire (p : Params) (c : List ℤ) : Type 0 where
  pub long : length c ≡ p.n
  pub inside : every (is_residue p.q) c ≡ true

-- so are n entries from a on, where they lie among the first `to`, which are residues
pub part_wire : (p : Params) (a to : ℕ) (wires : List ℤ) → a + p.n ≤ to → to ≤ length wires → every (is_residue p.q) (take to wires) ≡ true
    → Wire p (take p.n (drop a wires))
part_wire p a to wires h g e =
    record {
      long = length-take-le p.n (drop a wires) (simp length-drop (omega arith));
      inside = all_part_take (is_residue p.q) a p.n to wires h e;
    }

-- the inputs are, where their entries are residues
pub input_wires : (p : Params) (k : ℕ) (wires : List ℤ) → k * p.n ≤ length wires → every (is_residue p.q) (take (k * p.n) wires) ≡ true
    → Each (Wire p) (cut p.n k wires)
input_wires p k wires h e =
    get_or_each []
    (λ i l.
    let below : i < k = rw length_cut at l in
    rw (get_or_cut p.n k wires i [] below) (part_wire p (i * p.n) (k * p.n) wires (row_ends p.n k i below) h e))

-- and so is what a gate that is not wrong makes of wires
pub gate_wire_lem : (p : Params) (W : List ℤ) (g : Gate) (cs : List (List ℤ)) → InRange p → Each (Wire p) cs → wrong_gate (length cs) g ≡ false → Wire p (gate_wire p W g cs)
unfolding gate_wire by_kind
gate_wire_lem p W g cs r ws e = by_kind_lem g.kind refl
  where
    below : Below (length cs) g
    below = gate_below (length cs) g e

    positive : 0 < p.q
    positive = omega (arith, r.q_low)

    left : Wire p (get_or cs g.left [])
    left = each_get_or ws g.left [] below.left_below

    right : Wire p (get_or cs g.right [])
    right = each_get_or ws g.right [] below.right_below

    by_kind_lem : (k : ℕ) → g.kind ≡ k
        → Wire p (by_kind k (XOR p.q (get_or cs g.left []) (get_or cs g.right [])) (AND p.n p.q W (get_or cs g.left []) (get_or cs g.right [])) (NOT p.q (get_or cs g.left [])))
    by_kind_lem zero f =
        record {
          long = length_XOR p.q _ _ (left.long ∙ sym right.long) ∙ left.long;
          inside = xor_residues p.q _ _ positive r.q_even;
        }
    by_kind_lem (suc zero) f = record { long = length_AND p.n p.q W _ _; inside = and_residues p.n p.q W _ _ positive r.q_even }
    by_kind_lem (suc (suc k)) f = record { long = length_NOT p.q _ ∙ left.long; inside = not_residues p.q _ positive r.q_even left.inside }
