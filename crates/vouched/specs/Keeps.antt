-- Each kind of gate keeps a ciphertext sound, by one noise fact for each.
use Rattle.std.specs.Prelude.{◌≡◌, List, [], ℕ, zero, suc, ◌+◌, ◌*◌, ◌%◌, ◌-◌, ◌<◌, ℤ, length, get_or}
use Rattle.std.proofs.Common.{sym, ◌∙◌, mul-le-mul, arith}
use Rattle.refusal.specs.declared.Params.{Params}
use Rattle.refusal.specs.Parameters.{InRange}
use Rattle.scheme.specs.Arithmetic.{XOR, XOR_bound, AND, AND_bound, NOT, NOT_bound}
use Rattle.scheme.specs.Passed.{params_in_range, length_is, key_begins, key_within}
use Rattle.scheme.specs.Wording.{length_XOR, xor_residues, length_NOT, not_residues, length_AND, and_residues}
use Rattle.noise.proofs.Gates.{xor_noise, not_noise}
use Rattle.noise.specs.Sound.{KeyFits, Sound}
use Rattle.noise.specs.Built.{BuiltFor}
use Rattle.noise.proofs.And.{and_noise}
use Rattle.circuit.specs.declared.Gate.{Gate}
use Rattle.circuit.specs.Circuits.{by_kind, gate_bit, gate_bound, gate_wire}
use Rattle.circuit.specs.Records.{Below}

-- what holds of the three choices by kind holds of the one that is made
by_kind_lem : {A B C : Type 0} (R : A → B → C → Type 0) (k : ℕ) {x a n : A} {x' a' n' : B} {x'' a'' n'' : C}
    → R x x' x'' → R a a' a'' → R n n' n'' → R (by_kind k x a n) (by_kind k x' a' n') (by_kind k x'' a'' n'')
unfolding by_kind
by_kind_lem R zero x a n = x
by_kind_lem R (suc zero) x a n = a
by_kind_lem R (suc (suc k)) x a n = n

module _ (p : Params) (s : List ℤ) (key : KeyFits p s) where
  ranges : InRange p
  ranges = params_in_range p key.params

  positive : 0 < p.q
  positive = omega (arith, ranges.q_low)

  -- ---- each kind of gate, where the bound of its result fits

  module _ (W : List ℤ) (built : BuiltFor p.n p.q p.f s W) {b1 b2 B1 B2 : ℕ} {c d : List ℤ} (v : Sound p s b1 B1 c) (w : Sound p s b2 B2 d) where
    xor_keeps : 4 * XOR_bound B1 B2 < p.q → Sound p s ((b1 + b2) % 2) (XOR_bound B1 B2) (XOR p.q c d)
    xor_keeps small =
        let same : length c ≡ length d = v.long ∙ sym w.long in
        record {
          bit = omega arith;
          long = length_XOR p.q c d same ∙ v.long;
          residues = xor_residues p.q c d positive ranges.q_even;
          quiet = xor_noise p.q s c d b1 b2 positive ranges.q_even same v.quiet w.quiet;
          fits = small;
        }

    and_keeps : 4 * AND_bound p.n p.q p.l p.f B1 B2 < p.q
        → Sound p s (b1 * b2) (AND_bound p.n p.q p.l p.f B1 B2) (AND p.n p.q W c d)
    and_keeps small =
        record {
          bit = mul-le-mul v.bit w.bit;
          long = length_AND p.n p.q W c d;
          residues = and_residues p.n p.q W c d positive ranges.q_even;
          quiet = and_noise p.n p.q p.l p.f s W c d b1 b2 B1 B2 positive ranges.q_even
              (length_is (length s) p.n key.long) v.long w.long v.residues w.residues
              (key_within p.l s key.key) built v.quiet w.quiet v.fits w.fits;
          fits = small;
        }

    not_keeps : 4 * NOT_bound B1 < p.q → Sound p s (1 - b1) (NOT_bound B1) (NOT p.q c)
    not_keeps small =
        record {
          bit = omega arith;
          long = length_NOT p.q c ∙ v.long;
          residues = not_residues p.q c positive ranges.q_even v.residues;
          quiet = not_noise p.q s c b1 positive ranges.q_even
              (key_begins p.l s key.key) (omega (arith, v.long, ranges.n_low)) v.bit v.quiet;
          fits = small;
        }

  -- so every gate keeps it, whose operands lie below its own wire
  pub gate_keeps : (W : List ℤ) → BuiltFor p.n p.q p.f s W → (own : ℕ) (g : Gate) (bs Bs : List ℕ) (cs : List (List ℤ)) → Below own g
      → ((j : ℕ) → j < own → Sound p s (get_or bs j 0) (get_or Bs j 0) (get_or cs j []))
      → 4 * gate_bound p g Bs < p.q
      → Sound p s (gate_bit g bs) (gate_bound p g Bs) (gate_wire p W g cs)
  unfolding gate_bit gate_bound gate_wire
  gate_keeps W built own g bs Bs cs below sound =
      let v : Sound p s (get_or bs g.left 0) (get_or Bs g.left 0) (get_or cs g.left []) = sound g.left below.left_below in
      let w : Sound p s (get_or bs g.right 0) (get_or Bs g.right 0) (get_or cs g.right []) = sound g.right below.right_below in
      by_kind_lem (λ b B c. 4 * B < p.q → Sound p s b B c) g.kind (xor_keeps W built v w) (and_keeps W built v w) (not_keeps W built v w)
