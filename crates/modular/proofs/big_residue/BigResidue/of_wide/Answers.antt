-- `BigResidue::of_wide` answers [hi·2^20 + lo]Q. What is reduced last has the rest of hi for hi, so it differs from the number by a multiple of Q (`high_reduced`).
-- That rest is below 2^40 in size, so that the sum fits. Assumes nothing.
use Rattle.std.proofs.Common.{◌≡◌, ◌*◌, ◌≤◌, ◌<◌, ℕ, [], ◌∷◌, sym, ap, ◌∙◌, arith, rules, w64, SFits, ℤ, pos, nat_abs, ◌+ℤ◌, ◌*ℤ◌, to_z, to_z-of_z}
use Rattle.std.proofs.Math.Nat.{mul-le-mul}
use Rattle.std.proofs.Math.Dec.{lit≤}
use Rattle.std.proofs.Math.Facts.{to_z_pos}
use Rattle.std.specs.Int.Signed.{quot_z, rem_z}
use Rattle.whole.specs.Ring.{by_ring, quote}
use Rattle.whole.specs.Size.{size_add, size_mul}
use Rattle.whole.specs.Rem.{quot_rem, rem_size}
use Rattle.whole.specs.Centred.{centred}
use Rattle.whole.proofs.Centred.{centred_turn}
use Rattle.whole.specs.Machine.{word, fits64, rem_fits}
use Rattle.scheme.specs.Loans.{Modulus, square}
use Rattle.modular.proofs.big_residue.BigResidue.of_wide.Goals as goal

-- the high part of a number may be reduced first
high_reduced : (Q : ℕ) (hi lo b : ℤ) → 0 < Q → centred Q (rem_z hi (pos Q) *ℤ b +ℤ lo) ≡ centred Q (hi *ℤ b +ℤ lo)
high_reduced Q hi lo b h =
    sym (ap (centred Q) (whole (quot_z hi (pos Q)) (rem_z hi (pos Q)) (pos Q) (quot_rem hi Q))
    ∙ centred_turn Q (rem_z hi (pos Q) *ℤ b +ℤ lo) (quot_z hi (pos Q) *ℤ b) h)
  where
    whole : (k r Q : ℤ) → hi ≡ k *ℤ Q +ℤ r → hi *ℤ b +ℤ lo ≡ r *ℤ b +ℤ lo +ℤ k *ℤ b *ℤ Q
    whole k r Q e = rw e (by_ring (k ∷ r ∷ Q ∷ b ∷ lo ∷ []) (search quote depth 100 fits 100000) tt)

-- what the machine reads back of each number; that the steps are safe holds of any weight b up to 2^20
module _ (q : ℕ) (hi lo : ℤ) (modulus : Modulus q) (hi_fits : SFits w64 hi) (lo_small : nat_abs lo ≤ 4611686018427387904) where
  abbrev rest : ℤ
  rest = rem_z hi (pos (q * q))

  q_back : to_z w64 q ≡ pos q
  q_back = to_z_pos w64 (omega (arith, modulus.high))

  Q_back : to_z w64 (q * q) ≡ pos (q * q)
  Q_back = to_z_pos w64 (omega (arith, (square modulus).high))

  lo_fits : SFits w64 lo
  lo_fits = fits64 lo (omega (arith, lo_small))

  rest_fits : SFits w64 rest
  rest_fits = rem_fits hi (q * q) hi_fits

  module _ (b : ℕ) (l : b ≤ 1048576) where
    scaled_size : nat_abs (rest *ℤ pos b) ≤ 1099511627776 * 1048576
    scaled_size = rw size_mul (mul-le-mul {n₂ = 1099511627776} (omega (arith, rem_size hi (q * q) (square modulus).positive, (square modulus).high)) l)

    scaled_fits : SFits w64 (rest *ℤ pos b)
    scaled_fits = fits64 _ (omega (arith, scaled_size))

    sum_fits : SFits w64 (rest *ℤ pos b +ℤ lo)
    sum_fits = fits64 _ (omega (arith, scaled_size, lo_small, size_add (rest *ℤ pos b) lo))

    machine_fits : SFits w64 (word w64 (rest *ℤ pos b) +ℤ lo)
    machine_fits = rw (to_z-of_z scaled_fits) sum_fits

pub overflow_add-x : goal.overflow_add-x
overflow_add-x c =
    let q = c.args.q in
    let hi = c.args.x.hi in
    let lo = c.args.x.lo in
    let m = c.get-wide.ensures.modulus in
    let s = c.requires in
    let held : SFits w64 hi = search rules in
    simp (c.get-wide.ensures.value, q_back q hi lo m held s, Q_back q hi lo m held s, to_z-of_z, held, rest_fits q hi lo m held s, lo_fits q hi lo m held s)
    (search (machine_fits q hi lo m held s, lit≤))

pub returns : goal.returns
returns c =
    let q = c.args.q in
    let hi = c.args.x.hi in
    let lo = c.args.x.lo in
    let m = c.get-wide.ensures.modulus in
    let s = c.requires in
    let held : SFits w64 hi = search rules in
    simp (
      c.get-wide.ensures.value,
      q_back q hi lo m held s,
      Q_back q hi lo m held s,
      to_z-of_z,
      held,
      rest_fits q hi lo m held s,
      lo_fits q hi lo m held s,
      scaled_fits q hi lo m held s 1048576 (omega arith),
      sum_fits q hi lo m held s 1048576 (omega arith),
    ) at c.of.ensures
    ∙ high_reduced (q * q) hi lo (pos 1048576) (square m).positive
