-- What `Residue::up_to_half` rests on. |x| ≤ q/2, so that x is q/2, whose residue is −q/2 (`centred_middle`), or lies in the range: as the machine has the two.
-- Assumes nothing.
use Rattle.std.proofs.Common.{◌≡◌, ◌/◌, ◌≤◌, ℕ, sym, ap, ◌∙◌, true, false, arith, w64, SFits, ℤ, pos, neg_ℤ, ◌-ℤ◌, ◌≤ℤ◌, ◌<ℤ◌, nat_abs, to_z, of_z, to_z-of_z}
use Rattle.std.proofs.Math.Facts.{to_z_pos}
use Rattle.std.specs.Int.Signed.{le_z}
use Rattle.whole.specs.Tests.{le_z_true, le_z_false}
use Rattle.whole.specs.Split.{zarith, sub_is, mul_is, up_neg, dn_neg, size_is, apart}
use Rattle.whole.specs.Centred.{centred}
use Rattle.whole.proofs.Centred.{centred_middle, centred_id}
use Rattle.whole.specs.Machine.{fits64}
use Rattle.scheme.specs.Loans.{Modulus}

module _ (q : ℕ) (x : ℤ) (modulus : Modulus q) (small : nat_abs x ≤ q / 2) where
  half_back : to_z w64 (q / 2) ≡ pos (q / 2)
  half_back = to_z_pos w64 (omega (arith, modulus.high))

  neg_fits : SFits w64 (pos 0 -ℤ pos (q / 2))
  neg_fits = fits64 _ (omega (zarith, modulus.high, sub_is (pos 0) (pos (q / 2)), size_is (pos 0 -ℤ pos (q / 2)), apart (pos 0 -ℤ pos (q / 2))))

  -- q/2 itself
  middle : pos (q / 2) ≤ℤ x → pos 0 -ℤ pos (q / 2) ≡ centred q x
  middle le =
      let h = q / 2 in
      let same : pos h ≡ x = omega (zarith, small, size_is x) in
      let turned : pos 0 -ℤ pos h ≡ neg_ℤ (pos h) = omega (zarith, sub_is (pos 0) (pos h), up_neg (pos h), dn_neg (pos h)) in
      turned ∙ sym (centred_middle q h modulus.positive modulus.even) ∙ ap (centred q) same

  -- all below it
  inside : x <ℤ pos (q / 2) → x ≡ centred q x
  inside lt =
      sym (centred_id q x modulus.positive
      (omega (zarith, modulus.even, small, size_is x, mul_is (pos 2) x, up_neg (pos q), dn_neg (pos q)))
      (omega (zarith, modulus.even, mul_is (pos 2) x)))

  -- what is answered past the test, and where it fails
  pub at_half : SFits w64 x → le_z (to_z w64 (q / 2)) (to_z w64 (of_z w64 x)) ≡ true → centred q x ≡ to_z w64 (of_z w64 (pos 0 -ℤ to_z w64 (q / 2)))
  at_half f t = simp (to_z-of_z, half_back, neg_fits) (sym (middle (le_z_true _ _ (simp (to_z-of_z, f, half_back) at t))))

  pub below_half : SFits w64 x → le_z (to_z w64 (q / 2)) (to_z w64 (of_z w64 x)) ≡ false → centred q x ≡ to_z w64 (of_z w64 x)
  below_half f t = simp (to_z-of_z, f) (sym (inside (le_z_false _ _ (simp (to_z-of_z, f, half_back) at t))))
