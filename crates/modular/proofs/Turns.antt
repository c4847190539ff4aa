-- What `one_turn` rests on. x is at most one modulus outside the range, so it is in it after one turn up, one turn down or none, and a number in the range that
-- differs from x by a multiple of m is [x]m (`centred_eq`): as the machine has the three. That nothing wraps follows from 2|x| ≤ 3m. Assumes nothing.
use Rattle.std.proofs.Common.{◌≡◌, ◌<◌, ◌≤◌, ℕ, ◌*◌, sym, true, false, arith, w64, SFits, ℤ, pos, negsuc, ◌+ℤ◌, ◌-ℤ◌, ◌*ℤ◌, ◌≤ℤ◌, ◌<ℤ◌, nat_abs, to_z, to_z-of_z}
use Rattle.std.proofs.Math.Facts.{to_z_pos}
use Rattle.std.specs.Int.Signed.{le_z, lt_z}
use Rattle.whole.specs.Tests.{lt_z_true, lt_z_false, le_z_true, le_z_false}
use Rattle.whole.specs.Split.{zarith, add_is, sub_is, mul_is, up_neg, dn_neg, size_is, apart}
use Rattle.whole.specs.Size.{size_add, size_sub, size_mul}
use Rattle.whole.specs.Centred.{centred}
use Rattle.whole.proofs.Centred.{centred_eq, centred_id}
use Rattle.whole.specs.Machine.{word, fits64}
use Rattle.scheme.specs.Loans.{Near}

-- a near number is at most 3m/2 in size
near_size : (m : ℕ) (x : ℤ) → Near m x → 2 * nat_abs x ≤ 3 * m
near_size m x n = omega (zarith, n.low, n.high, mul_is (pos 2) x, up_neg (pos (3 * m)), dn_neg (pos (3 * m)), size_is x, apart x)

-- one turn up, one turn down, none
turn_up : (m : ℕ) (x : ℤ) → 0 < m → Near m x → (pos 2 *ℤ x) <ℤ (pos 0 -ℤ pos m) → x +ℤ pos m ≡ centred m x
turn_up m x p n low =
    let r : ℤ = x +ℤ pos m in
    sym (centred_eq p
    (record {
      low = omega (zarith, n.low, mul_is (pos 2) x, mul_is (pos 2) r, add_is x (pos m), up_neg (pos m), dn_neg (pos m), up_neg (pos (3 * m)), dn_neg (pos (3 * m)));
      high = omega (zarith, low, mul_is (pos 2) x, mul_is (pos 2) r, add_is x (pos m), sub_is (pos 0) (pos m));
      turns = negsuc 0;
      off = omega (zarith, add_is x (pos m), mul_is (negsuc 0) (pos m), add_is r (negsuc 0 *ℤ pos m));
    }))

turn_down : (m : ℕ) (x : ℤ) → 0 < m → Near m x → pos m ≤ℤ (pos 2 *ℤ x) → x -ℤ pos m ≡ centred m x
turn_down m x p n high =
    let r : ℤ = x -ℤ pos m in
    sym (centred_eq p
    (record {
      low = omega (zarith, high, mul_is (pos 2) x, mul_is (pos 2) r, sub_is x (pos m), up_neg (pos m), dn_neg (pos m));
      high = omega (zarith, n.high, mul_is (pos 2) x, mul_is (pos 2) r, sub_is x (pos m));
      turns = pos 1;
      off = omega (zarith, sub_is x (pos m), mul_is (pos 1) (pos m), add_is r (pos 1 *ℤ pos m));
    }))

no_turn : (m : ℕ) (x : ℤ) → 0 < m → (pos 0 -ℤ pos m) ≤ℤ (pos 2 *ℤ x) → (pos 2 *ℤ x) <ℤ pos m → x ≡ centred m x
no_turn m x p low high = sym (centred_id m x p (omega (zarith, low, sub_is (pos 0) (pos m), up_neg (pos m), dn_neg (pos m))) high)

-- what the machine reads back of each number
module _ (m : ℕ) (x : ℤ) (high : m ≤ 1099511627776) (near : Near m x) where
  m_back : to_z w64 m ≡ pos m
  m_back = to_z_pos w64 (omega (arith, high))

  small : nat_abs x ≤ 1649267441664
  small = omega (arith, high, near_size m x near)

  double_fits : SFits w64 (pos 2 *ℤ x)
  double_fits = fits64 _ (omega (arith, small, size_mul (pos 2) x))

  neg_fits : SFits w64 (pos 0 -ℤ pos m)
  neg_fits = fits64 _ (omega (arith, high, size_sub (pos 0) (pos m)))

  up_fits : SFits w64 (x +ℤ pos m)
  up_fits = fits64 _ (omega (arith, small, high, size_add x (pos m)))

  down_fits : SFits w64 (x -ℤ pos m)
  down_fits = fits64 _ (omega (arith, small, high, size_sub x (pos m)))

  -- what is answered past each test, and past both
  pub turned_up : 0 < m → SFits w64 x → lt_z (word w64 (pos 2 *ℤ word w64 x)) (word w64 (pos 0 -ℤ to_z w64 m)) ≡ true → centred m x ≡ word w64 (word w64 x +ℤ to_z w64 m)
  turned_up p f t = simp (to_z-of_z, f, m_back, up_fits) (sym (turn_up m x p near (lt_z_true _ _ (simp (to_z-of_z, f, m_back, double_fits, neg_fits) at t))))

  pub turned_down : 0 < m → SFits w64 x → le_z (to_z w64 m) (word w64 (pos 2 *ℤ word w64 x)) ≡ true → centred m x ≡ word w64 (word w64 x -ℤ to_z w64 m)
  turned_down p f t = simp (to_z-of_z, f, m_back, down_fits) (sym (turn_down m x p near (le_z_true _ _ (simp (to_z-of_z, f, m_back, double_fits) at t))))

  pub not_turned : 0 < m → SFits w64 x → lt_z (word w64 (pos 2 *ℤ word w64 x)) (word w64 (pos 0 -ℤ to_z w64 m)) ≡ false
      → le_z (to_z w64 m) (word w64 (pos 2 *ℤ word w64 x)) ≡ false
      → centred m x ≡ word w64 x
  not_turned p f t u =
      simp (to_z-of_z, f)
      (sym (no_turn m x p
      (lt_z_false _ _ (simp (to_z-of_z, f, m_back, double_fits, neg_fits) at t))
      (le_z_false _ _ (simp (to_z-of_z, f, m_back, double_fits) at u))))
