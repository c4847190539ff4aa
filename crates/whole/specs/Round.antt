-- Rounding a quotient to a whole number. A half goes up: round(x) is the greatest whole number not above x + 1/2.
use Rattle.std.specs.Prelude.{◌≡◌, ℕ, ◌*◌, ◌≤◌, ◌<◌, ℤ, pos, ◌+ℤ◌, ◌-ℤ◌, ◌*ℤ◌, nat_abs, ◌≤ℤ◌}
use Rattle.std.proofs.Common.{arith}
use Rattle.std.specs.Int.Signed.{shr_z}
use Rattle.whole.specs.Laws.{*ℤ_distr}
use Rattle.whole.specs.Split.{zarith, add_is, sub_is, mul_is, size_is, apart}
use Rattle.whole.specs.Floor.{Floor, floor_is, floor_most, floor_unique}

-- round(a/b): a/b + 1/2 is (2a + b)/(2b), and that is rounded down
unfoldable pub round : ℤ → ℕ → ℤ
round a b = shr_z (pos 2 *ℤ a +ℤ pos b) (2 * b)

-- it is the greatest whole number not above a/b + 1/2
pub record Greatest (a : ℤ) (b : ℕ) (k : ℤ) : Type 0 where
  pub not_above : (k *ℤ pos (2 * b)) ≤ℤ (pos 2 *ℤ a +ℤ pos b)
  pub most : (j : ℤ) → (j *ℤ pos (2 * b)) ≤ℤ (pos 2 *ℤ a +ℤ pos b) → j ≤ℤ k

pub round_greatest : (a : ℤ) (b : ℕ) → 0 < b → Greatest a b (round a b)
unfolding round
round_greatest a b h =
    let f : Floor (pos 2 *ℤ a +ℤ pos b) (2 * b) (shr_z (pos 2 *ℤ a +ℤ pos b) (2 * b)) = floor_is (pos 2 *ℤ a +ℤ pos b) (2 * b) (omega arith) in
    record { not_above = f.low; most = floor_most f }

-- b·round(a/b) differs from a by at most b/2: all that the noise facts use of rounding
pub round_near : (a : ℤ) (b : ℕ) → 0 < b → nat_abs (pos 2 *ℤ (pos b *ℤ round a b -ℤ a)) ≤ b
unfolding round
round_near a b h = near a b (round a b) (floor_is (pos 2 *ℤ a +ℤ pos b) (2 * b) (omega arith))
  where
    near : (a : ℤ) (b : ℕ) (k : ℤ) → Floor (pos 2 *ℤ a +ℤ pos b) (2 * b) k → nat_abs (pos 2 *ℤ (pos b *ℤ k -ℤ a)) ≤ b
    near a b k f =
        let d : ℤ = pos b *ℤ k -ℤ a in
        omega (
          zarith,
          f.low,
          f.high,
          mul_is k (pos (2 * b)),
          mul_is (pos 2) a,
          add_is (pos 2 *ℤ a) (pos b),
          add_is (k *ℤ pos (2 * b)) (pos (2 * b)),
          mul_is (pos b) k,
          sub_is (pos b *ℤ k) a,
          mul_is (pos 2) d,
          size_is (pos 2 *ℤ d),
          apart (pos 2 *ℤ d),
        )

-- for an even b with half h: round(a/b) is a + h divided by b and rounded down
pub round_even : (a : ℤ) (b h : ℕ) (k : ℤ) → 0 < b → b ≡ 2 * h → Floor (a +ℤ pos h) b k → round a b ≡ k
unfolding round
round_even a b h k p even f =
    floor_unique (floor_is (pos 2 *ℤ a +ℤ pos b) (2 * b) (omega arith))
    (record {
      low = omega (zarith, f.low, mul_is k (pos (2 * b)), mul_is k (pos b), mul_is (pos 2) a, add_is (pos 2 *ℤ a) (pos b), add_is a (pos h));
      high = omega (
        zarith,
        f.high,
        mul_is k (pos (2 * b)),
        mul_is k (pos b),
        mul_is (pos 2) a,
        add_is (pos 2 *ℤ a) (pos b),
        add_is a (pos h),
        add_is (k *ℤ pos b) (pos b),
        add_is (k *ℤ pos (2 * b)) (pos (2 * b)),
      );
    })

-- a multiple of b more is that many more
pub round_turn : (a k : ℤ) (b : ℕ) → 0 < b → round (a +ℤ k *ℤ pos b) b ≡ round a b +ℤ k
unfolding round
round_turn a k b p =
    let r : ℤ = shr_z (pos 2 *ℤ a +ℤ pos b) (2 * b) in
    let f : Floor (pos 2 *ℤ a +ℤ pos b) (2 * b) r = floor_is (pos 2 *ℤ a +ℤ pos b) (2 * b) (omega arith) in
    let m : ℤ = k *ℤ pos b in
    let sum : (r +ℤ k) *ℤ pos (2 * b) ≡ r *ℤ pos (2 * b) +ℤ k *ℤ pos (2 * b) = *ℤ_distr r k (pos (2 * b)) in
    floor_unique (floor_is (pos 2 *ℤ (a +ℤ m) +ℤ pos b) (2 * b) (omega arith))
    (record {
      low = omega (
        zarith,
        f.low,
        mul_is k (pos b),
        mul_is k (pos (2 * b)),
        mul_is (pos 2) a,
        mul_is (pos 2) (a +ℤ m),
        add_is a m,
        add_is (pos 2 *ℤ a) (pos b),
        add_is (pos 2 *ℤ (a +ℤ m)) (pos b),
        add_is (r *ℤ pos (2 * b)) (k *ℤ pos (2 * b)),
      );
      high = omega (
        zarith,
        f.high,
        mul_is k (pos b),
        mul_is k (pos (2 * b)),
        mul_is (pos 2) a,
        mul_is (pos 2) (a +ℤ m),
        add_is a m,
        add_is (pos 2 *ℤ a) (pos b),
        add_is (pos 2 *ℤ (a +ℤ m)) (pos b),
        add_is (r *ℤ pos (2 * b)) (k *ℤ pos (2 * b)),
        add_is (r *ℤ pos (2 * b)) (pos (2 * b)),
        add_is ((r +ℤ k) *ℤ pos (2 * b)) (pos (2 * b)),
      );
    })
