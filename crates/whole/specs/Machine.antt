-- Whole numbers in the machine's signed words: a number of a bounded size fits, and where x fits, so do its quotients and remainders,
-- and −(x+1) for a negative x. A number of 32 bits fits a word of 64 (`widened`).
use Rattle.std.specs.Prelude.{◌≡◌, refl, ℕ, zero, suc, ◌-◌, ◌/◌, ◌≤◌, ◌<◌, ℤ, pos, negsuc, neg_ℤ, ◌+ℤ◌, ◌-ℤ◌, nat_abs, ◌≤ℤ◌, ◌<ℤ◌}
use Rattle.std.proofs.Common.{ap, ◌∙◌, arith, div-le_self, SFits, to_z, of_z, to_z-of_z}
use Rattle.std.specs.Int.Signed.{mag, mag_rem, quot_z, rem_z}
use Rattle.std.specs.Int.{Width, w32, w64}
use Rattle.std.proofs.Math.Facts.{sfits_widen}
use Rattle.whole.specs.Split.{zarith, add_is, sub_is, size_is, apart}

mag_size : (z : ℤ) → mag z ≤ nat_abs z
mag_size (pos n) = omega arith
mag_size (negsuc n) = omega arith

pub fits64 : (z : ℤ) → nat_abs z < 9223372036854775808 → SFits w64 z
fits64 z h = record { sfits = omega (arith, mag_size z) }

mag_neg : (n : ℕ) → mag (neg_ℤ (pos n)) ≡ n - 1
mag_neg zero = refl
mag_neg (suc n) = omega arith

pub quot_fits : (x : ℤ) (m : ℕ) → SFits w64 x → SFits w64 (quot_z x (pos m))
quot_fits (pos a) m f = record { sfits = omega (arith, f.sfits, div-le_self a m) }
quot_fits (negsuc a) m f = record { sfits = omega (arith, f.sfits, div-le_self (suc a) m, mag_neg (suc a / m)) }

pub rem_fits : (x : ℤ) (m : ℕ) → SFits w64 x → SFits w64 (rem_z x (pos m))
rem_fits x m f = record { sfits = omega (arith, f.sfits, mag_rem x (pos m)) }

-- from 0 up `mag` is the size
pub mag_up : (x : ℤ) → pos 0 ≤ℤ x → nat_abs x ≡ mag x
mag_up (pos n) h = refl
mag_up (negsuc n) h = absurd h.le

-- and below 0 it is −(x+1), in two steps that fit
pub record Flips (x : ℤ) : Type 0 where
  pub next : SFits w64 (x +ℤ pos 1)
  pub flip : SFits w64 (pos 0 -ℤ (x +ℤ pos 1))
  pub value : pos 0 -ℤ (x +ℤ pos 1) ≡ pos (mag x)
  pub size : nat_abs x ≡ suc (mag x)

pub flips : (x : ℤ) → SFits w64 x → x <ℤ pos 0 → Flips x
flips (pos n) f h = absurd (omega (zarith, h))
flips (negsuc n) f h =
    let y : ℤ = negsuc n +ℤ pos 1 in
    record {
      next = fits64 y (omega (zarith, f.sfits, add_is (negsuc n) (pos 1), size_is y, apart y));
      flip = fits64 (pos 0 -ℤ y) (omega (zarith, f.sfits, add_is (negsuc n) (pos 1), sub_is (pos 0) y, size_is (pos 0 -ℤ y), apart (pos 0 -ℤ y)));
      value = omega (zarith, add_is (negsuc n) (pos 1), sub_is (pos 0) y);
      size = refl;
    }

-- z, written to a word and read again
abbrev pub word : Width → ℤ → ℤ
word w z = to_z w (of_z w z)

-- where it fits it is read as it was
pub word_is : {w : Width} {x y : ℤ} → x ≡ y → SFits w y → word w x ≡ y
word_is {w} e f = ap (word w) e ∙ to_z-of_z f

-- a number of 32 bits fits one of 64, and is read there as it was
pub sfits_word : {z : ℤ} → SFits w32 z → SFits w64 (word w32 z)
sfits_word f = simp (to_z-of_z, f) (sfits_widen tt f)

pub widened : {z : ℤ} → SFits w32 z → word w64 (word w32 z) ≡ z
widened f = simp (to_z-of_z, f, sfits_widen {w' = w64} tt f)
