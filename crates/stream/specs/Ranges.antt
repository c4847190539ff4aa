-- Whether a whole number lies in a range, by tests against both ends, and what follows from the answer. Assumes nothing.
use Rattle.std.specs.Prelude.{◌≡◌, Bool, true, ◌&&◌, ℕ, ◌≤◌, T, leb, ℤ, pos, negsuc, nat_abs}
use Rattle.std.proofs.Common.{sym, true≢false, arith, SFits, leb-true}
use Rattle.std.proofs.Math.Bool.{and-true, and-eq-true_iff}
use Rattle.std.specs.Int.Signed.{le_z, non_neg}
use Rattle.std.specs.Int.{w32}

-- x is from low to high, both in the range
unfoldable pub inside : ℤ → ℤ → ℤ → Bool
inside low high x = le_z low x && le_z x high

-- a number of 32 bits from 0 up, and a signed one
abbrev pub is_word : ℤ → Bool
is_word x = inside (pos 0) (pos 4294967295) x

abbrev pub is_narrow : ℤ → Bool
is_narrow x = inside (negsuc 2147483647) (pos 2147483647) x

-- ---- what follows

-- x is from low to high, both from 0 up
pub record UpFrom (low high : ℕ) (x : ℤ) : Type 0 where
  pub up : T (non_neg x)
  pub least : low ≤ nat_abs x
  pub most : nat_abs x ≤ high

pub up_from : (low high : ℕ) (x : ℤ) → inside (pos low) (pos high) x ≡ true → UpFrom low high x
unfolding inside
up_from low high (pos n) e =
    let both = (and-eq-true_iff (leb low n) (leb n high)).0 e in
    record { up = tt; least = leb-true low n both.0; most = leb-true n high both.1 }
up_from low high (negsuc n) e = absurd (true≢false (sym e))

pub narrow_fits : (x : ℤ) → is_narrow x ≡ true → SFits w32 x
unfolding inside
narrow_fits (pos n) e = record { sfits = omega (arith, leb-true n 2147483647 e) }
narrow_fits (negsuc n) e = record { sfits = omega (arith, leb-true n 2147483647 (rw and-true at e)) }
