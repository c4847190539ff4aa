-- What one error adds to the count of `range::all_within`: bit 63 of its size and of the room that a size within the limit leaves below 2^63.
-- It is 0 where the error is within the limit and 1 where it is beyond.
use Rattle.std.proofs.Common.{◌≡◌, ℕ, ◌/◌, ◌<◌, ◌≤◌, Bool, true, false, cond, refl, arith}

-- the bit of n, where the test t holds exactly of the sums below 2^63
pub bit : (n : ℕ) (t : Bool) → n < 18446744073709551616 → (t ≡ true → n < 9223372036854775808) → (t ≡ false → 9223372036854775808 ≤ n)
    → n / 9223372036854775808 ≡ cond t 0 1
bit n true h low high = omega (arith, low refl)
bit n false h low high = omega (arith, high refl)
