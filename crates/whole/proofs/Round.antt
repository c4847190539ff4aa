-- Laws about what `specs/Round` defines that rest on a definition which a must-fail edit turns.
use Rattle.std.specs.Prelude.{ℕ, ◌+◌, ◌*◌, ◌≤◌, ◌<◌, ℤ, pos, ◌-ℤ◌, ◌*ℤ◌, nat_abs}
use Rattle.std.proofs.Math.Nat.{le_of_mul-le-mul_left}
use Rattle.std.proofs.Common.{arith}
use Rattle.std.proofs.Math.IntN.{ -ℤ-+ℤ_cancel}
use Rattle.whole.specs.Size.{size_add, size_mul}
use Rattle.whole.specs.Round.{round, round_near}

-- a quotient of at most m rounds to at most m
pub round_size : (a : ℤ) (b m : ℕ) → 0 < b → nat_abs a ≤ b * m → nat_abs (round a b) ≤ m
round_size a b m p h =
    let r : ℤ = round a b in
    let d : ℤ = pos b *ℤ r -ℤ a in
    let back : nat_abs (pos b *ℤ r) ≤ nat_abs d + nat_abs a = rw (-ℤ-+ℤ_cancel (pos b *ℤ r) a) at (size_add d a) in
    let scaled : b * (2 * nat_abs r) ≤ b * (2 * m + 1) = omega (arith, round_near a b p, size_mul (pos 2) d, size_mul (pos b) r) in
    let halved : 2 * nat_abs r ≤ 2 * m + 1 = le_of_mul-le-mul_left scaled p in
    omega arith
