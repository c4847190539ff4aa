-- The bound of a gate grows with the bounds of its inputs, so that tighter bounds give no larger a result.
use Rattle.std.specs.Prelude.{ℕ, ◌+◌, ◌*◌, ◌≤◌}
use Rattle.std.proofs.Common.{mul-le-mul_left, mul-le-mul, arith}
use Rattle.whole.specs.Floor.{div_mono}
use Rattle.scheme.specs.Arithmetic.{XOR_bound, NOT_bound, AND_bound}

-- larger bounds of the two inputs of XOR, a bound at least as large
pub XOR_bound_mono : {B1 B1' B2 B2' : ℕ} → B1 ≤ B1' → B2 ≤ B2' → XOR_bound B1 B2 ≤ XOR_bound B1' B2'
unfolding XOR_bound
XOR_bound_mono h1 h2 = omega arith

-- the same of the one input of NOT
pub NOT_bound_mono : {B B' : ℕ} → B ≤ B' → NOT_bound B ≤ NOT_bound B'
unfolding NOT_bound
NOT_bound_mono h = h

-- what the first of the two divisions of AND divides
numerator_mono : (q L : ℕ) {B1 B1' B2 B2' : ℕ} → B1 ≤ B1' → B2 ≤ B2'
    → 2 * q * L * (B1 + B2) + 4 * B1 * B2 + q * (L * L) ≤ 2 * q * L * (B1' + B2') + 4 * B1' * B2' + q * (L * L)
numerator_mono q L {B1} {B1'} {B2} {B2'} h1 h2 =
    let sums : 2 * q * L * (B1 + B2) ≤ 2 * q * L * (B1' + B2') = mul-le-mul_left (2 * q * L) (omega arith) in
    let products : 4 * B1 * B2 ≤ 4 * B1' * B2' = mul-le-mul (mul-le-mul_left 4 h1) h2 in
    omega arith

-- the same of the two inputs of AND
pub AND_bound_mono : (n q L F : ℕ) {B1 B1' B2 B2' : ℕ} → B1 ≤ B1' → B2 ≤ B2' → AND_bound n q L F B1 B2 ≤ AND_bound n q L F B1' B2'
unfolding AND_bound
AND_bound_mono n q L F h1 h2 = omega (arith, div_mono (2 * q) (numerator_mono q L h1 h2))
