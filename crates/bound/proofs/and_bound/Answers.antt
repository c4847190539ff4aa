-- `bound::and_bound` works out the bound of AND. Every product fits 64 bits by the ranges of the parameters and of the two bounds
-- (`Sizes`): the numerator is below 2^53. The bound is at most 2^40: 4·x·y is at most q·y, so that 2·q divides out. Assumes nothing.
use Rattle.std.proofs.Common.{arith, refl, ℕ, ◌+◌, ◌*◌, ◌/◌, ◌≤◌}
use Rattle.std.proofs.Math.Nat.{mul-le-mul, mul-le-mul_left, mul-le-mul_right, div-le_of_le-mul}
use Rattle.refusal.specs.declared.Params.{Params}
use Rattle.refusal.specs.Parameters.{InRange}
use Rattle.scheme.specs.Arithmetic.{AND_bound}
use Rattle.bound.specs.Ready.{AndBoundReady}
use Rattle.bound.proofs.and_bound.Goals as goal

-- the products that the search leaves, and the first quotient
record Sizes (p : Params) (x y : ℕ) : Type 0 where
  linear : 2 * p.q * p.l * (x + y) ≤ 4503599627370496
  mixed : 4 * x * y ≤ 274877906944
  square : p.q * (p.l * p.l) ≤ 17592186044416
  switched : p.n * p.n * p.f ≤ 68718428160
  quotient : (2 * p.q * p.l * (x + y) + 4 * x * y + p.q * (p.l * p.l)) / (2 * p.q) ≤ 4294967296

sizes : {p : Params} {x y : ℕ} → AndBoundReady p x y → Sizes p x y
sizes {p} {x} {y} a =
    let r : InRange p = a.range in
    let q : ℕ = p.q in
    let l : ℕ = p.l in
    let two : 2 * q ≤ 2097152 = omega (arith, r.q_high) in
    let four : 4 * x ≤ 1048576 = omega (arith, r.q_high, a.left_fits) in
    let small : y ≤ 262144 = omega (arith, r.q_high, a.right_fits) in
    let both : x + y ≤ 524288 = omega arith in
    let twice : 2 * q * l ≤ 8589934592 = mul-le-mul two r.l_high in
    let linear : 2 * q * l * (x + y) ≤ 4503599627370496 = mul-le-mul twice both in
    let limit : l * l ≤ 16777216 = mul-le-mul r.l_high r.l_high in
    let entries : p.n * p.n ≤ 1048576 = mul-le-mul r.n_high r.n_high in
    let product : l * (x + y) ≤ 2147483648 = mul-le-mul r.l_high both in
    let rest : 4 * x * y ≤ q * y = mul-le-mul_right y (omega arith) in
    let whole : l * (x + y) + y + l * l ≤ 4294967296 = omega arith in
    record {
      linear = linear;
      mixed = mul-le-mul four small;
      square = mul-le-mul r.q_high limit;
      switched = mul-le-mul entries r.f_high;
      quotient = div-le_of_le-mul (2 * q) (omega (arith, mul-le-mul_left (2 * q) whole));
    }

pub overflow_add-product-3 : goal.overflow_add-product-3
overflow_add-product-3 c = let s = sizes c.requires in omega (arith, s.linear, s.mixed, s.square)

pub overflow_add-result-2 : goal.overflow_add-result-2
overflow_add-result-2 c = let s = sizes c.requires in omega (arith, s.quotient, s.switched)

pub returns : goal.returns
unfolding AND_bound
returns c = let s = sizes c.requires in (refl, omega (arith, s.quotient, s.switched))
