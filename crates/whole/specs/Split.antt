-- A whole number read as a difference of two naturals, z = up z − dn z, so that `omega`, which knows the naturals alone,
-- decides linear facts on ℤ: `omega (zarith, add_is x y, ..)`, with one law listed for each compound term in sight.
use Rattle.std.specs.Prelude.{◌≡◌, refl, Bool, true, false, cond, ℕ, zero, suc, ◌+◌, ◌*◌, ◌-◌, ◌≤◌, ◌<◌, min, ℤ, pos, negsuc, neg_ℤ, ◌+ℤ◌, ◌-ℤ◌, ◌*ℤ◌, nat_abs, ◌≤ℤ◌, ◌<ℤ◌, ltb}
use Rattle.std.proofs.Common.{ap, subst, arith, leb→le, le→leb, ltb→lt, lt→ltb, ltb-true, ltb-false}
use Rattle.std.proofs.Math.IntN.{sub_ℕ}

-- what is above 0, and what is below it: one of the two is 0
abbrev pub up : ℤ → ℕ
up (pos n) = n
up (negsuc n) = 0

abbrev pub dn : ℤ → ℕ
dn (pos n) = 0
dn (negsuc n) = suc n

-- ---- the operations, without subtracting

sub_cases : (a b : ℕ) (t : Bool) → ltb a b ≡ t → up (cond t (negsuc (b - suc a)) (pos (a - b))) + b ≡ dn (cond t (negsuc (b - suc a)) (pos (a - b))) + a
sub_cases a b true e = omega (arith, ltb-true a b e)
sub_cases a b false e = omega (arith, ltb-false a b e)

subℕ_is : (a b : ℕ) → up (sub_ℕ a b) + b ≡ dn (sub_ℕ a b) + a
subℕ_is a b = sub_cases a b (ltb a b) refl

pub add_is : (x y : ℤ) → up (x +ℤ y) + (dn x + dn y) ≡ dn (x +ℤ y) + (up x + up y)
add_is (pos a) (pos b) = omega arith
add_is (pos a) (negsuc b) = omega (arith, subℕ_is a (suc b))
add_is (negsuc a) (pos b) = omega (arith, subℕ_is b (suc a))
add_is (negsuc a) (negsuc b) = omega arith

pub up_neg : (x : ℤ) → up (neg_ℤ x) ≡ dn x
up_neg (pos zero) = refl
up_neg (pos (suc n)) = refl
up_neg (negsuc n) = refl

pub dn_neg : (x : ℤ) → dn (neg_ℤ x) ≡ up x
dn_neg (pos zero) = refl
dn_neg (pos (suc n)) = refl
dn_neg (negsuc n) = refl

pub sub_is : (x y : ℤ) → up (x -ℤ y) + (dn x + up y) ≡ dn (x -ℤ y) + (up x + dn y)
sub_is x y = omega (arith, add_is x (neg_ℤ y), up_neg y, dn_neg y)

pub mul_is : (x y : ℤ) → up (x *ℤ y) + (up x * dn y + dn x * up y) ≡ dn (x *ℤ y) + (up x * up y + dn x * dn y)
mul_is (pos a) (pos b) = omega arith
mul_is (pos a) (negsuc b) = omega (arith, up_neg (pos (a * suc b)), dn_neg (pos (a * suc b)))
mul_is (negsuc a) (pos b) = omega (arith, up_neg (pos (suc a * b)), dn_neg (pos (suc a * b)))
mul_is (negsuc a) (negsuc b) = omega arith

-- the size of a number is the sum of the two, and the smaller of them is 0
pub size_is : (x : ℤ) → nat_abs x ≡ up x + dn x
size_is (pos n) = omega arith
size_is (negsuc n) = omega arith

pub apart : (x : ℤ) → min (up x) (dn x) ≡ 0
apart (pos n) = omega arith
apart (negsuc n) = omega arith

-- ---- equality and order

pub eq_in : (x y : ℤ) → x ≡ y → up x + dn y ≡ up y + dn x
eq_in x y e = subst (λ (z : ℤ). up x + dn z ≡ up z + dn x) e refl

pub eq_out : (x y : ℤ) → up x + dn y ≡ up y + dn x → x ≡ y
eq_out (pos a) (pos b) e = ap pos (omega arith)
eq_out (pos a) (negsuc b) e = absurd (omega arith)
eq_out (negsuc a) (pos b) e = absurd (omega arith)
eq_out (negsuc a) (negsuc b) e = ap negsuc (omega arith)

pub le_in : (x y : ℤ) → x ≤ℤ y → up x + dn y ≤ up y + dn x
le_in (pos a) (pos b) h = omega (arith, leb→le a b h.le)
le_in (pos a) (negsuc b) h = absurd h.le
le_in (negsuc a) (pos b) h = omega arith
le_in (negsuc a) (negsuc b) h = omega (arith, leb→le b a h.le)

pub le_out : (x y : ℤ) → up x + dn y ≤ up y + dn x → x ≤ℤ y
le_out (pos a) (pos b) h = record { le = le→leb a b (omega arith) }
le_out (pos a) (negsuc b) h = absurd (omega arith)
le_out (negsuc a) (pos b) h = record { le = tt }
le_out (negsuc a) (negsuc b) h = record { le = le→leb b a (omega arith) }

pub lt_in : (x y : ℤ) → x <ℤ y → up x + dn y < up y + dn x
lt_in (pos a) (pos b) h = omega (arith, ltb→lt a b h.lt)
lt_in (pos a) (negsuc b) h = absurd h.lt
lt_in (negsuc a) (pos b) h = omega arith
lt_in (negsuc a) (negsuc b) h = omega (arith, ltb→lt b a h.lt)

pub lt_out : (x y : ℤ) → up x + dn y < up y + dn x → x <ℤ y
lt_out (pos a) (pos b) h = record { lt = lt→ltb a b (omega arith) }
lt_out (pos a) (negsuc b) h = absurd (omega arith)
lt_out (negsuc a) (pos b) h = record { lt = tt }
lt_out (negsuc a) (negsuc b) h = record { lt = lt→ltb b a (omega arith) }

pub ruleset zarith = (arith, eq_in, eq_out, le_in, le_out, lt_in, lt_out)
