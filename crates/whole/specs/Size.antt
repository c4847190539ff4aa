-- Sizes: |x| is the library's `nat_abs x`, a natural. What is known of the size of a sum, a difference, a product, and of a
-- number that lies between two bounds.
use Rattle.std.specs.Prelude.{◌≡◌, refl, ℕ, suc, ◌+◌, ◌*◌, ◌≤◌, ℤ, pos, negsuc, neg_ℤ, ◌+ℤ◌, ◌-ℤ◌, ◌*ℤ◌, nat_abs, ◌≤ℤ◌}
use Rattle.std.proofs.Common.{arith}
use Rattle.whole.specs.Split.{zarith, add_is, up_neg, dn_neg, size_is, apart}

pub size_add : (x y : ℤ) → nat_abs (x +ℤ y) ≤ nat_abs x + nat_abs y
size_add x y = omega (zarith, add_is x y, size_is x, size_is y, size_is (x +ℤ y), apart (x +ℤ y))

pub size_neg : (x : ℤ) → nat_abs (neg_ℤ x) ≡ nat_abs x
size_neg x = omega (zarith, up_neg x, dn_neg x, size_is x, size_is (neg_ℤ x))

pub size_sub : (x y : ℤ) → nat_abs (x -ℤ y) ≤ nat_abs x + nat_abs y
size_sub x y = omega (arith, size_add x (neg_ℤ y), size_neg y)

pub size_mul : (x y : ℤ) → nat_abs (x *ℤ y) ≡ nat_abs x * nat_abs y
size_mul (pos a) (pos b) = refl
size_mul (pos a) (negsuc b) = size_neg (pos (a * suc b))
size_mul (negsuc a) (pos b) = size_neg (pos (suc a * b))
size_mul (negsuc a) (negsuc b) = refl

-- a number between −n and n is at most n in size, and the other way round
pub size_of_between : (x : ℤ) (n : ℕ) → neg_ℤ (pos n) ≤ℤ x → x ≤ℤ pos n → nat_abs x ≤ n
size_of_between x n lo hi = omega (zarith, up_neg (pos n), dn_neg (pos n), size_is x, apart x)

pub above_of_size : (x : ℤ) (n : ℕ) → nat_abs x ≤ n → neg_ℤ (pos n) ≤ℤ x
above_of_size x n h = omega (zarith, up_neg (pos n), dn_neg (pos n), size_is x, apart x)

pub below_of_size : (x : ℤ) (n : ℕ) → nat_abs x ≤ n → x ≤ℤ pos n
below_of_size x n h = omega (zarith, size_is x, apart x)

pub zero_of_size : (x : ℤ) → nat_abs x ≡ 0 → x ≡ pos 0
zero_of_size x h = omega (zarith, size_is x)
