-- What the arithmetic in code (the crates `modular`, `passes`, `tensor` and `switch`) asks of what it is lent. The calls above test it first and refuse.
use Rattle.std.specs.Prelude.{◌≡◌, List, ℕ, ◌*◌, ◌/◌, ◌≤◌, ◌<◌, ℤ, pos, neg_ℤ, ◌*ℤ◌, nat_abs, ◌≤ℤ◌, ◌<ℤ◌}
use Rattle.std.proofs.Common.{mul-pos, mul-le-mul}
use Rattle.whole.specs.Split.{zarith, mul_is, up_neg, dn_neg, size_is}
use Rattle.whole.specs.Lists.{Each}
use Rattle.scheme.specs.Wording.{even_square}

-- a modulus of document 01: even, and at most 2^20
pub record Modulus (q : ℕ) : Type 0 where
  pub positive : 0 < q
  pub high : q ≤ 1048576
  pub even : q ≡ 2 * (q / 2)

-- x is at most one modulus outside −m/2 to m/2−1
pub record Near (m : ℕ) (x : ℤ) : Type 0 where
  pub low : neg_ℤ (pos (3 * m)) ≤ℤ (pos 2 *ℤ x)
  pub high : (pos 2 *ℤ x) <ℤ pos (3 * m)

-- so is every x that is at most m in size
pub size_near : (m : ℕ) (x : ℤ) → 0 < m → nat_abs x ≤ m → Near m x
size_near m x p h =
    record {
      low = omega (zarith, mul_is (pos 2) x, up_neg (pos (3 * m)), dn_neg (pos (3 * m)), size_is x);
      high = omega (zarith, mul_is (pos 2) x, size_is x);
    }

-- every entry is at most m in size
abbrev pub UpTo : ℕ → List ℤ → Type 0
UpTo m xs = Each (λ x. nat_abs x ≤ m) xs

-- Q = q² of a modulus q: above 0, at most 2^40, and even
pub record Square (Q : ℕ) : Type 0 where
  pub positive : 0 < Q
  pub high : Q ≤ 1099511627776
  pub even : Q ≡ 2 * (Q / 2)

pub square : {q : ℕ} → Modulus q → Square (q * q)
square {q} m =
    record {
      positive = mul-pos m.positive m.positive;
      high = mul-le-mul m.high m.high;
      even = even_square q m.even;
    }
