-- The sum of two numbers of at most q/2 in size, which XOR and NOT reduce. Each is read from a word: they and the sum fit one, and
-- `Residue::near` takes the sum. Assumes nothing.
use Rattle.std.proofs.Common.{◌≡◌, ℕ, ◌/◌, ◌≤◌, arith, ℤ, ◌+ℤ◌, nat_abs, w64, SFits, to_z, of_z, to_z-of_z}
use Rattle.whole.specs.Size.{size_add}
use Rattle.whole.specs.Machine.{fits64}
use Rattle.scheme.specs.Loans.{Modulus, Near, size_near}

-- x, written to a word and read again
abbrev word : ℤ → ℤ
word x = to_z w64 (of_z w64 x)

module _ {q : ℕ} (x y : ℤ) (m : Modulus q) (h : nat_abs x ≤ q / 2) (g : nat_abs y ≤ q / 2) where
  size : nat_abs (x +ℤ y) ≤ q
  size = omega (arith, size_add x y)

  left : SFits w64 x
  left = fits64 x (omega (arith, m.high))

  right : SFits w64 y
  right = fits64 y (omega (arith, m.high))

  whole : SFits w64 (x +ℤ y)
  whole = fits64 (x +ℤ y) (omega (arith, size, m.high))

  pub sum_fits : SFits w64 (word x +ℤ word y)
  sum_fits = rw (to_z-of_z left, to_z-of_z right) whole

  pub sum_is : word (word x +ℤ word y) ≡ x +ℤ y
  sum_is = rw (to_z-of_z left, to_z-of_z right) (to_z-of_z whole)

  pub sum_near : Near q (word (word x +ℤ word y))
  sum_near = rw sum_is (size_near q (x +ℤ y) m.positive size)
