-- What the timed calls test of their loans, as one Bool each, and that this gives what the arithmetic asks.
use Rattle.std.specs.Prelude.{◌≡◌, refl, Bool, true, ◌&&◌, cond, List, ℕ, ◌+◌, ◌*◌, ◌%◌, ◌≤◌, leb, ltb, eqb, ℤ, length}
use Rattle.std.proofs.Common.{sym, ap, ◌∙◌, arith, leb-true, eqb-true, lt-ltb}
use Rattle.whole.specs.Tests.{and_left, and_right}
use Rattle.whole.specs.Lists.{every}
use Rattle.scheme.specs.Arithmetic.{is_residue}
use Rattle.scheme.specs.Loans.{Modulus}

-- even, 16 to 1,048,576
unfoldable pub is_modulus : ℕ → Bool
is_modulus q = leb 16 q && leb q 1048576 && eqb (q % 2) 0

-- the range check of a key
unfoldable pub big_residues : ℕ → List ℤ → Bool
big_residues q key = is_modulus q && every (is_residue (q * q)) key

-- t has n² entries and the key n rows of as many, all residues, and n is at most 1,024
unfoldable pub switch_lent : ℕ → List ℤ → List ℤ → ℕ → Bool
switch_lent q t key n =
    is_modulus q && leb n 1024 && eqb (length t) (n * n) && eqb (length key) (n * length t) && (every (is_residue q) t && every (is_residue (q * q)) key)

-- c and d have at most 1,024 entries, all residues, and their tensor has the entries given
unfoldable pub tensor_lent : ℕ → List ℤ → List ℤ → ℕ → Bool
tensor_lent q c d entries =
    is_modulus q && leb (length c) 1024 && leb (length d) 1024 && eqb entries (length c * length d) && (every (is_residue q) c && every (is_residue q) d)

-- a buffer after so many runs that each fill it with the value: as found after none
abbrev pub after_runs : ℕ → List ℤ → List ℤ → List ℤ
after_runs times value found = cond (ltb 0 times) value found

-- out is the buffer found, after k runs
pub record Run (value found out : List ℤ) (k : ℕ) : Type 0 where
  pub kept : length out ≡ length found
  pub after : out ≡ after_runs k value found

pub run_none : (value found : List ℤ) → Run value found found 0
run_none value found = record { kept = refl; after = refl }

pub run_more : {value found out : List ℤ} (k : ℕ) → length out ≡ length found → out ≡ value → Run value found out (k + 1)
run_more {value} {found} k l e = record { kept = l; after = e ∙ sym (ap (λ (b : Bool). cond b value found) (lt-ltb 0 (k + 1) (omega arith))) }

-- what every function of the arithmetic asks of q
pub modulus : (q : ℕ) → is_modulus q ≡ true → Modulus q
unfolding is_modulus
modulus q t =
    record {
      positive = omega (arith, leb-true 16 q (search (and_left, and_right) depth 8));
      high = leb-true q 1048576 (search (and_left, and_right) depth 8);
      even = omega (arith, eqb-true (q % 2) 0 (search (and_left, and_right) depth 8));
    }

-- what `fill_switch` and `fill_tensor` ask
pub switch_loans : (q : ℕ) (t key : List ℤ) (n : ℕ) → switch_lent q t key n ≡ true
    → Modulus q × (n ≤ 1024) × (length t ≡ n * n) × (length key ≡ n * length t) × (every (is_residue q) t ≡ true) × (every (is_residue (q * q)) key ≡ true)
unfolding switch_lent
switch_loans q t key n l = (
  modulus q (search (and_left, and_right) depth 8),
  leb-true n 1024 (search (and_left, and_right) depth 8),
  eqb-true (length t) (n * n) (search (and_left, and_right) depth 8),
  eqb-true (length key) (n * length t) (search (and_left, and_right) depth 8),
  search (and_left, and_right) depth 8,
  search (and_left, and_right) depth 8,
)

pub tensor_loans : (q : ℕ) (c d : List ℤ) (entries : ℕ) → tensor_lent q c d entries ≡ true
    → Modulus q × (every (is_residue q) c ≡ true) × (every (is_residue q) d ≡ true) × (entries ≡ length c * length d) × (length c ≤ 1024) × (length d ≤ 1024)
unfolding tensor_lent
tensor_loans q c d entries l = (
  modulus q (search (and_left, and_right) depth 8),
  search (and_left, and_right) depth 8,
  search (and_left, and_right) depth 8,
  eqb-true entries (length c * length d) (search (and_left, and_right) depth 8),
  leb-true (length c) 1024 (search (and_left, and_right) depth 8),
  leb-true (length d) 1024 (search (and_left, and_right) depth 8),
)
