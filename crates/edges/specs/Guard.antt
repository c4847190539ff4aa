-- What the tests at run time answer (`guard`), and what follows from their answers. Assumes nothing.
use Rattle.std.specs.Prelude.{◌≡◌, refl, Bool, true, false, cond, ◌&&◌, List, [], ◌∷◌, Option, Some, None, ℕ, zero, suc, ◌+◌, ◌%◌, ◌≤◌, ◌<◌, leb, eqb, ℤ, pos, negsuc, nat_abs, FitsSigned, length, take, get_or}
use Rattle.std.proofs.Common.{ap, le_of_suc-le-suc, not-suc-le-zero, add-one, arith, take_all, leb-true, eqb-true, append-nil}
use Rattle.std.proofs.lemmas.List.{drop_all}
use Rattle.std.specs.Int.{w32}
use Rattle.whole.specs.Tests.{clash, and_left, and_right, and_both}
use Rattle.whole.specs.Lists.{every, every_suc, every_get_or, every_each}
use Rattle.scheme.specs.Loans.{Modulus, UpTo}
use Rattle.stream.specs.Front.{front}
use Rattle.stream.specs.Ranges.{inside, is_narrow, up_from, narrow_fits}

-- x is at most `most` in size
unfoldable pub is_up_to : ℕ → ℤ → Bool
is_up_to most x = leb (nat_abs x) most

-- q is even, and from 1 to 2^20
unfoldable pub is_modulus : ℤ → Bool
is_modulus q = inside (pos 1) (pos 1048576) q && eqb (nat_abs q % 2) 0

-- q where it is a modulus
unfoldable pub as_modulus : ℤ → Option ℕ
as_modulus q = cond (is_modulus q) (Some (nat_abs q)) None

-- x where it is from 0 to 65,536
unfoldable pub as_count : ℤ → Option ℕ
as_count x = cond (inside (pos 0) (pos 65536) x) (Some (nat_abs x)) None

-- the entries before the first that fails p
unfoldable pub leading : (ℤ → Bool) → List ℤ → List ℤ
leading p [] = []
leading p (x ∷ xs) = cond (p x) (x ∷ leading p xs) []

-- ---- laws

-- one that passes is at most `most` in size
pub at_most : (most : ℕ) (x : ℤ) → is_up_to most x ≡ true → nat_abs x ≤ most
unfolding is_up_to
at_most most x e = leb-true (nat_abs x) most e

-- where all entries pass, every entry is at most `most` in size
pub up_to : (most : ℕ) (xs : List ℤ) → every (is_up_to most) xs ≡ true → UpTo most xs
up_to most xs e = every_each (is_up_to most) xs (at_most most) e

-- one more entry passes
pub every_more : (p : ℤ → Bool) (xs : List ℤ) (i : ℕ) → i < length xs → every p (take i xs) ≡ true → p (get_or xs i (pos 0)) ≡ true → every p (take (i + 1) xs) ≡ true
every_more p xs i h e f = rw (add-one, every_suc p xs i (pos 0)) (and_both e f)

-- one entry fails
pub every_less : (p : ℤ → Bool) (xs : List ℤ) (i : ℕ) → i < length xs → p (get_or xs i (pos 0)) ≡ false → every p xs ≡ false
every_less p xs i h f = by_test (every p xs) refl
  where
    by_test : (t : Bool) → every p xs ≡ t → t ≡ false
    by_test true e = clash (every_get_or p xs i (pos 0) e h) f
    by_test false e = refl

-- all entries were tested
pub every_passed : (p : ℤ → Bool) (xs : List ℤ) (i : ℕ) → length xs ≤ i → every p (take i xs) ≡ true → every p xs ≡ true
every_passed p xs i h e = rw take_all at e

-- the entries before one that fails, where those pass
pub leading_less : (p : ℤ → Bool) (xs : List ℤ) (i : ℕ) → i < length xs → every p (take i xs) ≡ true → p (get_or xs i (pos 0)) ≡ false → leading p xs ≡ take i xs
unfolding leading every
leading_less p [] i h e f = absurd (not-suc-le-zero h)
leading_less p (x ∷ xs) zero h e f = rw f
leading_less p (x ∷ xs) (suc i) h e f =
    rw (and_left (p x) (every p (take i xs)) e) (ap (λ (r : List ℤ). x ∷ r) (leading_less p xs i (le_of_suc-le-suc h) (and_right (p x) (every p (take i xs)) e) f))

-- all entries, where all pass
pub leading_all : (p : ℤ → Bool) (xs : List ℤ) → every p xs ≡ true → leading p xs ≡ xs
unfolding leading every
leading_all p [] e = refl
leading_all p (x ∷ xs) e = rw (and_left (p x) (every p xs) e) (ap (λ (r : List ℤ). x ∷ r) (leading_all p xs (and_right (p x) (every p xs) e)))

-- what the functions of `modular` ask of a modulus
pub modulus_is : (q : ℤ) → is_modulus q ≡ true → Modulus (nat_abs q)
unfolding is_modulus
modulus_is q e =
    let r = up_from 1 1048576 q (and_left _ (eqb (nat_abs q % 2) 0) e) in
    record { positive = r.least; high = r.most; even = omega (arith, eqb-true (nat_abs q % 2) 0 (and_right (inside (pos 1) (pos 1048576) q) _ e)) }

-- the library's test of 32 bits is `is_narrow`
pub narrow_is : (x : ℤ) → FitsSigned w32 x → is_narrow x ≡ true
unfolding inside
narrow_is (pos n) fits = grind (arith, fits.sfits)
narrow_is (negsuc n) fits = grind (arith, fits.sfits)

pub narrow_is_not : (x : ℤ) → ¬ FitsSigned w32 x → is_narrow x ≡ false
narrow_is_not x out = by_test (is_narrow x) refl
  where
    by_test : (t : Bool) → is_narrow x ≡ t → t ≡ false
    by_test true e = absurd (out (narrow_fits x e))
    by_test false e = refl

-- as many places as entries hold just the entries
pub narrowed : (xs found : List ℤ) → every is_narrow xs ≡ true → length found ≡ length xs → front (leading is_narrow xs) found ≡ xs
unfolding front
narrowed xs found e h = rw (leading_all is_narrow xs e, drop_all (length xs) found (omega (arith, h)), append-nil)
