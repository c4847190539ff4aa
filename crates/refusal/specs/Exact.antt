-- Refusal is exact, for any row: where no row in front of it applies, its number is given exactly when some test of it is true, and the place is the first such.
use Rattle.std.specs.Prelude.{◌≡◌, refl, ◌≢◌, Bool, true, false, cond, not, ◌&&◌, List, [], ◌∷◌, ◌++◌, ℕ, zero, suc, ◌<◌, eqb, length, get_or}
use Rattle.std.proofs.Common.{suc-le-suc, arith, eq-eqb}
use Rattle.std.proofs.lemmas.Bool.{not-true}
use Rattle.whole.specs.Tests.{and_left, and_right, clash}
use Rattle.refusal.specs.Answer.{Answer}
use Rattle.refusal.specs.First.{Row, some_true, first_true, refused, first_of, place_of, answer_of, Clear, all_false, answer_rest, first_is_true, none_before_first, none_at}

-- the rows that stand in front of the first with the number k: those that a call meets before it
unfoldable pub before : ℕ → List Row → List Row
before k [] = []
before k (r ∷ rows) = cond (eqb r.number k) [] (r ∷ before k rows)

-- g is the first thing of which the test is true
pub record IsFirst (ts : List Bool) (g : ℕ) : Type 0 where
  pub here : get_or ts g false ≡ true
  pub first : (i : ℕ) → i < g → get_or ts i false ≡ false

-- what is exact about the answer a, of the row r and those behind it
pub record Exact (r : Row) (rest : List Row) (a : Answer) : Type 0 where
  -- where some test is true the number is the row's ..
  pub refuses : (g : ℕ) → get_or r.tests g false ≡ true → a.number ≡ r.number
  -- .. and only there, and the place is the first such
  pub first : a.number ≡ r.number → IsFirst r.tests a.place
  -- where none is, the answer is that of the rows behind
  pub passes : ((g : ℕ) → get_or r.tests g false ≡ false) → a ≡ answer_of rest

-- no row has the number k, which is not 0: one computed test
unfoldable pub is_other : ℕ → List Row → Bool
is_other k [] = not (eqb 0 k)
is_other k (r ∷ rows) = not (eqb r.number k) && is_other k rows

other_number : (k : ℕ) (m : ℕ) → not (eqb m k) ≡ true → m ≢ k
other_number k m t e = clash (eq-eqb m k e) (not-true (eqb m k) t)

-- so that the number of such rows is not k
other_given : (k : ℕ) (rows : List Row) → is_other k rows ≡ true → first_of rows ≢ k
unfolding is_other first_of
other_given k [] o = other_number k 0 o
other_given k (r ∷ rows) o = by_test (some_true r.tests) (other_given k rows (and_right (not (eqb r.number k)) (is_other k rows) o))
  where
    by_test : (t : Bool) → first_of rows ≢ k → cond t r.number (first_of rows) ≢ k
    by_test true later = other_number k r.number (and_left (not (eqb r.number k)) (is_other k rows) o)
    by_test false later = later

pub some_test : (ts : List Bool) (g : ℕ) → get_or ts g false ≡ true → some_true ts ≡ true
some_test ts g e = by_test (some_true ts) refl
  where
    by_test : (t : Bool) → some_true ts ≡ t → t ≡ true
    by_test true f = refl
    by_test false f = clash e (none_at ts g f)

no_test : (ts : List Bool) → ((g : ℕ) → get_or ts g false ≡ false) → some_true ts ≡ false
no_test ts h = by_test (some_true ts) refl
  where
    by_test : (t : Bool) → some_true ts ≡ t → t ≡ false
    by_test true f = clash (first_is_true ts f) (h (first_true ts))
    by_test false f = refl

-- **the theorem**, of any row
pub exact : (front : List Row) (r : Row) (rest : List Row) → Clear front → is_other r.number rest ≡ true → Exact r rest (answer_of (front ++ (r ∷ rest)))
unfolding first_of place_of
exact front r rest clear other = rw (answer_rest front (r ∷ rest) clear) (by_test (some_true r.tests) refl)
  where
    by_test : (t : Bool) → some_true r.tests ≡ t
        → Exact r rest (refused (cond t r.number (first_of rest)) (cond t (first_true r.tests) (place_of rest)))
    by_test true e =
        record {
          refuses = λ g h. refl;
          first = λ given. record { here = first_is_true r.tests e; first = none_before_first r.tests };
          passes = λ none. clash e (no_test r.tests none);
        }
    by_test false e =
        record {
          refuses = λ g h. clash (some_test r.tests g h) e;
          first = λ given. absurd (other_given r.number rest other given);
          passes = λ none. refl;
        }

-- a test that is true is one of the tests
pub true_inside : (ts : List Bool) (g : ℕ) → get_or ts g false ≡ true → g < length ts
true_inside [] g e = clash e refl
true_inside (t ∷ ts) zero e = omega arith
true_inside (t ∷ ts) (suc g) e = suc-le-suc (true_inside ts g e)

-- where the number k is given, no row in front of it applies
pub given_clear : (rows : List Row) (k : ℕ) → k ≢ 0 → first_of rows ≡ k → Clear (before k rows)
unfolding first_of before
given_clear [] k h e = tt
given_clear (r ∷ rows) k h e = by_tests (eqb r.number k) (some_true r.tests) refl refl e (given_clear rows k h)
  where
    by_tests : (same t : Bool) → eqb r.number k ≡ same → some_true r.tests ≡ t → cond t r.number (first_of rows) ≡ k
        → (first_of rows ≡ k → Clear (before k rows)) → Clear (cond same [] (r ∷ before k rows))
    by_tests true t s f e later = tt
    by_tests false true s f e later = clash (eq-eqb r.number k e) s
    by_tests false false s f e later = (all_false r.tests f, later e)
