-- Document 01, *Refusal numbers*: what a call answers. The refusals of a call are a list of rows in the order of its checks. A row is a number with its
-- tests, one for each thing that the number is about: it applies where some test is true, and its place is the first such test. A call gives the number
-- and the place of the first row that applies, 0 and 0 where none does; a refusal returns 0 in every other number and writes no buffer.
use Rattle.std.specs.Prelude.{◌≡◌, refl, ◌⊎◌, ◌≢◌, Bool, true, false, cond, ◌&&◌, ◌||◌, List, [], ◌∷◌, ◌++◌, ℕ, zero, suc, ◌≤◌, ◌<◌, eqb, length, get_or}
use Rattle.std.proofs.Common.{sym, ap, ◌∙◌, inl, inr, suc-le-suc, not-suc-le-zero, le_of_suc-le-suc, zero-lt-suc, arith, eqb-true}
use Rattle.whole.specs.Tests.{clash, and_left, and_right}
use Rattle.whole.specs.Lists.{Each, nil, cons}
use Rattle.refusal.specs.Answer.{Answer}

-- ---- rows

-- a refusal number, and its tests
pub record Row : Type 0 where
  pub number : ℕ
  pub tests : List Bool

-- one test: the place is 0
abbrev pub row : ℕ → Bool → Row
row k t = record { number = k; tests = t ∷ [] }

-- a test for each of some things, as the gates of a circuit: the place is the first of which it is true
abbrev pub row_of : ℕ → List Bool → Row
row_of k ts = record { number = k; tests = ts }

unfoldable pub some_true : List Bool → Bool
some_true [] = false
some_true (t ∷ ts) = t || some_true ts

-- the index of the first test that is true, and how many tests there are where none is
unfoldable pub first_true : List Bool → ℕ
first_true [] = 0
first_true (t ∷ ts) = cond t 0 (suc (first_true ts))

-- ---- what is answered

abbrev pub refused : ℕ → ℕ → Answer
refused k at = record { number = k; place = at }

-- the number of the first row that applies, 0 if none does
unfoldable pub first_of : List Row → ℕ
first_of [] = 0
first_of (r ∷ rows) = cond (some_true r.tests) r.number (first_of rows)

-- and its place
unfoldable pub place_of : List Row → ℕ
place_of [] = 0
place_of (r ∷ rows) = cond (some_true r.tests) (first_true r.tests) (place_of rows)

abbrev pub answer_of : List Row → Answer
answer_of rows = refused (first_of rows) (place_of rows)

-- what a call leaves: a where its number is 0, z where it refuses
unfoldable pub done_or : {A : Type 0} → ℕ → A → A → A
done_or zero a z = a
done_or (suc k) a z = z

-- ---- rows that apply, and rows that do not

-- no test is true
abbrev pub AllFalse : List Bool → Type 0
AllFalse [] = Unit {0}
AllFalse (t ∷ ts) = (t ≡ false) × AllFalse ts

-- no row applies
abbrev pub Clear : List Row → Type 0
Clear [] = Unit {0}
Clear (r ∷ rows) = AllFalse r.tests × Clear rows

-- some row has the number k and applies
abbrev pub Applies : List Row → ℕ → Type 0
Applies [] k = ⊥
Applies (r ∷ rows) k = ((some_true r.tests ≡ true) × (r.number ≡ k)) ⊎ Applies rows k

-- the first row that applies has the number k
abbrev pub FirstApplies : List Row → ℕ → Type 0
FirstApplies [] k = ⊥
FirstApplies (r ∷ rows) k = ((some_true r.tests ≡ true) × (r.number ≡ k)) ⊎ (AllFalse r.tests × FirstApplies rows k)

-- k is the number of the first row that applies, and 0 exactly when none does
pub record First (rows : List Row) (k : ℕ) : Type 0 where
  pub given : k ≢ 0 → FirstApplies rows k
  pub done : k ≡ 0 → Clear rows
  pub clear : Clear rows → k ≡ 0

pub none_true : (ts : List Bool) → AllFalse ts → some_true ts ≡ false
unfolding some_true
none_true [] none = refl
none_true (t ∷ ts) none = rw none.0 (none_true ts none.1)

pub all_false : (ts : List Bool) → some_true ts ≡ false → AllFalse ts
unfolding some_true
all_false [] e = tt
all_false (true ∷ ts) e = clash refl e
all_false (false ∷ ts) e = (refl, all_false ts e)

-- where no row has the number 0
pub first_given : {rows : List Row} → Each (λ r. 0 < r.number) rows → First rows (first_of rows)
unfolding first_of
first_given nil = record { given = λ h. absurd (h refl); done = λ e. tt; clear = λ c. refl }
first_given (cons {x = r} {xs = rows} b up) = by_test (some_true r.tests) refl (first_given up)
  where
    by_test : (t : Bool) → some_true r.tests ≡ t → First rows (first_of rows) → First (r ∷ rows) (cond t r.number (first_of rows))
    by_test true e f = record { given = λ h. inl (e, refl); done = λ z. absurd (omega (arith, b, z)); clear = λ c. clash e (none_true r.tests c.0) }
    by_test false e f =
        let none : AllFalse r.tests = all_false r.tests e in
        record { given = λ h. inr (none, f.given h); done = λ z. (none, f.done z); clear = λ c. f.clear c.1 }

-- number 0 means that every test is false
pub first_zero : {rows : List Row} → Each (λ r. 0 < r.number) rows → first_of rows ≡ 0 → Clear rows
first_zero up e = (first_given up).done e

pub clear_first : (rows : List Row) → Clear rows → first_of rows ≡ 0
unfolding first_of
clear_first [] c = refl
clear_first (r ∷ rows) c = rw (none_true r.tests c.0) (clear_first rows c.1)

-- ---- one row after the other

pub some_one : (t : Bool) → some_true (t ∷ []) ≡ t
unfolding some_true
some_one true = refl
some_one false = refl

pub first_one : (t : Bool) → t ≡ true → first_true (t ∷ []) ≡ 0
unfolding first_true
first_one t e = rw e

pub first_row : (k : ℕ) (t : Bool) (rows : List Row) → first_of (row k t ∷ rows) ≡ cond t k (first_of rows)
unfolding first_of
first_row k t rows = ap (λ (b : Bool). cond b k (first_of rows)) (some_one t)

pub first_none : first_of [] ≡ 0
unfolding first_of
first_none = refl

pub first_last : (k : ℕ) (t : Bool) → first_of (row k t ∷ []) ≡ cond t k 0
unfolding first_of
first_last k t = first_row k t []

-- what holds of 0 and of the number of each row holds of the number given
pub first_each : (P : ℕ → Type 0) {rows : List Row} → P 0 → Each (λ r. P r.number) rows → P (first_of rows)
unfolding first_of
first_each P h nil = h
first_each P h (cons {x = r} {xs = rows} b e) = by_test (some_true r.tests) (first_each P h e)
  where
    by_test : (t : Bool) → P (first_of rows) → P (cond t r.number (first_of rows))
    by_test true later = b
    by_test false later = later

-- a row that applies, at its place; and one that does not
pub answer_row : (k : ℕ) (ts : List Bool) (rows : List Row) → some_true ts ≡ true → answer_of (row_of k ts ∷ rows) ≡ refused k (first_true ts)
unfolding first_of place_of
answer_row k ts rows e = rw e

pub answer_past : (k : ℕ) (ts : List Bool) (rows : List Row) → some_true ts ≡ false → answer_of (row_of k ts ∷ rows) ≡ answer_of rows
unfolding first_of place_of
answer_past k ts rows e = rw e

pub answer_none : answer_of [] ≡ refused 0 0
unfolding first_of place_of
answer_none = refl

-- ---- rows tested in two stages: where one of the front rows applies the answer is theirs, and where none does it is that of the rest

module _ (r : Row) (front rest : List Row) where
  one_front : (t : Bool) → cond t r.number (first_of front) ≢ 0 → (first_of front ≢ 0 → answer_of (front ++ rest) ≡ answer_of front)
      → refused (cond t r.number (first_of (front ++ rest))) (cond t (first_true r.tests) (place_of (front ++ rest)))
      ≡ refused (cond t r.number (first_of front)) (cond t (first_true r.tests) (place_of front))
  one_front true h later = refl
  one_front false h later = later h

pub answer_front : (front rest : List Row) → first_of front ≢ 0 → answer_of (front ++ rest) ≡ answer_of front
unfolding first_of place_of
answer_front [] rest h = absurd (h refl)
answer_front (r ∷ front) rest h = one_front r front rest (some_true r.tests) h (answer_front front rest)

pub answer_rest : (front rest : List Row) → Clear front → answer_of (front ++ rest) ≡ answer_of rest
unfolding first_of place_of
answer_rest [] rest clear = refl
answer_rest (r ∷ front) rest clear = rw (none_true r.tests clear.0) (answer_rest front rest clear.1)

pub first_rest : (front rest : List Row) → Clear front → first_of (front ++ rest) ≡ first_of rest
first_rest front rest clear = ap (λ (a : Answer). a.number) (answer_rest front rest clear)

pub clear_append : (front rest : List Row) → Clear (front ++ rest) → Clear front × Clear rest
clear_append [] rest c = (tt, c)
clear_append (r ∷ front) rest c = let (f, g) = clear_append front rest c.1 in ((c.0, f), g)

-- ---- rows of one test each have the place 0

-- one computed test
unfoldable pub are_single : List Row → Bool
are_single [] = true
are_single (r ∷ rows) = eqb (length r.tests) 1 && are_single rows

first_single : (ts : List Bool) → length ts ≡ 1 → some_true ts ≡ true → first_true ts ≡ 0
unfolding some_true first_true
first_single [] l e = absurd (omega (arith, l))
first_single (true ∷ ts) l e = refl
first_single (false ∷ []) l e = clash e refl
first_single (false ∷ u ∷ ts) l e = absurd (omega (arith, l))

pub place_single : (rows : List Row) → are_single rows ≡ true → place_of rows ≡ 0
unfolding place_of are_single
place_single [] s = refl
place_single (r ∷ rows) s = by_test (some_true r.tests) refl (place_single rows (and_right (eqb (length r.tests) 1) (are_single rows) s))
  where
    by_test : (t : Bool) → some_true r.tests ≡ t → place_of rows ≡ 0 → cond t (first_true r.tests) (place_of rows) ≡ 0
    by_test true e later = first_single r.tests (eqb-true (length r.tests) 1 (and_left (eqb (length r.tests) 1) (are_single rows) s)) e
    by_test false e later = later

pub first_within : (ts : List Bool) → first_true ts ≤ length ts
unfolding first_true
first_within [] = omega arith
first_within (true ∷ ts) = omega arith
first_within (false ∷ ts) = suc-le-suc (first_within ts)

-- a place is at most how many tests its row has
pub place_within : (m : ℕ) {rows : List Row} → Each (λ r. length r.tests ≤ m) rows → place_of rows ≤ m
unfolding place_of
place_within m nil = omega arith
place_within m (cons {x = r} {xs = rows} b e) = by_test (some_true r.tests) (place_within m e)
  where
    by_test : (t : Bool) → place_of rows ≤ m → cond t (first_true r.tests) (place_of rows) ≤ m
    by_test true later = omega (arith, first_within r.tests, b)
    by_test false later = later

-- ---- done, or as found

pub done_or_done : {A : Type 0} {k : ℕ} (a z : A) → k ≡ 0 → done_or k a z ≡ a
unfolding done_or
done_or_done a z e = rw e

pub done_or_refused : {A : Type 0} {k : ℕ} (a z : A) → k ≢ 0 → done_or k a z ≡ z
unfolding done_or
done_or_refused {k = zero} a z h = absurd (h refl)
done_or_refused {k = suc k} a z h = refl

-- ---- one answer: what two calls answer, or leave in a buffer, by one promise is the same, since both equal what the promise names

pub same_answer : {A : Type 0} {a b t : A} → a ≡ t → b ≡ t → a ≡ b
same_answer e f = e ∙ sym f

-- ---- the place is the first: there the test is true, and before it none is

pub first_is_true : (ts : List Bool) → some_true ts ≡ true → get_or ts (first_true ts) false ≡ true
unfolding first_true some_true
first_is_true [] e = e
first_is_true (true ∷ ts) e = refl
first_is_true (false ∷ ts) e = first_is_true ts e

pub none_before_first : (ts : List Bool) (i : ℕ) → i < first_true ts → get_or ts i false ≡ false
unfolding first_true
none_before_first [] i h = refl
none_before_first (true ∷ ts) i h = absurd (not-suc-le-zero h)
none_before_first (false ∷ ts) zero h = refl
none_before_first (false ∷ ts) (suc i) h = none_before_first ts i (le_of_suc-le-suc h)

-- a search for the place: i is at most the place while no test before i is true, one step further where the test at i is false, and the
-- place itself where it is true
pub first_past : (ts : List Bool) (i : ℕ) → i ≤ first_true ts → i < length ts → get_or ts i false ≡ false → i < first_true ts
unfolding first_true
first_past [] i a h e = absurd (not-suc-le-zero h)
first_past (true ∷ ts) zero a h e = clash refl e
first_past (true ∷ ts) (suc i) a h e = absurd (not-suc-le-zero a)
first_past (false ∷ ts) zero a h e = zero-lt-suc (first_true ts)
first_past (false ∷ ts) (suc i) a h e = suc-le-suc (first_past ts i (le_of_suc-le-suc a) (le_of_suc-le-suc h) e)

pub first_here : (ts : List Bool) (i : ℕ) → i ≤ first_true ts → get_or ts i false ≡ true → i ≡ first_true ts
unfolding first_true
first_here [] i a e = clash e refl
first_here (true ∷ ts) zero a e = refl
first_here (true ∷ ts) (suc i) a e = absurd (not-suc-le-zero a)
first_here (false ∷ ts) zero a e = clash e refl
first_here (false ∷ ts) (suc i) a e = ap suc (first_here ts i (le_of_suc-le-suc a) e)

-- some test is true exactly where the place is one of the tests'
pub some_first : (ts : List Bool) → first_true ts < length ts → some_true ts ≡ true
unfolding first_true some_true
some_first [] h = absurd (not-suc-le-zero h)
some_first (true ∷ ts) h = refl
some_first (false ∷ ts) h = some_first ts (le_of_suc-le-suc h)

pub none_first : (ts : List Bool) → length ts ≤ first_true ts → some_true ts ≡ false
unfolding first_true some_true
none_first [] h = refl
none_first (true ∷ ts) h = absurd (not-suc-le-zero h)
none_first (false ∷ ts) h = none_first ts (le_of_suc-le-suc h)

-- where none is true the test at i is not
pub none_at : (ts : List Bool) (i : ℕ) → some_true ts ≡ false → get_or ts i false ≡ false
unfolding some_true
none_at [] i e = refl
none_at (true ∷ ts) i e = clash refl e
none_at (false ∷ ts) zero e = refl
none_at (false ∷ ts) (suc i) e = none_at ts i e
