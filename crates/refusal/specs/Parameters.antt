-- Document 01, *Parameters*: the ranges of n, q, L, E and F, the six house sheets, and what the maker of a set answers.
use Rattle.std.specs.Prelude.{◌≡◌, refl, Bool, true, false, not, cond, ◌&&◌, List, [], ◌∷◌, map, ℕ, zero, suc, ◌*◌, ◌/◌, ◌%◌, ◌≤◌, ◌<◌, leb, ltb, eqb, length, get_or, Result, Ok, Err}
use Rattle.std.proofs.Common.{ap, ◌∙◌, arith}
use Rattle.std.proofs.Math.ListN.{get_or-map}
use borrow.Author.Tests.{ltb-true, leb-true, eqb-true, lt-ltb, le-ltb, le-leb, eq-eqb}
use Rattle.whole.specs.Tests.{and_left, and_right, and_both}
use Rattle.whole.specs.Lists.{every}
use Rattle.refusal.specs.declared.Params.{Params}
use Rattle.refusal.specs.declared.Refusal.{Refusal}
use Rattle.refusal.specs.declared.Refusal.TheVariants.{Parameters}
use Rattle.refusal.specs.Answer.{refusal_number, refusal_place, refusal_of, numbered, placed}
use Rattle.refusal.specs.First.{Row, row, first_of, first_last, done_or}

abbrev pub params : ℕ → ℕ → ℕ → ℕ → ℕ → Params
params n q l e f = record { n = n; q = q; l = l; e = e; f = f }

-- a refusal returns 0 in every other number
abbrev pub no_params : Params
no_params = params 0 0 0 0 0

abbrev pub within : ℕ → ℕ → ℕ → Bool
within low high x = leb low x && leb x high

-- n is 2 to 1,024; q is even and 16 to 1,048,576; L is 1 to 4,096; 4E < q; F is at most 65,535
unfoldable pub in_range : Params → Bool
in_range p =
    within 2 1024 p.n
    && (within 16 1048576 p.q && eqb (p.q % 2) 0)
    && within 1 4096 p.l
    && ltb (4 * p.e) p.q
    && leb p.f 65535

-- n, q, L, E and F of the six house sheets
unfoldable pub sheet_table : List (List ℕ)
sheet_table =
    (2 ∷ 16 ∷ 2 ∷ 1 ∷ 1 ∷ [])
    ∷ (4 ∷ 65536 ∷ 4 ∷ 2 ∷ 1 ∷ [])
    ∷ (8 ∷ 65536 ∷ 8 ∷ 2 ∷ 1 ∷ [])
    ∷ (16 ∷ 262144 ∷ 16 ∷ 3 ∷ 1 ∷ [])
    ∷ (64 ∷ 1048576 ∷ 64 ∷ 4 ∷ 2 ∷ [])
    ∷ (256 ∷ 1048576 ∷ 128 ∷ 8 ∷ 4 ∷ [])
    ∷ []

abbrev pub of_row : List ℕ → Params
of_row r = params (get_or r 0 0) (get_or r 1 0) (get_or r 2 0) (get_or r 3 0) (get_or r 4 0)

unfoldable pub sheets : List Params
sheets = map of_row sheet_table

unfoldable pub sheet : ℕ → Params
sheet k = get_or sheets k no_params

-- they meet the ranges: one computed test, and a law that carries it to each sheet
pub sheets_in_range : every in_range sheets ≡ true
unfolding every in_range sheets sheet_table
sheets_in_range = refl

-- ---- the maker, and the sheet of a number

unfoldable pub make_rows : Params → List Row
make_rows p = row 1 (not (in_range p)) ∷ []

unfoldable pub sheet_rows : ℕ → List Row
sheet_rows k = row 1 (not (ltb k (length sheets))) ∷ []

abbrev pub make_number : Params → ℕ
make_number p = first_of (make_rows p)

abbrev pub sheet_number : ℕ → ℕ
sheet_number k = first_of (sheet_rows k)

-- number, place and parameters of each case of the answer
unfoldable pub made_number : Result Params Refusal → ℕ
made_number (Ok p) = 0
made_number (Err r) = refusal_number r

unfoldable pub made_place : Result Params Refusal → ℕ
made_place (Ok p) = 0
made_place (Err r) = refusal_place r

unfoldable pub made_params : Result Params Refusal → Params
made_params (Ok p) = p
made_params (Err r) = no_params

-- the answer with the number k, about the parameters p
unfoldable pub answered : ℕ → Params → Result Params Refusal
answered k p = done_or k (Ok p) (Err (refusal_of k 0))

unfoldable pub made : Params → Result Params Refusal
made p = answered (make_number p) p

unfoldable pub made_sheet : ℕ → Result Params Refusal
made_sheet k = answered (sheet_number k) (sheet k)

-- where a refusal has the number
pub answered_number : (k : ℕ) (p : Params) → k ≤ 12 → made_number (answered k p) ≡ k
unfolding made_number answered done_or
answered_number zero p h = refl
answered_number (suc k) p h = numbered (suc k) 0 (omega arith) h

pub answered_place : (k : ℕ) (p : Params) → made_place (answered k p) ≡ 0
unfolding made_place answered done_or
answered_place zero p = refl
answered_place (suc k) p = placed (suc k)

pub answered_params : (k : ℕ) (p : Params) → made_params (answered k p) ≡ done_or k p no_params
unfolding made_params answered done_or
answered_params zero p = refl
answered_params (suc k) p = refl

-- of any refusal, with its place
pub refused_number : (d : Refusal) → made_number (Err d) ≡ refusal_number d
unfolding made_number
refused_number d = refl

pub refused_place : (d : Refusal) → made_place (Err d) ≡ refusal_place d
unfolding made_place
refused_place d = refl

pub refused_params : (d : Refusal) → made_params (Err d) ≡ no_params
unfolding made_params
refused_params d = refl

-- of one row with the test t, of refusal 1
pub row_answered : (t : Bool) (p : Params) → answered (first_of (row 1 t ∷ [])) p ≡ cond t (Err Parameters) (Ok p)
unfolding answered done_or refusal_of
row_answered true p = rw first_last refl
row_answered false p = rw first_last refl

pub row_number : (t : Bool) (p : Params) → made_number (answered (first_of (row 1 t ∷ [])) p) ≡ first_of (row 1 t ∷ [])
row_number true p = rw (first_last 1 true) (answered_number 1 p (omega arith))
row_number false p = rw (first_last 1 false) (answered_number 0 p (omega arith))

-- what is answered, and beside it its number, place and parameters
abbrev pub Values : ℕ → Params → Result Params Refusal → Type 0
Values k p r = (r ≡ answered k p) × ((made_number r ≡ k) × ((made_place r ≡ 0) × (made_params r ≡ done_or k p no_params)))

values : (t : Bool) (p : Params) {r : Result Params Refusal} → r ≡ answered (first_of (row 1 t ∷ [])) p → Values (first_of (row 1 t ∷ [])) p r
values t p e = (e, (ap made_number e ∙ row_number t p, (ap made_place e ∙ answered_place _ p, ap made_params e ∙ answered_params _ p)))

pub made_values : (p : Params) {r : Result Params Refusal} → r ≡ made p → Values (make_number p) p r
unfolding made make_rows
made_values p e = values (not (in_range p)) p e

pub sheet_values : (k : ℕ) {r : Result Params Refusal} → r ≡ made_sheet k → Values (sheet_number k) (sheet k) r
unfolding made_sheet sheet_rows
sheet_values k e = values (not (ltb k (length sheets))) (sheet k) e

-- the maker's two answers, and the sheet's
pub made_set : (p : Params) → in_range p ≡ true → made p ≡ Ok p
unfolding made make_rows answered done_or
made_set p e = rw (first_last, e)

pub made_refused : (p : Params) → in_range p ≡ false → made p ≡ Err Parameters
unfolding made make_rows answered done_or refusal_of
made_refused p e = rw (first_last, e)

pub sheet_set : (k : ℕ) → k < 6 → made_sheet k ≡ Ok (of_row (get_or sheet_table k []))
unfolding made_sheet sheet_rows answered done_or sheet sheets sheet_table
sheet_set k h = rw (first_last, lt-ltb k 6 h) (ap Ok (get_or-map of_row sheet_table k []))

pub sheet_refused : (k : ℕ) → 6 ≤ k → made_sheet k ≡ Err Parameters
unfolding made_sheet sheet_rows answered done_or refusal_of sheets sheet_table
sheet_refused k h = rw (first_last, le-ltb k 6 h)

-- ---- the ranges as facts

pub record InRange (p : Params) : Type 0 where
  pub n_low : 2 ≤ p.n
  pub n_high : p.n ≤ 1024
  pub q_low : 16 ≤ p.q
  pub q_high : p.q ≤ 1048576
  pub q_even : p.q ≡ 2 * (p.q / 2)
  pub l_low : 1 ≤ p.l
  pub l_high : p.l ≤ 4096
  pub e_fits : 4 * p.e < p.q
  pub f_high : p.f ≤ 65535

module _ (p : Params) where
  pub in_range_lem : in_range p ≡ true → InRange p
  unfolding in_range
  in_range_lem t =
      record {
        n_low = leb-true 2 p.n (search (and_left, and_right) depth 8);
        n_high = leb-true p.n 1024 (search (and_left, and_right) depth 8);
        q_low = leb-true 16 p.q (search (and_left, and_right) depth 8);
        q_high = leb-true p.q 1048576 (search (and_left, and_right) depth 8);
        q_even = omega (arith, eqb-true (p.q % 2) 0 (search (and_left, and_right) depth 8));
        l_low = leb-true 1 p.l (search (and_left, and_right) depth 8);
        l_high = leb-true p.l 4096 (search (and_left, and_right) depth 8);
        e_fits = ltb-true (4 * p.e) p.q (search (and_left, and_right) depth 8);
        f_high = leb-true p.f 65535 (search (and_left, and_right) depth 8);
      }

  pub range_in : InRange p → in_range p ≡ true
  unfolding in_range
  range_in r =
      and_both
      (and_both
      (and_both
      (and_both (and_both (le-leb 2 p.n r.n_low) (le-leb p.n 1024 r.n_high))
      (and_both (and_both (le-leb 16 p.q r.q_low) (le-leb p.q 1048576 r.q_high)) (eq-eqb (p.q % 2) 0 (omega (arith, r.q_even)))))
      (and_both (le-leb 1 p.l r.l_low) (le-leb p.l 4096 r.l_high)))
      (lt-ltb (4 * p.e) p.q r.e_fits))
      (le-leb p.f 65535 r.f_high)
