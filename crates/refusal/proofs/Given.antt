-- How a function comes to its refusal, row by row: by `refuse_if` and `?`, each row's test in turn. What it answers is the number and the place of the first row
-- that applies.
use Rattle.std.specs.Prelude.{◌≡◌, refl, ◌≢◌, ◌⊎◌, Bool, true, false, List, [], ◌∷◌, ℕ, Result, Ok, Err, IsErrAnd, is_ok, is_err}
use Rattle.std.proofs.Common.{sym, ap, ◌∙◌, inl, inr, ⊎_elim, arith}
use Rattle.std.proofs.lemmas.Result.{err_from_is_err_and}
use Rattle.whole.specs.Tests.{clash}
use Rattle.refusal.specs.declared.Refusal.{Refusal}
use Rattle.refusal.specs.Answer.{Answer, refusal_number, refusal_place, refusal_numbered, answer_to, RefusesWhen}
use Rattle.refusal.specs.First.{Row, row, refused, first_of, place_of, answer_of, answer_row, answer_past, answer_none, some_one, first_one, done_or, done_or_done, done_or_refused}

-- r answers what the rows give
pub record Gives {A : Type 0} (rows : List Row) (r : Result A Refusal) : Type 0 where
  pub answer : answer_to r ≡ answer_of rows

pub given : {A : Type 0} (rows : List Row) {r : Result A Refusal} → Gives rows r → answer_to r ≡ answer_of rows
given rows g = g.answer

-- ---- `?` returns the error that it meets

abbrev error_or : {A : Type 0} → Refusal → Result A Refusal → Refusal
error_or d (Ok a) = d
error_or d (Err e) = e

same_error : {A B : Type 0} {d e : Refusal} {x : Result A Refusal} {y : Result B Refusal} → x ≡ Err e → x ≡ Err d → y ≡ Err e → y ≡ Err d
same_error {d} {e} f g h = h ∙ ap Err (ap (error_or d) (sym f ∙ g))

pub passed_up : {A : Type 0} {e : Refusal} (r : Result A Refusal) → IsErrAnd r (λ x. x ≡ e) → r ≡ Err e
passed_up r h = let p = err_from_is_err_and r h in p.1 ∙ ap Err p.2

-- ---- `refuse_if` was asked with the test b and the refusal d, and answered x

asked : {b : Bool} {d : Refusal} {x : Result (Unit {0}) Refusal} → RefusesWhen b d x → ((x ≡ Err d) × (b ≡ true)) ⊎ ((x ≡ Ok tt) × (b ≡ false))
asked {b = true} q = inl (q.answer, refl)
asked {b = false} q = inr (q.answer, refl)

module _ {b : Bool} {d : Refusal} {x : Result (Unit {0}) Refusal} where
  -- it refused: the test is true, and the refusal is d
  pub was_true : {e : Refusal} → RefusesWhen b d x → x ≡ Err e → b ≡ true
  was_true q h = ⊎_elim (λ y. y.1) (λ n. clash (ap is_err h) (ap is_err n.0)) (asked q)

  pub was_refused : {e : Refusal} → RefusesWhen b d x → x ≡ Err e → x ≡ Err d
  was_refused q h = ⊎_elim (λ y. y.0) (λ n. clash (ap is_err h) (ap is_err n.0)) (asked q)

  -- it did not
  pub was_false : {u : Unit {0}} → RefusesWhen b d x → x ≡ Ok u → b ≡ false
  was_false q h = ⊎_elim (λ y. clash (ap is_ok h) (ap is_ok y.0)) (λ n. n.1) (asked q)

  -- what `?` returns of it
  pub refused_up : {A : Type 0} {e : Refusal} (r : Result A Refusal) → RefusesWhen b d x → x ≡ Err e → IsErrAnd r (λ y. y ≡ e) → r ≡ Err d
  refused_up r q h up = same_error h (was_refused q h) (passed_up r up)

-- ---- row by row

pub no_rows : {A : Type 0} (a : A) → Gives [] (Ok a)
no_rows a = record { answer = sym answer_none }

module _ {A : Type 0} {rows : List Row} {r : Result A Refusal} {t b : Bool} {d : Refusal} {x : Result (Unit {0}) Refusal} where
  -- the row applies, and `?` returns
  pub refuses : {e : Refusal} → refusal_place d ≡ 0 → RefusesWhen b d x → x ≡ Err e → b ≡ t → IsErrAnd r (λ y. y ≡ e) → Gives (row (refusal_number d) t ∷ rows) r
  refuses at q h same up =
      let applies : t ≡ true = sym same ∙ was_true q h in
      let told : answer_of (row (refusal_number d) t ∷ rows) ≡ refused (refusal_number d) 0 =
      answer_row (refusal_number d) (t ∷ []) rows (some_one t ∙ applies) ∙ ap (refused (refusal_number d)) (first_one t applies) in
      record { answer = ap answer_to (refused_up r q h up) ∙ ap (refused (refusal_number d)) at ∙ sym told }

  -- it does not, and the function goes on
  pub goes_on : {u : Unit {0}} → RefusesWhen b d x → x ≡ Ok u → b ≡ t → Gives rows r → Gives (row (refusal_number d) t ∷ rows) r
  goes_on q h same later = record { answer = later.answer ∙ sym (answer_past (refusal_number d) (t ∷ []) rows (some_one t ∙ sym same ∙ was_false q h)) }

-- the last row, whose answer the function returns as it is
pub last_row : {t b : Bool} {d : Refusal} {x : Result (Unit {0}) Refusal} → refusal_place d ≡ 0 → RefusesWhen b d x → b ≡ t → Gives (row (refusal_number d) t ∷ []) x
last_row {t} {b} {d} {x} at q same =
    ⊎_elim (λ y. refuses at q y.0 same (was_err y.0)) (λ n. goes_on q n.0 same (record { answer = ap answer_to n.0 ∙ sym answer_none })) (asked q)
  where
    was_err : x ≡ Err d → IsErrAnd x (λ y. y ≡ d)
    was_err e = rw e refl

-- ---- what a check x of the rows tells where it refuses with e, and where it does not

pub record Refused (rows : List Row) (e : Refusal) : Type 0 where
  pub number : refusal_number e ≡ first_of rows
  pub place : refusal_place e ≡ place_of rows

pub refused_by : {A : Type 0} (rows : List Row) {x : Result A Refusal} {e : Refusal} → answer_to x ≡ answer_of rows → x ≡ Err e → Refused rows e
refused_by rows told h =
    let e = sym (ap answer_to h) ∙ told in
    record { number = ap (λ (a : Answer). a.number) e; place = ap (λ (a : Answer). a.place) e }

pub done_by : {A : Type 0} (rows : List Row) {x : Result A Refusal} {a : A} → answer_to x ≡ answer_of rows → x ≡ Ok a → first_of rows ≡ 0
done_by rows told h = sym (ap (λ (a : Answer). a.number) (sym (ap answer_to h) ∙ told))

pub placed_by : {A : Type 0} (rows : List Row) {x : Result A Refusal} {a : A} → answer_to x ≡ answer_of rows → x ≡ Ok a → place_of rows ≡ 0
placed_by rows told h = sym (ap (λ (a : Answer). a.place) (sym (ap answer_to h) ∙ told))

module _ {rows : List Row} {e : Refusal} (r : Refused rows e) where
  pub refused_number : first_of rows ≢ 0
  refused_number z = absurd (omega (arith, refusal_numbered e, r.number, z))

  -- all is as found, as the definition has it
  pub refused_kept : {A : Type 0} (a z : A) → z ≡ done_or (first_of rows) a z
  refused_kept a z = sym (done_or_refused a z refused_number)

-- what the definition asks was written
pub done_written : {A : Type 0} {k : ℕ} {x : A} (a z : A) → k ≡ 0 → x ≡ a → x ≡ done_or k a z
done_written a z o e = e ∙ sym (done_or_done a z o)
