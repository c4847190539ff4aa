-- What a call answers, by its number: how the number comes row by row, and what is answered and left where it is 0 and where it is not. No function of the code works
-- a number out: the code answers with refusals (`refusal/proofs/Given`), and what it gives has the number that these laws give (`numbers_given`).
use Rattle.std.specs.Prelude.{◌≡◌, ◌≢◌, Bool, true, false, cond, List, [], ◌∷◌, ℕ, Result}
use Rattle.std.proofs.Common.{sym, ap, ◌∙◌}
use Rattle.refusal.specs.declared.Refusal.{Refusal}
use Rattle.refusal.specs.Answer.{Answer, answer_to}
use Rattle.refusal.specs.First.{Row, row, refused, first_of, place_of, answer_of, done_or, done_or_done, done_or_refused, first_row, first_none}
use Rattle.refusal.proofs.Given as code
use Rattle.scheme.specs.Calls.{Bounded, Decrypted, bounded, decrypted, states, decrypts_to}

-- ---- the number, row by row, as a function that works it out comes to it

-- n is the number of the rows
pub record Gives (rows : List Row) (n : ℕ) : Type 0 where
  pub number : n ≡ first_of rows

pub given : (rows : List Row) {n : ℕ} → Gives rows n → n ≡ first_of rows
given rows g = g.number

pub no_rows : Gives [] 0
no_rows = record { number = sym first_none }

-- of a row's test t the function has the answer b
module _ {k : ℕ} {b t : Bool} {rows : List Row} where
  -- the row applies, and the function returns
  pub stops : b ≡ t → b ≡ true → Gives (row k t ∷ rows) k
  stops e f = record { number = rw (first_row, ← e, f) }

  -- it does not, and the function goes on
  pub passes : {n : ℕ} → b ≡ t → b ≡ false → Gives rows n → Gives (row k t ∷ rows) n
  passes e f later = record { number = rw (first_row, ← e, f) later.number }

  -- a row answers, from the number m of the rows after it
  pub asks : {n m : ℕ} → n ≡ cond b k m → b ≡ t → Gives rows m → Gives (row k t ∷ rows) n
  asks n-is e later = record { number = rw (first_row, ← e, ← later.number) n-is }

-- ---- refused, and done

abbrev pub with_bound : ℕ → ℕ → ℕ → Bounded
with_bound k at B = record { number = k; place = at; bound = B }

abbrev pub with_bit : ℕ → ℕ → ℕ → Decrypted
with_bit k at b = record { number = k; place = at; bit = b }

-- the number n that was worked out is not 0: all is as found, and so it is by the definition
pub refused_kept : {A : Type 0} {n k : ℕ} (a z : A) → n ≡ k → n ≢ 0 → z ≡ done_or k a z
refused_kept a z e h = sym (done_or_refused a z (λ o. h (e ∙ o)))

-- the number is 0, and what the definition asks was written
pub done_written : {A : Type 0} {k : ℕ} {x : A} (a z : A) → k ≡ 0 → x ≡ a → x ≡ done_or k a z
done_written a z o e = e ∙ sym (done_or_done a z o)

-- what is answered, of rows whose place is 0: the number, and beside it a bound or a bit where the call has one
module _ (rows : List Row) (place : place_of rows ≡ 0) where
  answer_parts : {A : Type 0} (answer : ℕ → ℕ → ℕ → A) {n x y : ℕ} → n ≡ first_of rows → x ≡ y → answer n 0 x ≡ answer (first_of rows) (place_of rows) y
  answer_parts answer e f = rw (place, e, f)

  pub answer_given : {n : ℕ} → n ≡ first_of rows → refused n 0 ≡ answer_of rows
  answer_given e = rw (place, e)

  pub bounded_refused : {n : ℕ} (B : ℕ) → n ≡ first_of rows → n ≢ 0 → with_bound n 0 0 ≡ bounded rows B
  bounded_refused B e h = answer_parts with_bound e (refused_kept B 0 e h)

  pub bounded_done : {x : ℕ} (B : ℕ) → first_of rows ≡ 0 → x ≡ B → states x ≡ bounded rows B
  bounded_done B o e = answer_parts with_bound (sym o) (done_written B 0 o e)

  pub decrypted_refused : {n : ℕ} (b : ℕ) → n ≡ first_of rows → n ≢ 0 → with_bit n 0 0 ≡ decrypted rows b
  decrypted_refused b e h = answer_parts with_bit e (refused_kept b 0 e h)

  pub decrypted_done : {x : ℕ} (b : ℕ) → first_of rows ≡ 0 → x ≡ b → decrypts_to x ≡ decrypted rows b
  decrypted_done b o e = answer_parts with_bit (sym o) (done_written b 0 o e)

-- ---- what the code gives

pub numbers_given : {A : Type 0} (rows : List Row) {r : Result A Refusal} → code.Gives rows r → Gives rows (answer_to r).number
numbers_given rows g = record { number = ap (λ (a : Answer). a.number) (code.given rows g) }
