-- Document 01, *Refusal numbers*: the number and the place of each refusal, and what a call answers with: "0 means done", and "The place returned is the first
-- offending gate for 9 and 10 over a circuit, otherwise 0".
use Rattle.std.specs.Prelude.{◌≡◌, refl, ◌≢◌, Bool, true, false, ℕ, ◌≤◌, ◌<◌, cond, eqb, Result, Ok, Err}
use Rattle.std.proofs.Common.{sym, ap, ◌∙◌, arith, eqb-true}
use Rattle.std.proofs.lemmas.Bool.{eqb-false}
use Rattle.refusal.specs.declared.Refusal.{Refusal}
use Rattle.refusal.specs.declared.Refusal.TheVariants.{Parameters, Counts, Length, Key, Bit, Entry, Error, Bound, Gate, Budget, Mark, FileLength}

-- number and place as the paper has them
pub record Answer : Type 0 where
  pub number : ℕ
  pub place : ℕ

abbrev pub refusal_number : Refusal → ℕ
refusal_number Parameters = 1
refusal_number Counts = 2
refusal_number Length = 3
refusal_number Key = 4
refusal_number Bit = 5
refusal_number Entry = 6
refusal_number Error = 7
refusal_number Bound = 8
refusal_number (Gate g) = 9
refusal_number (Budget g) = 10
refusal_number Mark = 11
refusal_number FileLength = 12

abbrev pub refusal_place : Refusal → ℕ
refusal_place Parameters = 0
refusal_place Counts = 0
refusal_place Length = 0
refusal_place Key = 0
refusal_place Bit = 0
refusal_place Entry = 0
refusal_place Error = 0
refusal_place Bound = 0
refusal_place (Gate g) = g
refusal_place (Budget g) = g
refusal_place Mark = 0
refusal_place FileLength = 0

-- what a call answers, in the paper's form: number and place, both 0 where it is done
abbrev pub answer_to : {A : Type 0} → Result A Refusal → Answer
answer_to (Ok a) = record { number = 0; place = 0 }
answer_to (Err r) = record { number = refusal_number r; place = refusal_place r }

-- what a row of a call's refusals makes of it: where its test is true the call refuses, and otherwise it goes on
pub record RefusesWhen (test : Bool) (d : Refusal) (r : Result (Unit {0}) Refusal) : Type 0 where
  pub answer : r ≡ cond test (Err d) (Ok tt)

-- ---- number and place tell a refusal, and that there is one

-- no refusal has the number 0
pub refusal_numbered : (r : Refusal) → 0 < refusal_number r
refusal_numbered Parameters = omega arith
refusal_numbered Counts = omega arith
refusal_numbered Length = omega arith
refusal_numbered Key = omega arith
refusal_numbered Bit = omega arith
refusal_numbered Entry = omega arith
refusal_numbered Error = omega arith
refusal_numbered Bound = omega arith
refusal_numbered (Gate g) = omega arith
refusal_numbered (Budget g) = omega arith
refusal_numbered Mark = omega arith
refusal_numbered FileLength = omega arith

-- the refusal of a number and a place
unfoldable pub refusal_of : ℕ → ℕ → Refusal
refusal_of k at =
    cond (eqb k 1) Parameters
    (cond (eqb k 2) Counts
    (cond (eqb k 3) Length
    (cond (eqb k 4) Key
    (cond (eqb k 5) Bit
    (cond (eqb k 6) Entry
    (cond (eqb k 7) Error
    (cond (eqb k 8) Bound
    (cond (eqb k 9) (Gate at)
    (cond (eqb k 10) (Budget at)
    (cond (eqb k 11) Mark FileLength))))))))))

-- it has that number, where it is one of the twelve
pub numbered : (k at : ℕ) → 0 < k → k ≤ 12 → refusal_number (refusal_of k at) ≡ k
unfolding refusal_of
numbered k at low high =
    or 1 _ _ refl λ a. or 2 _ _ refl λ b. or 3 _ _ refl λ c. or 4 _ _ refl λ d. or 5 _ _ refl λ e. or 6 _ _ refl λ f. or 7 _ _ refl λ g. or 8 _ _ refl λ h. or 9 _ _ refl λ i. or 10 _ _ refl λ j. or 11 _ _ refl λ l.
    omega (arith, low, high, a, b, c, d, e, f, g, h, i, j, l)
  where
    or : (m : ℕ) (x y : Refusal) → refusal_number x ≡ m → (k ≢ m → refusal_number y ≡ k) → refusal_number (cond (eqb k m) x y) ≡ k
    or m x y e later = by_test (eqb k m) refl
      where
        by_test : (t : Bool) → eqb k m ≡ t → refusal_number (cond t x y) ≡ k
        by_test true same = e ∙ sym (eqb-true k m same)
        by_test false other = later (eqb-false k m other)

-- and where none is stated it has none
pub placed : (k : ℕ) → refusal_place (refusal_of k 0) ≡ 0
unfolding refusal_of
placed k = or 1 _ _ refl (or 2 _ _ refl (or 3 _ _ refl (or 4 _ _ refl (or 5 _ _ refl (or 6 _ _ refl (or 7 _ _ refl (or 8 _ _ refl (or 9 _ _ refl (or 10 _ _ refl (or 11 _ _ refl refl))))))))))
  where
    or : (m : ℕ) (x y : Refusal) → refusal_place x ≡ 0 → refusal_place y ≡ 0 → refusal_place (cond (eqb k m) x y) ≡ 0
    or m x y e f = by_test (eqb k m)
      where
        by_test : (t : Bool) → refusal_place (cond t x y) ≡ 0
        by_test true = e
        by_test false = f

told : (r : Refusal) → refusal_of (refusal_number r) (refusal_place r) ≡ r
unfolding refusal_of
told Parameters = refl
told Counts = refl
told Length = refl
told Key = refl
told Bit = refl
told Entry = refl
told Error = refl
told Bound = refl
told (Gate g) = refl
told (Budget g) = refl
told Mark = refl
told FileLength = refl

pub same_refusal : (r r' : Refusal) → refusal_number r ≡ refusal_number r' → refusal_place r ≡ refusal_place r' → r ≡ r'
same_refusal r r' e f = sym (told r) ∙ ap (λ (k : ℕ). refusal_of k (refusal_place r)) e ∙ ap (refusal_of (refusal_number r')) f ∙ told r'

pub refused_not_done : (r : Refusal) → 0 ≡ refusal_number r → ⊥
refused_not_done r e = omega (arith, refusal_numbered r, e)

-- so that what a call answers is told by the paper's form of it
pub same_told : {r r' : Result (Unit {0}) Refusal} → answer_to r ≡ answer_to r' → r ≡ r'
same_told {r = Ok a} {r' = Ok b} e = refl
same_told {r = Ok a} {r' = Err d} e = absurd (refused_not_done d (ap (λ (x : Answer). x.number) e))
same_told {r = Err d} {r' = Ok a} e = absurd (refused_not_done d (sym (ap (λ (x : Answer). x.number) e)))
same_told {r = Err d} {r' = Err d'} e = ap Err (same_refusal d d' (ap (λ (x : Answer). x.number) e) (ap (λ (x : Answer). x.place) e))
