-- What a call in the store lends, by what is left of it, and what a buffer takes of a list. Assumes nothing.
use Rattle.std.specs.Prelude.{◌≡◌, refl, cond, List, [], ℕ, ◌≤◌, ◌<◌, ℤ, pos, length, get_or, take, drop}
use Rattle.std.proofs.Common.{arith}
use Rattle.std.proofs.Math.Bool.{true, false}
use Rattle.std.proofs.Math.Dec.{leb}
use borrow.Author.Tests.{le-leb, lt-leb}
use Rattle.refusal.specs.declared.Params.{Params}
use Rattle.refusal.specs.Parameters.{params}
use Rattle.stream.specs.Bounds.{CountIn}
use Rattle.stream.specs.Front.{front, front_counts}
use Rattle.calls.specs.Width.{word}

-- the number at a place of what is left, and 0 beyond it
abbrev pub number_at : List ℤ → ℕ → ℤ
number_at rest at = get_or rest at (pos 0)

-- as a number of 32 bits from 0 up
abbrev pub word_at : List ℤ → ℕ → ℕ
word_at rest at = word (number_at rest at)

-- the list in front, whose count comes before it, and none where the call ends before it does
unfoldable pub list_of : List ℤ → List ℤ
list_of rest = cond (leb (word_at rest 0) (length (drop 1 rest))) (take (word_at rest 0) (drop 1 rest)) []

-- what is left after that list
abbrev pub past_list : List ℤ → List ℤ
past_list rest = drop (word_at rest 0) (drop 1 rest)

-- n, q, L, E and F
abbrev pub params_of : List ℤ → Params
params_of rest = params (word_at rest 0) (word_at rest 1) (word_at rest 2) (word_at rest 3) (word_at rest 4)

-- ---- a list in a buffer

module _ {A : Type 0} where
  -- the list, where so many entries have room for it, and otherwise none
  unfoldable pub fitting : ℕ → List A → List A
  fitting room xs = cond (leb (length xs) room) xs []

  -- n entries of xs were taken into the buffer found, and out is left: the list stands at its front, the rest is as found
  abbrev pub Took : List A → List A → ℕ → List A → Type 0
  Took xs found n out =
      (n ≡ length (fitting (length found) xs)) × (out ≡ front (fitting (length found) xs) found) × CountIn n out × (length out ≡ length found)

  -- none of them, where there is no room
  pub took_none : (xs found : List A) → length found < length xs → Took xs found 0 found
  unfolding fitting front
  took_none xs found h =
      let e : leb (length xs) (length found) ≡ false = lt-leb (length xs) (length found) h in
      (rw e, rw e, (omega arith, refl), refl)

  -- and otherwise all
  pub took_all : (xs found out : List A) → length xs ≤ length found → length out ≡ length found → out ≡ front xs found → Took xs found (length xs) out
  unfolding fitting
  took_all xs found out h l e =
      let t : leb (length xs) (length found) ≡ true = le-leb (length xs) (length found) h in
      (rw t, rw t e, rw e (front_counts xs found), l)
