-- What the block of an `Output` holds after bytes are put. Assumes nothing.
use Rattle.std.specs.Prelude.{◌≡◌, refl, ℕ, ◌≤◌, ◌<◌, pos, drop, get_or, ◌+◌, List, [], ◌∷◌, ◌++◌, length, leb, cond, ℤ}
use mathlib.Core.List.{foldl}
use Rattle.std.proofs.Common.{add-one, drop-cons}
use Rattle.std.proofs.lemmas.List.{drop_all}
use Rattle.std.specs.Fmt.{signed_decimal}

-- a block with room for n bytes more: that which is held where it has them, and otherwise an empty one, after a write
abbrev pub room_for : ℕ → List ℕ → List ℕ
room_for n held = cond (leb (length held + n) 65536) held []

-- the block after bytes are put, which are left out where no block holds them
abbrev pub put : List ℕ → List ℕ → List ℕ
put bytes held = cond (leb (length bytes) 65536) (room_for (length bytes) held ++ bytes) []

-- bytes and a space
abbrev pub spaced : List ℕ → List ℕ
spaced bytes = bytes ++ 32 ∷ []

-- the block after the digits of x and a space are put, of which there are at most 24
abbrev pub put_number : ℤ → List ℕ → List ℕ
put_number x held = room_for 24 held ++ spaced (signed_decimal x)

-- and numbers one after the other
unfoldable pub put_numbers : List ℤ → List ℕ → List ℕ
put_numbers xs held = foldl (λ before x. put_number x before) held xs

-- the next of them, where there is one
pub put_numbers_next : (xs : List ℤ) (i : ℕ) (held : List ℕ) → i < length xs
    → put_numbers (drop i xs) held ≡ put_numbers (drop (i + 1) xs) (put_number (get_or xs i (pos 0)) held)
unfolding put_numbers
put_numbers_next xs i held h = rw (drop-cons xs i (pos 0) h, add-one) refl

-- and none where not
pub put_numbers_all : (xs : List ℤ) (i : ℕ) (held : List ℕ) → length xs ≤ i → put_numbers (drop i xs) held ≡ held
unfolding put_numbers
put_numbers_all xs i held h = rw (drop_all i xs h) refl
