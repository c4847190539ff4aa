-- What the block of an `Output` holds after what a call answered or left is put. Assumes nothing.
use Rattle.std.specs.Prelude.{◌≡◌, ℕ, ◌+◌, ◌^◌, ◌<◌, ◌≤◌, ℤ, List, [], ◌∷◌, ◌++◌, length, decimal, Result, Ok, Err}
use mathlib.Core.List.{foldl, foldl-append}
use Rattle.std.proofs.Common.{sym, ap₂, ◌∙◌, arith, lit<, length-append, le-leb}
use Rattle.std.proofs.lemmas.Fmt.{length-decimal-le}
use Rattle.std.proofs.lemmas.Slice.Zip.{AllZip-long}
use Rattle.std.specs.Fmt.{signed_decimal}
use Rattle.std.specs.List.{AllZip}
use Rattle.refusal.specs.declared.Refusal.{Refusal}
use Rattle.refusal.specs.declared.Params.{Params}
use Rattle.refusal.specs.Answer.{Answer}
use Rattle.stream.specs.Held.{put, room_for, spaced, put_number, put_numbers}

-- a number from 0 up was put
abbrev pub put_word : ℕ → List ℕ → List ℕ
put_word n held = put (spaced (decimal n)) held

-- number and place
abbrev pub put_answer : Answer → List ℕ → List ℕ
put_answer a held = put_word a.place (put_word a.number held)

-- n, q, L, E and F, all zeros on a refusal
abbrev pub five_of : Result Params Refusal → List ℕ
five_of (Ok p) = p.n ∷ p.q ∷ p.l ∷ p.e ∷ p.f ∷ []
five_of (Err r) = 0 ∷ 0 ∷ 0 ∷ 0 ∷ 0 ∷ []

-- the numbers that xs convert to were put one after the other
abbrev pub PutAs : {A : Type 0} → (A → ℤ → Type 0) → List A → List ℕ → List ℕ → Type 0
PutAs converts xs held new = (ys : List ℤ) × AllZip converts xs ys × (new ≡ put_numbers ys held)

-- one number more, put after the others
pub put_numbers_more : (ys : List ℤ) (y : ℤ) (held : List ℕ) → put_numbers (ys ++ y ∷ []) held ≡ put_number y (put_numbers ys held)
unfolding put_numbers
put_numbers_more ys y held = foldl-append (λ before x. put_number x before) held ys (y ∷ [])

-- numbers from 0 up were put one after the other, each with room for its own digits
unfoldable pub put_words : List ℕ → List ℕ → List ℕ
put_words ns held = foldl (λ before n. put_word n before) held ns

abbrev pub PutWords : {A : Type 0} → (A → ℕ → Type 0) → List A → List ℕ → List ℕ → Type 0
PutWords converts xs held new = (ns : List ℕ) × AllZip converts xs ns × (new ≡ put_words ns held)

pub put_words_more : (ns : List ℕ) (n : ℕ) (held : List ℕ) → put_words (ns ++ n ∷ []) held ≡ put_word n (put_words ns held)
unfolding put_words
put_words_more ns n held = foldl-append (λ before m. put_word m before) held ns (n ∷ [])

-- one number more, told otherwise
pub put_words_next : (ns : List ℕ) (held : List ℕ) {m n : ℕ} {old new : List ℕ} → old ≡ put_words ns held → new ≡ put_word m old → m ≡ n → new ≡ put_words (ns ++ n ∷ []) held
put_words_next ns held {n = n} h e f = e ∙ ap₂ put_word f h ∙ sym (put_words_more ns n held)

-- ---- the block then holds something

pub put_word_holds : (n : ℕ) (held : List ℕ) → n < 2 ^ 64 → 0 < length (put_word n held)
put_word_holds n held h =
    let short : length (spaced (decimal n)) ≤ 65536 = omega (arith, length-append (decimal n) (32 ∷ []), length-decimal-le 20 n (lit< tt) (omega arith) h) in
    rw (le-leb (length (spaced (decimal n))) 65536 short) (omega (arith, length-append (room_for (length (spaced (decimal n))) held) (spaced (decimal n)), length-append (decimal n) (32 ∷ [])))

put_number_holds : (x : ℤ) (held : List ℕ) → 0 < length (put_number x held)
put_number_holds x held = omega (arith, length-append (room_for 24 held) (spaced (signed_decimal x)), length-append (signed_decimal x) (32 ∷ []))

put_numbers_hold : (ys : List ℤ) (held : List ℕ) → 0 < length held + length ys → 0 < length (put_numbers ys held)
unfolding put_numbers
put_numbers_hold [] held h = omega (arith, h)
put_numbers_hold (y ∷ ys) held h = put_numbers_hold ys (put_number y held) (omega (arith, put_number_holds y held))

pub put_as_holds : {A : Type 0} (converts : A → ℤ → Type 0) (xs : List A) (held new : List ℕ) → PutAs converts xs held new → 0 < length held + length xs → 0 < length new
put_as_holds converts xs held new (ys, zipped, e) h = rw e (put_numbers_hold ys held (rw (AllZip-long converts xs ys zipped) h))
