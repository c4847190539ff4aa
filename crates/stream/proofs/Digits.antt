-- The decimal digits of a number, put into a block. Assumes nothing.
use Rattle.std.proofs.Common.{◌≡◌, ℕ, ◌+◌, ◌^◌, ◌<◌, ◌≤◌, List, [], ◌∷◌, ◌++◌, length, ◌∙◌, true≢false, arith, leb-true, append_assoc, length-append}
use Rattle.std.proofs.lemmas.Fmt.{length-decimal-le}
use Rattle.std.specs.Prelude.{ℤ, pos, negsuc, nat_abs, suc, false, true}
use Rattle.std.specs.Int.Signed.{lt_z}
use Rattle.std.specs.Fmt.{decimal}
use Rattle.stream.specs.Held.{room_for, put, put_number, spaced}

length_most : (n : ℕ) → n < 2 ^ 64 → length (decimal n) ≤ 20
length_most n small = length-decimal-le 20 n (omega arith) (omega arith) small

-- ---- digits that are put into a block

-- bytes for which there is room are put after those held
put_after : (bytes held : List ℕ) → length held + length bytes ≤ 65536 → put bytes held ≡ held ++ bytes
put_after bytes held room = grind arith

room_held : (n : ℕ) (held : List ℕ) → n ≤ 65536 → length (room_for n held) + n ≤ 65536
room_held n held h = grind arith

length_spaced : (n : ℕ) → n < 2 ^ 64 → length (spaced (decimal n)) ≤ 21
length_spaced n small = omega (arith, length_most n small, length-append (decimal n) (32 ∷ []))

pub put_plain : (x : ℤ) (held : List ℕ) → nat_abs x < 2 ^ 64 → lt_z x (pos 0) ≡ false → put (spaced (decimal (nat_abs x))) (room_for 24 held) ≡ put_number x held
put_plain (pos n) held small up = put_after (spaced (decimal n)) (room_for 24 held) (omega (arith, length_spaced n small, room_held 24 held (omega arith)))
put_plain (negsuc n) held small up = absurd (true≢false up)

pub put_minus : (x : ℤ) (held : List ℕ) → nat_abs x < 2 ^ 64 → lt_z x (pos 0) ≡ true → put (spaced (decimal (nat_abs x))) (room_for 24 held ++ 45 ∷ []) ≡ put_number x held
put_minus (pos n) held small down = absurd (omega (arith, leb-true (suc n) 0 down))
put_minus (negsuc n) held small down =
    let e = put_after (spaced (decimal (suc n))) (room_for 24 held ++ 45 ∷ []) (omega (arith, length_spaced (suc n) small, room_held 24 held (omega arith), length-append (room_for 24 held) (45 ∷ []))) in
    e ∙ append_assoc (room_for 24 held) (45 ∷ []) (spaced (decimal (suc n)))
