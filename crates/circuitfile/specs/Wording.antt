-- Facts that show that the file's and the text's definitions are document 01's sentences: a field is the bytes that stand there, four bytes and decimal
-- digits give back the number that they were made of, and the largest bound that fits is the largest.
use Rattle.std.specs.Prelude.{◌≡◌, refl, Bool, true, false, cond, ℕ, zero, suc, ◌+◌, ◌*◌, ◌-◌, ◌/◌, ◌%◌, ◌≤◌, ◌<◌, ltb, length, take, drop}
use Rattle.std.proofs.Common.{sym, ap, ◌∙◌, not-suc-le-zero, arith, length-drop, get_or-drop, ltb-true, ltb-false, lt-ltb}
use mathlib.Core.List.{List, [], ◌∷◌, ◌++◌, foldl, foldl-append}
use Rattle.std.proofs.Math.Nat.{div-div-eq-div-mul, div-add-mod}
use Rattle.whole.specs.Lists.{tabulate_cong, tabulate_take}
use Rattle.scheme.specs.Arithmetic.{fits}
use Rattle.circuitfile.specs.File.{big_endian, field, four_bytes}
use Rattle.circuitfile.specs.Text.{decimal_up_to, decimal, largest_bound}

-- where the file reaches past a field, the field is its bytes
pub field_inside : (file : List ℕ) (at width : ℕ) → at + width ≤ length file → field file at width ≡ big_endian (take width (drop at file))
unfolding field
field_inside file at width h =
    ap big_endian
    (tabulate_cong width _ _ (λ i inside. sym (get_or-drop at file i 0))
    ∙ tabulate_take width (drop at file) 0 (omega (arith, length-drop at file)))

pub four_bytes_read : (x : ℕ) → x < 4294967296 → big_endian (four_bytes x) ≡ x
unfolding big_endian four_bytes
four_bytes_read x h =
    let two : x / 65536 ≡ x / 256 / 256 = sym (div-div-eq-div-mul x 256 256) in
    let three : x / 16777216 ≡ x / 256 / 256 / 256 = sym (div-div-eq-div-mul x 65536 256) ∙ ap (λ (y : ℕ). y / 256) two in
    let top : 256 * 0 + x / 256 / 256 / 256 % 256 ≡ x / 256 / 256 / 256 = omega arith in
    rw (two, three, top, div-add-mod (x / 256 / 256) 256, div-add-mod (x / 256) 256, div-add-mod x 256)

-- what decimal digits say
unfoldable pub read_decimal : List ℕ → ℕ
read_decimal ds = foldl (λ x d. 10 * x + (d - 48)) 0 ds

digit_more : (ds : List ℕ) (d : ℕ) → read_decimal (ds ++ (d ∷ [])) ≡ 10 * read_decimal ds + (d - 48)
unfolding read_decimal
digit_more ds d = foldl-append (λ x d. 10 * x + (d - 48)) 0 ds (d ∷ [])

up_to_read : (most x : ℕ) → x < most → read_decimal (decimal_up_to most x) ≡ x
unfolding decimal_up_to read_decimal
up_to_read zero x h = absurd (not-suc-le-zero h)
up_to_read (suc most) x h = by_length (ltb x 10) refl (up_to_read most (x / 10))
  where
    longer : List ℕ
    longer = decimal_up_to most (x / 10) ++ ((48 + x % 10) ∷ [])

    by_length : (t : Bool) → ltb x 10 ≡ t → (x / 10 < most → read_decimal (decimal_up_to most (x / 10)) ≡ x / 10) → read_decimal (cond t ((48 + x) ∷ []) longer) ≡ x
    by_length true e more = omega arith
    by_length false e more =
        let ten : 10 ≤ x = ltb-false x 10 e in
        let shorter : read_decimal (decimal_up_to most (x / 10)) ≡ x / 10 = more (omega arith) in
        digit_more (decimal_up_to most (x / 10)) (48 + x % 10) ∙ omega arith

pub decimal_read : (x : ℕ) → read_decimal (decimal x) ≡ x
unfolding decimal
decimal_read x = up_to_read (suc x) x (omega arith)

-- a bound fits exactly when it is at most the largest
pub fits_largest : (q B : ℕ) → 0 < q → fits q B ≡ true → B ≤ largest_bound q
unfolding fits largest_bound
fits_largest q B h e = omega (arith, ltb-true (4 * B) q e)

pub largest_fits : (q B : ℕ) → 0 < q → B ≤ largest_bound q → fits q B ≡ true
unfolding fits largest_bound
largest_fits q B h e = lt-ltb (4 * B) q (omega arith)
