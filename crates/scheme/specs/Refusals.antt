-- Document 01, *Refusal numbers*, for the calls on keys and ciphertexts: every number that each call can give, on loans with that fault alone, beside loans
-- without any at the edge of their ranges; and what a buffer holds after a refusal. One table, proved by one computed test. Numbers are written out, so that
-- no definition stands on both sides. On sheet 0 (n 2, q 16, L 2, E 1, F 1) with s = (1,1), and AND with F 0, where a bound fits;
-- a switching key and AND also on sheet 1.
use Rattle.std.specs.Prelude.{◌≡◌, refl, ℕ, ℤ, pos, replicate}
use mathlib.Core.List.{List, [], ◌∷◌, ◌++◌, map, zip_with, flat_map}
use Rattle.whole.specs.Tests.{eq_z}
use Rattle.whole.specs.Round.{round}
use Rattle.whole.specs.Centred.{centred, rest}
use Rattle.whole.specs.Lists.{every, tabulate, grid, cut}
use Rattle.whole.specs.Inner.{inner, sizes, column}
use Rattle.refusal.specs.Answer.{Answer}
use Rattle.refusal.specs.declared.Params.{Params}
use Rattle.refusal.specs.First.{some_true, first_true, first_of, place_of, done_or}
use Rattle.refusal.specs.Parameters.{params, in_range, sheet, sheets, sheet_table}
use Rattle.scheme.specs.Calls.{Bounded, Decrypted, bad_params, differs, bad_key, bad_bit, outside, exceeds, over_budget, key_check_loans, key_check_rows, key_check_answer, make_key_loans, make_key_rows, make_key_answer, make_key_result, bench_check_answer, bench_key, encrypt_loans, encrypt_rows, encrypt_answer, encrypt_result, decrypt_loans, decrypt_rows, decrypt_answer, xor_loans, xor_rows, xor_answer, xor_result, not_loans, not_rows, not_answer, not_result, and_loans, and_rows, and_answer, and_result, and_scratch}
use Rattle.scheme.specs.Arithmetic.{is_residue, is_key, encrypt, decrypt, XOR, XOR_bound, NOT, NOT_bound, tensor_entry, tensor, key_rows, mask_column, row_zero_entry, switching_key, switch_entry, switch, AND, AND_bound, fits}
use Rattle.scheme.specs.Figures.{Figure, is, −, pair, four}

abbrev three : ℕ → ℕ → ℕ → List ℤ
three x y z = pos x ∷ pos y ∷ pos z ∷ []

-- all that a call returns, in order: the number, the place, and the bound or the bit
abbrev returned : Answer → List ℤ
returned r = pair (pos r.number) (pos r.place)

abbrev bound : Bounded → List ℤ
bound r = three r.number r.place r.bound

abbrev bit : Decrypted → List ℤ
bit r = three r.number r.place r.bit

abbrev refuses : ℕ → List ℤ
refuses k = pair (pos k) (pos 0)

abbrev refuses₃ : ℕ → List ℤ
refuses₃ k = three k 0 0

-- ---- loans

abbrev good : Params
good = sheet 0

-- n is 1
abbrev bad : Params
bad = params 1 16 2 1 1

abbrev no_errors : Params
no_errors = params 2 16 2 1 0

abbrev alone : ℤ → List ℤ
alone x = x ∷ []

abbrev s : List ℤ
s = pair (pos 1) (pos 1)

-- a ciphertext, and what lies just outside q and just outside Q
abbrev c : List ℤ
c = pair (pos 7) (− 8)

abbrev above : List ℤ
above = pair (pos 8) (pos 0)

abbrev under : List ℤ
under = pair (pos 0) (− 9)

abbrev masks : List ℤ
masks = four (pos 127) (− 128) (pos 0) (pos 0)

abbrev masks_above : List ℤ
masks_above = four (pos 0) (pos 0) (pos 0) (pos 128)

abbrev masks_under : List ℤ
masks_under = four (− 129) (pos 0) (pos 0) (pos 0)

abbrev errors : List ℤ
errors = four (pos 1) (− 1) (pos 0) (pos 0)

abbrev errors_above : List ℤ
errors_above = four (pos 0) (pos 0) (pos 0) (pos 2)

abbrev errors_under : List ℤ
errors_under = four (− 2) (pos 0) (pos 0) (pos 0)

abbrev W : List ℤ
W = masks ++ masks

-- what a buffer holds at entry
abbrev found : List ℤ
found = pair (pos 9) (pos 9)

abbrev found₄ : List ℤ
found₄ = replicate 4 (pos 9)

abbrev found₈ : List ℤ
found₈ = replicate 8 (pos 9)

-- of the bench key: sheet 1 has n 4, q 65,536, L 4, F 1
abbrev s₄ : List ℤ
s₄ = four (pos 1) (− 1) (pos 1) (pos 1)

abbrev masks₄₈ : List ℤ
masks₄₈ = (pos 2147483647) ∷ (− 2147483648) ∷ replicate 46 (pos 0)

abbrev errors₁₆ : List ℤ
errors₁₆ = (− 1) ∷ replicate 15 (pos 1)

-- ---- what each call returns, on loans whose result, and scratch, have so many entries

abbrev room : ℕ → List ℤ
room k = replicate k (pos 9)

abbrev key_check_returns : Params → List ℤ → List ℤ
key_check_returns p s = returned (key_check_answer (key_check_loans p s))

abbrev make_key_returns : Params → List ℤ → List ℤ → List ℤ → ℕ → List ℤ
make_key_returns p s masks f k = returned (make_key_answer (make_key_loans p s masks f (room k)))

abbrev bench_check_returns : List ℤ → List ℤ → List ℤ → List ℤ
bench_check_returns s masks f = returned (bench_check_answer s masks f)

abbrev encrypt_returns : Params → List ℤ → ℕ → List ℤ → ℤ → ℕ → List ℤ
encrypt_returns p s b a e k = bound (encrypt_answer (encrypt_loans p s b a e (room k)))

abbrev decrypt_returns : Params → List ℤ → List ℤ → List ℤ
decrypt_returns p s c = bit (decrypt_answer (decrypt_loans p s c))

abbrev xor_returns : Params → List ℤ → ℕ → List ℤ → ℕ → ℕ → List ℤ
xor_returns p c B1 d B2 k = bound (xor_answer (xor_loans p c B1 d B2 (room k)))

abbrev not_returns : Params → List ℤ → ℕ → ℕ → List ℤ
not_returns p c B k = bound (not_answer (not_loans p c B (room k)))

abbrev and_returns : Params → List ℤ → ℕ → List ℤ → ℕ → List ℤ → ℕ → ℕ → List ℤ
and_returns p c B1 d B2 W scratch k = bound (and_answer (and_loans p c B1 d B2 W (room scratch) (room k)))

-- ---- the numbers

pub numbers : List Figure
numbers =
    -- the key check: 1, 3, 4
    is (key_check_returns good s) (refuses 0)
    ∷ is (key_check_returns bad s) (refuses 1)
    ∷ is (key_check_returns good (alone (pos 1))) (refuses 3)
    ∷ is (key_check_returns good (pair (pos 0) (pos 1))) (refuses 4)
    ∷ is (key_check_returns good (pair (pos 1) (− 2))) (refuses 4)
    -- the switching key maker: 1, 3 of each of four loans, 4, 6, 7; and on sheet 1, where n² is not 2n
    ∷ is (make_key_returns good s masks errors 8) (refuses 0)
    ∷ is (make_key_returns (sheet 1) s₄ masks₄₈ errors₁₆ 64) (refuses 0)
    ∷ is (make_key_returns bad s masks errors 8) (refuses 1)
    ∷ is (make_key_returns good (alone (pos 1)) masks errors 8) (refuses 3)
    ∷ is (make_key_returns good s c errors 8) (refuses 3)
    ∷ is (make_key_returns good s masks c 8) (refuses 3)
    ∷ is (make_key_returns good s masks errors 7) (refuses 3)
    ∷ is (make_key_returns good (pair (pos 2) (pos 0)) masks errors 8) (refuses 4)
    ∷ is (make_key_returns good s masks_above errors 8) (refuses 6)
    ∷ is (make_key_returns good s masks_under errors 8) (refuses 6)
    ∷ is (make_key_returns good s masks errors_above 8) (refuses 7)
    ∷ is (make_key_returns good s masks errors_under 8) (refuses 7)
    -- the check of the bench key: 3 of each of three loans, 4, 6, 7
    ∷ is (bench_check_returns s₄ masks₄₈ errors₁₆) (refuses 0)
    ∷ is (bench_check_returns s masks₄₈ errors₁₆) (refuses 3)
    ∷ is (bench_check_returns s₄ (replicate 47 (pos 0)) errors₁₆) (refuses 3)
    ∷ is (bench_check_returns s₄ masks₄₈ (replicate 17 (pos 0))) (refuses 3)
    ∷ is (bench_check_returns (four (− 1) (pos 0) (pos 0) (pos 0)) masks₄₈ errors₁₆) (refuses 4)
    ∷ is (bench_check_returns (four (pos 1) (pos 2) (pos 1) (pos 1)) masks₄₈ errors₁₆) (refuses 4)
    ∷ is (bench_check_returns s₄ (pos 2147483648 ∷ replicate 47 (pos 0)) errors₁₆) (refuses 6)
    ∷ is (bench_check_returns s₄ (− 2147483649 ∷ replicate 47 (pos 0)) errors₁₆) (refuses 6)
    ∷ is (bench_check_returns s₄ masks₄₈ (pos 2 ∷ replicate 15 (pos 0))) (refuses 7)
    -- encryption: 1, 3 of each of three loans, 4, 5, 6, 7
    ∷ is (encrypt_returns good s 1 (alone (− 8)) (− 1) 2) (three 0 0 1)
    ∷ is (encrypt_returns good s 0 (alone (pos 7)) (pos 1) 2) (three 0 0 1)
    ∷ is (encrypt_returns bad s 1 (alone (− 8)) (− 1) 2) (refuses₃ 1)
    ∷ is (encrypt_returns good (alone (pos 1)) 1 (alone (− 8)) (− 1) 2) (refuses₃ 3)
    ∷ is (encrypt_returns good s 1 c (− 1) 2) (refuses₃ 3)
    ∷ is (encrypt_returns good s 1 (alone (− 8)) (− 1) 1) (refuses₃ 3)
    ∷ is (encrypt_returns good (pair (pos 1) (pos 2)) 1 (alone (− 8)) (− 1) 2) (refuses₃ 4)
    ∷ is (encrypt_returns good s 2 (alone (− 8)) (− 1) 2) (refuses₃ 5)
    ∷ is (encrypt_returns good s 1 (alone (pos 8)) (− 1) 2) (refuses₃ 6)
    ∷ is (encrypt_returns good s 1 (alone (− 9)) (− 1) 2) (refuses₃ 6)
    ∷ is (encrypt_returns good s 1 (alone (− 8)) (pos 2) 2) (refuses₃ 7)
    ∷ is (encrypt_returns good s 1 (alone (− 8)) (− 2) 2) (refuses₃ 7)
    -- decryption: 1, 3 of each of two loans, 4, 6
    ∷ is (decrypt_returns good s (pair (pos 5) (pos 3))) (three 0 0 1)
    ∷ is (decrypt_returns bad s (pair (pos 5) (pos 3))) (refuses₃ 1)
    ∷ is (decrypt_returns good (alone (pos 1)) (pair (pos 5) (pos 3))) (refuses₃ 3)
    ∷ is (decrypt_returns good s (alone (pos 8))) (refuses₃ 3)
    ∷ is (decrypt_returns good (pair (− 1) (pos 1)) (pair (pos 5) (pos 3))) (refuses₃ 4)
    ∷ is (decrypt_returns good s above) (refuses₃ 6)
    ∷ is (decrypt_returns good s under) (refuses₃ 6)
    -- XOR: 1, 3 of each of three loans, 6 and 8 of each operand, 10
    ∷ is (xor_returns good c 1 c 2 2) (three 0 0 3)
    ∷ is (xor_returns bad c 1 c 2 2) (refuses₃ 1)
    ∷ is (xor_returns good s₄ 1 c 2 2) (refuses₃ 3)
    ∷ is (xor_returns good c 1 s₄ 2 2) (refuses₃ 3)
    ∷ is (xor_returns good c 1 c 2 1) (refuses₃ 3)
    ∷ is (xor_returns good above 1 c 2 2) (refuses₃ 6)
    ∷ is (xor_returns good c 1 under 2 2) (refuses₃ 6)
    ∷ is (xor_returns good c 4 c 0 2) (refuses₃ 8)
    ∷ is (xor_returns good c 0 c 4 2) (refuses₃ 8)
    ∷ is (xor_returns good c 1 c 3 2) (refuses₃ 10)
    -- NOT: 1, 3 of each of two loans, 6, 8
    ∷ is (not_returns good c 3 2) (three 0 0 3)
    ∷ is (not_returns bad c 3 2) (refuses₃ 1)
    ∷ is (not_returns good s₄ 3 2) (refuses₃ 3)
    ∷ is (not_returns good c 3 3) (refuses₃ 3)
    ∷ is (not_returns good above 3 2) (refuses₃ 6)
    ∷ is (not_returns good c 4 2) (refuses₃ 8)
    -- AND: 1, 3 of each of five loans, 6 of each of three, 8 of each operand, 10
    ∷ is (and_returns no_errors c 0 c 0 W 4 2) (three 0 0 3)
    ∷ is (and_returns (sheet 1) (replicate 4 (pos 0)) 2 (replicate 4 (pos 0)) 3 (replicate 64 (pos 0)) 16 4) (three 0 0 38)
    ∷ is (and_returns bad c 0 c 0 W 4 2) (refuses₃ 1)
    ∷ is (and_returns no_errors s₄ 0 c 0 W 4 2) (refuses₃ 3)
    ∷ is (and_returns no_errors c 0 s₄ 0 W 4 2) (refuses₃ 3)
    ∷ is (and_returns no_errors c 0 c 0 masks 4 2) (refuses₃ 3)
    ∷ is (and_returns no_errors c 0 c 0 W 2 2) (refuses₃ 3)
    ∷ is (and_returns no_errors c 0 c 0 W 4 4) (refuses₃ 3)
    ∷ is (and_returns no_errors above 0 c 0 W 4 2) (refuses₃ 6)
    ∷ is (and_returns no_errors c 0 under 0 W 4 2) (refuses₃ 6)
    ∷ is (and_returns no_errors c 0 c 0 (masks ++ masks_above) 4 2) (refuses₃ 6)
    ∷ is (and_returns no_errors c 0 c 0 (masks_under ++ masks) 4 2) (refuses₃ 6)
    ∷ is (and_returns no_errors c 4 c 0 W 4 2) (refuses₃ 8)
    ∷ is (and_returns no_errors c 0 c 4 W 4 2) (refuses₃ 8)
    ∷ is (and_returns no_errors c 1 c 0 W 4 2) (refuses₃ 10)
    ∷ is (and_returns no_errors c 0 c 1 W 4 2) (refuses₃ 10)
    ∷ []

pub numbers_hold : map (λ k. k.computed) numbers ≡ map (λ k. k.stated) numbers
unfolding numbers key_check_answer key_check_rows make_key_answer make_key_rows bench_check_answer encrypt_answer encrypt_rows decrypt_answer decrypt_rows decrypt xor_answer xor_rows XOR_bound not_answer not_rows NOT_bound and_answer and_rows AND_bound some_true first_true first_of place_of done_or bad_params in_range sheet sheets sheet_table differs bad_key is_key eq_z sizes bad_bit outside every is_residue exceeds over_budget fits centred rest inner
numbers_hold = refl

-- ---- the buffers

-- after a refusal of either loan each buffer is as found
pub buffers : List Figure
buffers =
    is (make_key_result (make_key_loans good s masks_above errors found₈)) found₈
    ∷ is (make_key_result (make_key_loans good s masks errors_above found₈)) found₈
    ∷ is (encrypt_result (encrypt_loans good s 2 (alone (pos 3)) (pos 0) found)) found
    ∷ is (encrypt_result (encrypt_loans good s 1 (alone (pos 3)) (pos 2) found)) found
    ∷ is (xor_result (xor_loans good above 1 c 2 found)) found
    ∷ is (xor_result (xor_loans good c 1 under 2 found)) found
    ∷ is (xor_result (xor_loans good c 1 c 3 found)) found
    ∷ is (not_result (not_loans good above 3 found)) found
    ∷ is (not_result (not_loans good c 4 found)) found
    ∷ is (and_result (and_loans no_errors above 0 c 0 W found₄ found)) found
    ∷ is (and_result (and_loans no_errors c 0 under 0 W found₄ found)) found
    ∷ is (and_result (and_loans no_errors c 1 c 0 W found₄ found)) found
    ∷ is (and_result (and_loans no_errors c 0 c 1 W found₄ found)) found
    ∷ is (and_scratch (and_loans no_errors above 0 c 0 W found₄ found)) found₄
    ∷ is (and_scratch (and_loans no_errors c 0 under 0 W found₄ found)) found₄
    ∷ is (and_scratch (and_loans no_errors c 1 c 0 W found₄ found)) found₄
    ∷ is (and_scratch (and_loans no_errors c 0 c 1 W found₄ found)) found₄
    -- XOR and AND of two that differ, and NOT at the edge of the budget; AND under document 01's switching key
    ∷ is (xor_result (xor_loans good c 1 (pair (pos 1) (− 1)) 2 found)) (pair (− 8) (pos 7))
    ∷ is (and_result (and_loans no_errors (pair (pos 6) (pos 3)) 0 c 0 (− 83 ∷ pos 116 ∷ pos 9 ∷ pos 15 ∷ four (pos 100) (− 100) (pos 7) (pos 0)) found₄ found)) (pair (− 7) (pos 6))
    ∷ is (not_result (not_loans good c 3 found)) (pair (− 1) (− 8))
    -- the bench key of s = (1,1,0,0), with 0 to 15 as its first row of masks and one error: u·4+v has q where u and v are below 2
    ∷ is (flat_map (λ row. row) (bench_key (four (pos 1) (pos 1) (pos 0) (pos 0)) (tabulate 16 pos ++ replicate 32 (pos 3)) (pos 1 ∷ replicate 15 (pos 0))))
    (pos 65537 ∷ pos 65535 ∷ (− 2) ∷ (− 3) ∷ pos 65532 ∷ pos 65531 ∷ map − (6 ∷ 7 ∷ 8 ∷ 9 ∷ 10 ∷ 11 ∷ 12 ∷ 13 ∷ 14 ∷ 15 ∷ []) ++ tabulate 16 pos ++ replicate 32 (pos 3))
    -- and of a key that does not fit
    ∷ is (flat_map (λ row. row) (bench_key (four (pos 0) (pos 1) (pos 0) (pos 0)) masks₄₈ errors₁₆)) (replicate 64 (pos 0))
    ∷ []

pub buffers_hold : map (λ k. k.computed) buffers ≡ map (λ k. k.stated) buffers
unfolding buffers make_key_result make_key_rows encrypt_result encrypt_rows encrypt xor_result xor_rows XOR XOR_bound zip_with not_result not_rows NOT and_result and_scratch and_rows AND AND_bound switch switch_entry key_rows tensor tensor_entry grid bench_key switching_key row_zero_entry mask_column tabulate cut column some_true first_true first_of place_of done_or bad_params in_range sheet sheets sheet_table differs bad_key is_key eq_z sizes bad_bit outside every is_residue exceeds over_budget fits centred rest round inner flat_map
buffers_hold = refl
