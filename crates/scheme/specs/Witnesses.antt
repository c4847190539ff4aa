-- Wrong engines whose code could not keep the shape of ours, each shut out by an input on which the promise differs from it. On sheet 0 (q 16)
-- with s = (1,1) unless another sheet is named; document 01 names these engines in *What the promises must pin*.
use Rattle.std.specs.Prelude.{◌≡◌, refl, ℤ, pos, replicate}
use mathlib.Core.List.{List, [], ◌∷◌, zip_with, flat_map}
use Rattle.whole.specs.Tests.{eq_z}
use Rattle.whole.specs.Round.{round}
use Rattle.whole.specs.Centred.{centred, rest}
use Rattle.whole.specs.Lists.{every, tabulate, grid, cut}
use Rattle.whole.specs.Inner.{inner, sizes, column}
use Rattle.refusal.specs.First.{some_true, first_true, first_of, place_of, done_or}
use Rattle.refusal.specs.declared.Params.{Params}
use Rattle.refusal.specs.Parameters.{params, in_range, sheet, sheets, sheet_table}
use Rattle.scheme.specs.Arithmetic.{is_residue, is_key, encrypt, decrypt, XOR, XOR_bound, NOT, NOT_bound, tensor_entry, tensor, key_rows, mask_column, row_zero_entry, switching_key, switch_entry, switch, AND, AND_bound, fits}
use Rattle.scheme.specs.Calls.{bad_params, differs, bad_key, bad_bit, outside, exceeds, over_budget, states, decrypts_to, encrypt_loans, encrypt_rows, encrypt_answer, encrypt_result, decrypt_loans, decrypt_rows, decrypt_answer, xor_loans, xor_rows, xor_answer, xor_result, not_loans, not_rows, not_answer, not_result, and_loans, and_rows, and_answer, and_result, and_scratch, make_key_loans, make_key_rows, make_key_result, bench_key}
use Rattle.scheme.specs.Figures.{−, pair, four}

abbrev s : List ℤ
s = pair (pos 1) (pos 1)

-- document 01's switching key
abbrev W : List ℤ
W = − 83 ∷ pos 116 ∷ pos 9 ∷ pos 15 ∷ four (pos 100) (− 100) (pos 7) (pos 0)

-- what a result buffer holds at entry here
abbrev found : List ℤ
found = pair (pos 9) (pos 9)

-- an engine that refuses everything, one that writes nothing, and one that returns the error's size: an encryption with error 0 is accepted,
-- states the bound E = 1, and writes (5,3)
pub encryption_accepted : encrypt_answer (encrypt_loans (sheet 0) s 1 (pos 3 ∷ []) (pos 0) found) ≡ states 1
unfolding encrypt_answer encrypt_rows some_true first_true first_of place_of done_or bad_params in_range sheet sheets sheet_table differs bad_key is_key eq_z sizes bad_bit outside every is_residue exceeds
encryption_accepted = refl

pub encryption_written : encrypt_result (encrypt_loans (sheet 0) s 1 (pos 3 ∷ []) (pos 0) found) ≡ pair (pos 5) (pos 3)
unfolding encrypt_result encrypt_rows encrypt some_true first_true first_of place_of done_or bad_params in_range sheet sheets sheet_table differs bad_key is_key eq_z sizes bad_bit outside every is_residue exceeds centred rest inner
encryption_written = refl

-- one fixed ciphertext: the encryption of 0 with the same mask and error is another
pub another_encryption : encrypt_result (encrypt_loans (sheet 0) s 0 (pos 3 ∷ []) (pos 0) found) ≡ pair (− 3) (pos 3)
unfolding encrypt_result encrypt_rows encrypt some_true first_true first_of place_of done_or bad_params in_range sheet sheets sheet_table differs bad_key is_key eq_z sizes bad_bit outside every is_residue exceeds centred rest inner
another_encryption = refl

-- one fixed bit: the two decrypt to 1 and to 0
pub decrypts_one : decrypt_answer (decrypt_loans (sheet 0) s (pair (pos 5) (pos 3))) ≡ decrypts_to 1
unfolding decrypt_answer decrypt_rows decrypt some_true first_true first_of place_of done_or bad_params in_range sheet sheets sheet_table differs bad_key is_key eq_z sizes outside every is_residue centred rest inner
decrypts_one = refl

pub decrypts_zero : decrypt_answer (decrypt_loans (sheet 0) s (pair (− 3) (pos 3))) ≡ decrypts_to 0
unfolding decrypt_answer decrypt_rows decrypt some_true first_true first_of place_of done_or bad_params in_range sheet sheets sheet_table differs bad_key is_key eq_z sizes outside every is_residue centred rest inner
decrypts_zero = refl

-- a bound that is the largest that fits: XOR of bounds 1 and 1 states 2 and not 3, and NOT of bound 1 states 1
pub xor_states_two : xor_answer (xor_loans (sheet 0) (pair (pos 6) (pos 3)) 1 (pair (pos 6) (pos 3)) 1 found) ≡ states 2
unfolding xor_answer xor_rows XOR_bound some_true first_true first_of place_of done_or bad_params in_range sheet sheets sheet_table differs outside every is_residue over_budget fits
xor_states_two = refl

pub not_states_one : not_answer (not_loans (sheet 0) (pair (pos 6) (pos 3)) 1 found) ≡ states 1
unfolding not_answer not_rows NOT_bound some_true first_true first_of place_of done_or bad_params in_range sheet sheets sheet_table differs outside every is_residue over_budget fits
not_states_one = refl

-- a call that writes nothing: XOR and NOT write another ciphertext than was found
pub xor_writes : xor_result (xor_loans (sheet 0) (pair (pos 6) (pos 3)) 1 (pair (pos 6) (pos 3)) 1 found) ≡ pair (− 4) (pos 6)
unfolding xor_result xor_rows XOR XOR_bound zip_with some_true first_true first_of place_of done_or bad_params in_range sheet sheets sheet_table differs outside every is_residue over_budget fits centred rest
xor_writes = refl

pub not_writes : not_result (not_loans (sheet 0) (pair (pos 6) (pos 3)) 1 found) ≡ pair (− 2) (pos 3)
unfolding not_result not_rows NOT some_true first_true first_of place_of done_or bad_params in_range sheet sheets sheet_table differs outside every is_residue over_budget fits centred rest
not_writes = refl

-- AND on sheet 1: zero ciphertexts with bounds 2 and 2 under a zero switching key are accepted with bound 34, and scratch does not stay as it was
pub and_accepted : and_answer (and_loans (sheet 1) (replicate 4 (pos 0)) 2 (replicate 4 (pos 0)) 2 (replicate 64 (pos 0)) (replicate 16 (pos 7)) (replicate 4 (pos 7))) ≡ states 34
unfolding and_answer and_rows AND_bound some_true first_true first_of place_of done_or bad_params in_range sheet sheets sheet_table differs outside every is_residue over_budget fits
and_accepted = refl

pub and_clears : and_scratch (and_loans (sheet 1) (replicate 4 (pos 0)) 2 (replicate 4 (pos 0)) 2 (replicate 64 (pos 0)) (replicate 16 (pos 7)) (replicate 4 (pos 7))) ≡ replicate 16 (pos 0)
unfolding and_scratch and_rows AND_bound some_true first_true first_of place_of done_or bad_params in_range sheet sheets sheet_table differs outside every is_residue over_budget fits
and_clears = refl

-- an AND that writes zeros, or nothing: with n 2, q 16, L 2, E 1, F 0 and document 01's key, (6,3) AND itself, of bounds 0 and 0, states the bound 3
-- and writes (7,4)
abbrev no_errors : Params
no_errors = params 2 16 2 1 0

pub and_states_three : and_answer (and_loans no_errors (pair (pos 6) (pos 3)) 0 (pair (pos 6) (pos 3)) 0 W (replicate 4 (pos 9)) found) ≡ states 3
unfolding and_answer and_rows AND_bound some_true first_true first_of place_of done_or bad_params in_range differs outside every is_residue over_budget fits
and_states_three = refl

pub and_writes : and_result (and_loans no_errors (pair (pos 6) (pos 3)) 0 (pair (pos 6) (pos 3)) 0 W (replicate 4 (pos 9)) found) ≡ pair (pos 7) (pos 4)
unfolding and_result and_rows AND AND_bound switch switch_entry key_rows tensor tensor_entry some_true first_true first_of place_of done_or bad_params in_range differs outside every is_residue over_budget fits centred rest round grid flat_map cut inner
and_writes = refl

-- the maker of switching keys writes document 01's key
pub key_written : make_key_result (make_key_loans (sheet 0) s (four (pos 100) (− 100) (pos 7) (pos 0)) (four (pos 1) (pos 0) (pos 0) (− 1)) (replicate 8 (pos 9))) ≡ W
unfolding make_key_result make_key_rows switching_key row_zero_entry mask_column tabulate cut column some_true first_true first_of place_of done_or bad_params in_range sheet sheets sheet_table differs bad_key is_key eq_z sizes outside every is_residue exceeds centred rest inner
key_written = refl

-- the bench key is not all zeros: of s = (1,0,0,0), zero masks and zero errors it begins with q
pub bench_written : bench_key (four (pos 1) (pos 0) (pos 0) (pos 0)) (replicate 48 (pos 0)) (replicate 16 (pos 0))
    ≡ (pos 65536 ∷ replicate 15 (pos 0)) ∷ replicate 3 (replicate 16 (pos 0))
unfolding bench_key make_key_result make_key_rows bad_params in_range switching_key row_zero_entry mask_column tabulate cut column some_true first_true first_of place_of done_or sheet sheets sheet_table differs bad_key is_key eq_z sizes outside every is_residue exceeds centred rest inner
bench_written = refl
