-- Document 01, *Refusal numbers*, of each call on keys and ciphertexts: the number that it answers is the first of the order that applies, and 0 exactly when
-- none does, since its rows stand in the order; and the place is 0, since each row has one test. Of the parameter maker and of sheet k this is in
-- `refusal/proofs/Parameters.antt`; the bench key's calls have the rows of the switching key maker.
use Rattle.std.specs.Prelude.{◌≡◌, refl}
use Rattle.refusal.specs.First.{place_of, are_single, place_single}
use Rattle.refusal.specs.Order.{position_in, order, position, in_order, Foremost}
use Rattle.refusal.proofs.Order.{first_foremost}
use Rattle.scheme.specs.Calls.{KeyCheckLoans, key_check_rows, key_check_answer, MakeKeyLoans, make_key_rows, make_key_answer, EncryptLoans, encrypt_rows, encrypt_answer, DecryptLoans, decrypt_rows, decrypt_answer, XorLoans, xor_rows, xor_answer, NotLoans, not_rows, not_answer, AndLoans, and_rows, and_answer}

pub key_check_foremost : (a : KeyCheckLoans) → Foremost (key_check_rows a) (key_check_answer a).number
unfolding position_in order position in_order key_check_rows key_check_answer
key_check_foremost a = first_foremost 0 (key_check_rows a) refl

pub key_check_place : (a : KeyCheckLoans) → place_of (key_check_rows a) ≡ 0
unfolding are_single key_check_rows
key_check_place a = place_single (key_check_rows a) refl

pub make_key_foremost : (a : MakeKeyLoans) → Foremost (make_key_rows a) (make_key_answer a).number
unfolding position_in order position in_order make_key_rows make_key_answer
make_key_foremost a = first_foremost 0 (make_key_rows a) refl

pub make_key_place : (a : MakeKeyLoans) → place_of (make_key_rows a) ≡ 0
unfolding are_single make_key_rows
make_key_place a = place_single (make_key_rows a) refl

pub encrypt_foremost : (a : EncryptLoans) → Foremost (encrypt_rows a) (encrypt_answer a).number
unfolding position_in order position in_order encrypt_rows encrypt_answer
encrypt_foremost a = first_foremost 0 (encrypt_rows a) refl

pub encrypt_place : (a : EncryptLoans) → place_of (encrypt_rows a) ≡ 0
unfolding are_single encrypt_rows
encrypt_place a = place_single (encrypt_rows a) refl

pub decrypt_foremost : (a : DecryptLoans) → Foremost (decrypt_rows a) (decrypt_answer a).number
unfolding position_in order position in_order decrypt_rows decrypt_answer
decrypt_foremost a = first_foremost 0 (decrypt_rows a) refl

pub decrypt_place : (a : DecryptLoans) → place_of (decrypt_rows a) ≡ 0
unfolding are_single decrypt_rows
decrypt_place a = place_single (decrypt_rows a) refl

pub xor_foremost : (a : XorLoans) → Foremost (xor_rows a) (xor_answer a).number
unfolding position_in order position in_order xor_rows xor_answer
xor_foremost a = first_foremost 0 (xor_rows a) refl

pub xor_place : (a : XorLoans) → place_of (xor_rows a) ≡ 0
unfolding are_single xor_rows
xor_place a = place_single (xor_rows a) refl

pub not_foremost : (a : NotLoans) → Foremost (not_rows a) (not_answer a).number
unfolding position_in order position in_order not_rows not_answer
not_foremost a = first_foremost 0 (not_rows a) refl

pub not_place : (a : NotLoans) → place_of (not_rows a) ≡ 0
unfolding are_single not_rows
not_place a = place_single (not_rows a) refl

pub and_foremost : (a : AndLoans) → Foremost (and_rows a) (and_answer a).number
unfolding position_in order position in_order and_rows and_answer
and_foremost a = first_foremost 0 (and_rows a) refl

pub and_place : (a : AndLoans) → place_of (and_rows a) ≡ 0
unfolding are_single and_rows
and_place a = place_single (and_rows a) refl
