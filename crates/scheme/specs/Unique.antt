-- Each promise of the calls on keys and ciphertexts has one answer: what meets a promise on the same loans is the same, buffers included. It is one law,
-- `same_answer`, for each field of the promise.
use Rattle.std.specs.Prelude.{◌≡◌, List, ℕ, ℤ, Result, Ok, Err}
use Rattle.std.proofs.Common.{sym, ap}
use Rattle.refusal.specs.declared.Params.{Params}
use Rattle.refusal.specs.Answer.{Answer, refused_not_done, same_refusal}
use Rattle.refusal.specs.declared.Refusal.{Refusal}
use Rattle.refusal.specs.First.{same_answer}
use Rattle.refusal.specs.Parameters.{made, made_sheet}
use Rattle.scheme.specs.Calls.{Bounded, Decrypted, bounded_of, decrypted_of, KeyCheckLoans, KeyCheckPromise, MakeKeyLoans, MakeKeyPromise, EncryptLoans, EncryptPromise, DecryptLoans, DecryptPromise, XorLoans, XorPromise, NotLoans, NotPromise, AndLoans, AndPromise, BenchCheckPromise, BenchKeyPromise}

pub make_unique : (p : Params) {r r' : Result Params Refusal} → r ≡ made p → r' ≡ made p → r ≡ r'
make_unique p = same_answer

pub sheet_unique : (k : ℕ) {r r' : Result Params Refusal} → r ≡ made_sheet k → r' ≡ made_sheet k → r ≡ r'
sheet_unique k = same_answer

pub key_check_unique : (a : KeyCheckLoans) {r r' : Answer} → KeyCheckPromise a r → KeyCheckPromise a r' → r ≡ r'
key_check_unique a x y = same_answer x.answer y.answer

pub make_key_unique : (a : MakeKeyLoans) {r r' : Answer} {result result' : List ℤ} → MakeKeyPromise a r result → MakeKeyPromise a r' result' → (r ≡ r') × (result ≡ result')
make_key_unique a x y = (same_answer x.answer y.answer, same_answer x.result_left y.result_left)

pub bench_check_unique : (s masks f : List ℤ) {r r' : Answer} → BenchCheckPromise s masks f r → BenchCheckPromise s masks f r' → r ≡ r'
bench_check_unique s masks f x y = same_answer x.answer y.answer

pub bench_unique : (s masks f : List ℤ) {r r' : List (List ℤ)} → BenchKeyPromise s masks f r → BenchKeyPromise s masks f r' → r ≡ r'
bench_unique s masks f x y = same_answer x.answer y.answer

pub encrypt_unique : (a : EncryptLoans) {r r' : Bounded} {result result' : List ℤ} → EncryptPromise a r result → EncryptPromise a r' result' → (r ≡ r') × (result ≡ result')
encrypt_unique a x y = (same_answer x.answer y.answer, same_answer x.result_left y.result_left)

pub decrypt_unique : (a : DecryptLoans) {r r' : Decrypted} → DecryptPromise a r → DecryptPromise a r' → r ≡ r'
decrypt_unique a x y = same_answer x.answer y.answer

pub xor_unique : (a : XorLoans) {r r' : Bounded} {result result' : List ℤ} → XorPromise a r result → XorPromise a r' result' → (r ≡ r') × (result ≡ result')
xor_unique a x y = (same_answer x.answer y.answer, same_answer x.result_left y.result_left)

pub not_unique : (a : NotLoans) {r r' : Bounded} {result result' : List ℤ} → NotPromise a r result → NotPromise a r' result' → (r ≡ r') × (result ≡ result')
not_unique a x y = (same_answer x.answer y.answer, same_answer x.result_left y.result_left)

pub and_unique : (a : AndLoans) {r r' : Bounded} {result result' : List ℤ} {scratch scratch' : List ℤ} → AndPromise a r result scratch → AndPromise a r' result' scratch' → (r ≡ r') × (result ≡ result') × (scratch ≡ scratch')
and_unique a x y = (same_answer x.answer y.answer, same_answer x.result_left y.result_left, same_answer x.scratch_left y.scratch_left)

-- the paper's form of an answer tells the answer: so what a call returns is one too

pub bounded_told : {r r' : Result ℕ Refusal} → bounded_of r ≡ bounded_of r' → r ≡ r'
bounded_told {r = Ok B} {r' = Ok C} e = ap Ok (ap (λ (x : Bounded). x.bound) e)
bounded_told {r = Ok B} {r' = Err d} e = absurd (refused_not_done d (ap (λ (x : Bounded). x.number) e))
bounded_told {r = Err d} {r' = Ok B} e = absurd (refused_not_done d (sym (ap (λ (x : Bounded). x.number) e)))
bounded_told {r = Err d} {r' = Err d'} e = ap Err (same_refusal d d' (ap (λ (x : Bounded). x.number) e) (ap (λ (x : Bounded). x.place) e))

pub decrypted_told : {r r' : Result ℕ Refusal} → decrypted_of r ≡ decrypted_of r' → r ≡ r'
decrypted_told {r = Ok b} {r' = Ok c} e = ap Ok (ap (λ (x : Decrypted). x.bit) e)
decrypted_told {r = Ok b} {r' = Err d} e = absurd (refused_not_done d (ap (λ (x : Decrypted). x.number) e))
decrypted_told {r = Err d} {r' = Ok b} e = absurd (refused_not_done d (sym (ap (λ (x : Decrypted). x.number) e)))
decrypted_told {r = Err d} {r' = Err d'} e = ap Err (same_refusal d d' (ap (λ (x : Decrypted). x.number) e) (ap (λ (x : Decrypted). x.place) e))
