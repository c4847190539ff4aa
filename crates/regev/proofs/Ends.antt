-- How encryption and decryption end: refused with all as found, and done with the bound or the bit and what was written.
use Rattle.std.proofs.Common.{◌≡◌, List, ℕ, ℤ, Result, Err}
use Rattle.refusal.specs.declared.Refusal.{Refusal}
use Rattle.refusal.specs.First.{first_of}
use Rattle.refusal.proofs.Given.{Refused, refused_kept, done_written}
use Rattle.scheme.specs.Arithmetic.{encrypt, decrypt}
use Rattle.scheme.specs.Calls.{bounded_of, decrypted_of, states, decrypts_to, EncryptLoans, encrypt_rows, encrypt_answer, encrypt_result, EncryptPromise, DecryptLoans, decrypt_rows, decrypt_answer, DecryptPromise}
use Rattle.scheme.specs.Foremost.{encrypt_place, decrypt_place}
use Rattle.keys.specs.Chain.{bounded_err, bounded_ok, decrypted_err, decrypted_ok}

module _ (a : EncryptLoans) where
  pub encrypt_refused : {r : Result ℕ Refusal} {e : Refusal} → Refused (encrypt_rows a) e → r ≡ Err e → EncryptPromise a (bounded_of r) a.result
  unfolding encrypt_answer encrypt_result
  encrypt_refused f h = record { answer = bounded_err _ f h; result_left = refused_kept f _ _ }

  pub encrypt_done : {B : ℕ} {result : List ℤ} → first_of (encrypt_rows a) ≡ 0
      → B ≡ a.p.e
      → result ≡ encrypt a.p.q a.key a.bit a.mask a.error
      → EncryptPromise a (states B) result
  unfolding encrypt_answer encrypt_result
  encrypt_done z b w = record { answer = bounded_ok (encrypt_rows a) z (encrypt_place a) b; result_left = done_written _ _ z w }

module _ (a : DecryptLoans) where
  pub decrypt_refused : {r : Result ℕ Refusal} {e : Refusal} → Refused (decrypt_rows a) e → r ≡ Err e → DecryptPromise a (decrypted_of r)
  unfolding decrypt_answer
  decrypt_refused f h = record { answer = decrypted_err _ f h }

  pub decrypt_done : {b : ℕ} → first_of (decrypt_rows a) ≡ 0 → b ≡ decrypt a.p.q a.key a.ciphertext → DecryptPromise a (decrypts_to b)
  unfolding decrypt_answer
  decrypt_done z b = record { answer = decrypted_ok (decrypt_rows a) z (decrypt_place a) b }
