-- What follows for the loans of encryption and of decryption when the number is 0: all that `encrypt_into` and `decrypt_bit` ask.
use Rattle.std.proofs.Common.{◌≡◌, ◌-◌, ◌≤◌, true, [], ◌∷◌, length, pos, nat_abs, refl, sym, ◌∙◌, arith}
use Rattle.whole.specs.Tests.{or_left, or_right}
use Rattle.whole.specs.Lists.{every, each_get_or}
use Rattle.whole.specs.Inner.{sizes}
use Rattle.refusal.specs.First.{first_of, Clear}
use Rattle.refusal.specs.Order.{position_in, order, position, in_order}
use Rattle.refusal.proofs.Order.{first_clear}
use Rattle.refusal.specs.Parameters.{InRange}
use Rattle.scheme.specs.Arithmetic.{is_residue}
use Rattle.scheme.specs.Calls.{EncryptLoans, encrypt_rows, DecryptLoans, decrypt_rows}
use Rattle.scheme.specs.Passed.{params_in_range, length_is, key_within, bit_within, entries_inside, errors_within}
use Rattle.scheme.specs.Loans.{Modulus}
use Rattle.keys.specs.Chain.{params_modulus}
use Rattle.regev.specs.Ready.{EncryptIntoReady}

pub record EncryptReady (a : EncryptLoans) : Type 0 where
  pub modulus : Modulus a.p.q
  pub into : EncryptIntoReady a.p.q a.key a.bit a.mask a.error a.result

pub encrypt_ready : (a : EncryptLoans) → first_of (encrypt_rows a) ≡ 0 → EncryptReady a
unfolding position_in order position in_order encrypt_rows
encrypt_ready a e =
    let t : Clear (encrypt_rows a) = first_clear (encrypt_rows a) refl e in
    let r : InRange a.p = params_in_range a.p t.0.0 in
    let key : length a.key ≡ a.p.n = length_is (length a.key) a.p.n (search (or_left, or_right, t.1.0.0) depth 8) in
    let mask : length a.mask ≡ a.p.n - 1 = length_is (length a.mask) (a.p.n - 1) (search (or_left, or_right, t.1.0.0) depth 8) in
    let out : length a.result ≡ a.p.n = length_is (length a.result) a.p.n (search (or_left, or_right, t.1.0.0) depth 8) in
    let error : nat_abs a.error ≤ a.p.e = each_get_or (errors_within a.p.e (a.error ∷ []) t.1.1.1.1.1.0.0) 0 (pos 0) (omega arith) in
    record {
      modulus = params_modulus r;
      into = record {
        key_long = omega arith;
        mask_long = omega arith;
        key_small = omega (arith, key_within a.p.l a.key t.1.1.0.0);
        bit_small = bit_within a.bit t.1.1.1.0.0;
        mask_inside = entries_inside a.p.q a.mask t.1.1.1.1.0.0;
        error_small = omega arith;
      };
    }

pub record DecryptReady (a : DecryptLoans) : Type 0 where
  pub modulus : Modulus a.p.q
  pub lengths : length a.key ≡ length a.ciphertext
  pub small : sizes a.key ≤ 4096
  pub residues : every (is_residue a.p.q) a.ciphertext ≡ true

pub decrypt_ready : (a : DecryptLoans) → first_of (decrypt_rows a) ≡ 0 → DecryptReady a
unfolding position_in order position in_order decrypt_rows
decrypt_ready a e =
    let t : Clear (decrypt_rows a) = first_clear (decrypt_rows a) refl e in
    let r : InRange a.p = params_in_range a.p t.0.0 in
    let key : length a.key ≡ a.p.n = length_is (length a.key) a.p.n (search (or_left, t.1.0.0) depth 8) in
    let ciphertext : length a.ciphertext ≡ a.p.n = length_is (length a.ciphertext) a.p.n (search (or_left, or_right, t.1.0.0) depth 8) in
    record {
      modulus = params_modulus r;
      lengths = key ∙ sym ciphertext;
      small = omega (arith, key_within a.p.l a.key t.1.1.0.0);
      residues = entries_inside a.p.q a.ciphertext t.1.1.1.0.0;
    }
