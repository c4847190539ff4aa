-- Laws about what `specs/Fresh` defines that rest on a definition which a must-fail edit turns.
use Rattle.std.specs.Prelude.{◌≡◌, refl, List, [], ◌∷◌, ◌-◌, ◌≤◌, ◌<◌, ℤ, pos, nat_abs, length}
use Rattle.std.proofs.Common.{sym, ap, ◌∙◌, arith}
use Rattle.whole.specs.Tests.{or_left, or_right}
use Rattle.whole.specs.Lists.{each_get_or}
use Rattle.refusal.specs.First.{Clear, first_of, done_or_done}
use Rattle.refusal.specs.Order.{position_in, order, position, in_order}
use Rattle.refusal.proofs.Order.{first_clear}
use Rattle.refusal.specs.Parameters.{InRange}
use Rattle.scheme.specs.Calls.{Bounded, Decrypted, differs, EncryptLoans, encrypt_rows, encrypt_answer, encrypt_result, EncryptPromise, decrypt_loans, DecryptPromise, decrypts_to}
use Rattle.scheme.specs.Arithmetic.{encrypt}
use Rattle.scheme.specs.Passed.{params_in_range, length_is, key_begins, bit_within, entries_inside, errors_within}
use Rattle.noise.specs.Gates.{encrypt_noise, length_encrypt, encrypt_residues}
use Rattle.noise.specs.Sound.{KeyFits, Sound}
use Rattle.noise.proofs.Sound.{sound_decrypts}
use Rattle.noise.specs.Fresh.{Fresh}

accepted_sound : (a : EncryptLoans) → first_of (encrypt_rows a) ≡ 0
    → KeyFits a.p a.key × Sound a.p a.key a.bit a.p.e (encrypt a.p.q a.key a.bit a.mask a.error)
unfolding position_in order position in_order encrypt_rows
accepted_sound a done =
    let clear : Clear (encrypt_rows a) = first_clear (encrypt_rows a) refl done in
    let p = a.p in
    let s : List ℤ = a.key in
    let range : InRange p = params_in_range p clear.0.0 in
    let positive : 0 < p.q = omega (arith, range.q_low) in
    let lengths = or_left _ (differs (length a.result) p.n) clear.1.0.0 in
    let mask_long : length a.mask ≡ p.n - 1 = length_is (length a.mask) (p.n - 1) (or_right (differs (length s) p.n) _ lengths) in
    let key = clear.1.1.0.0 in
    let small : nat_abs a.error ≤ p.e = each_get_or (errors_within p.e (a.error ∷ []) clear.1.1.1.1.1.0.0) 0 (pos 0) (omega arith) in (
      record { params = clear.0.0; long = or_left _ (differs (length a.mask) (p.n - 1)) lengths; key = key },
      record {
        bit = bit_within a.bit clear.1.1.1.0.0;
        long = omega (arith, length_encrypt p.q s a.bit a.mask a.error, mask_long, range.n_low);
        residues = encrypt_residues p.q s a.bit a.mask a.error positive range.q_even (entries_inside p.q a.mask clear.1.1.1.1.0.0);
        quiet = omega (arith, encrypt_noise p.q s a.bit a.mask a.error positive (key_begins p.l s key), small);
        fits = range.e_fits;
      },
    )

pub fresh : {a : EncryptLoans} {r : Bounded} {c : List ℤ} → EncryptPromise a r c → r.number ≡ 0 → Fresh a r c
unfolding encrypt_answer encrypt_result
fresh {a} {r} {c} promise none =
    let done : first_of (encrypt_rows a) ≡ 0 = sym (ap (λ (x : Bounded). x.number) promise.answer) ∙ none in
    let (key, sound) = accepted_sound a done in
    let written : c ≡ encrypt a.p.q a.key a.bit a.mask a.error = promise.result_left ∙ done_or_done _ a.result done in
    record {
      key = key;
      states = ap (λ (x : Bounded). x.bound) promise.answer ∙ done_or_done a.p.e 0 done;
      sound = rw written sound;
    }

-- **A fresh encryption decrypts to its bit**: encryption answered 0 and left c; then decryption of c under the same key answers 0 and the bit
pub fresh_decrypts : {a : EncryptLoans} {r : Bounded} {c : List ℤ} {d : Decrypted} → EncryptPromise a r c → r.number ≡ 0
    → DecryptPromise (decrypt_loans a.p a.key c) d → d ≡ decrypts_to a.bit
fresh_decrypts {a} promise none decrypted = let f = fresh promise none in sound_decrypts a.p a.key f.key f.sound decrypted
