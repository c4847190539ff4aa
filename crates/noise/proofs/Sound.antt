-- Laws about what `specs/Sound` defines that rest on a definition which a must-fail edit turns.
use Rattle.std.specs.Prelude.{◌≡◌, true, List, ℕ, ℤ, length}
use Rattle.std.proofs.Common.{◌∙◌, arith}
use Rattle.whole.specs.Lists.{every}
use Rattle.refusal.specs.declared.Params.{Params}
use Rattle.refusal.specs.First.{first_of, done_or, first_row, first_none}
use Rattle.refusal.specs.Parameters.{InRange}
use Rattle.scheme.specs.Calls.{Decrypted, outside, decrypt_loans, decrypt_rows, decrypt_answer, DecryptPromise, decrypts_to}
use Rattle.scheme.specs.Arithmetic.{is_residue, decrypt}
use Rattle.scheme.specs.Passed.{params_in_range, lengths_same}
use Rattle.scheme.specs.Foremost.{decrypt_place}
use Rattle.noise.proofs.Gates.{decrypt_right}
use Rattle.noise.specs.Sound.{KeyFits, Sound}

module _ (p : Params) (s : List ℤ) (key : KeyFits p s) where
  -- decryption of a ciphertext of n residues refuses nothing
  decrypt_accepts : (c : List ℤ) → length c ≡ p.n → every (is_residue p.q) c ≡ true → first_of (decrypt_rows (decrypt_loans p s c)) ≡ 0
  unfolding decrypt_rows outside
  decrypt_accepts c long residues = simp (first_row, first_none, key.params, key.long, lengths_same (length c) p.n long, key.key, residues)

  -- so it answers 0 and the bit
  pub sound_decrypts : {b B : ℕ} {c : List ℤ} → Sound p s b B c → {d : Decrypted} → DecryptPromise (decrypt_loans p s c) d → d ≡ decrypts_to b
  unfolding decrypt_answer done_or
  sound_decrypts {b} {B} {c} w promise =
      let range : InRange p = params_in_range p key.params in
      let done : first_of (decrypt_rows (decrypt_loans p s c)) ≡ 0 = decrypt_accepts c w.long w.residues in
      let right : decrypt p.q s c ≡ b = decrypt_right p.q s c b (omega (arith, range.q_low)) range.q_even w.bit (omega (arith, w.quiet, w.fits)) in
      promise.answer ∙ rw (done, decrypt_place, right)
