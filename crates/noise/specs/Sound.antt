-- What is carried from wire to wire: a key that fits, and a sound ciphertext under it, which decrypts to its bit whatever decryption is lent it.
use Rattle.std.specs.Prelude.{◌≡◌, refl, true, false, List, ℕ, ◌*◌, ◌≤◌, ◌<◌, ℤ, length}
use Rattle.whole.specs.Lists.{every}
use Rattle.refusal.specs.declared.Params.{Params}
use Rattle.refusal.specs.First.{Clear}
use Rattle.refusal.specs.Order.{position_in, order, position, in_order}
use Rattle.refusal.proofs.Order.{first_clear}
use Rattle.scheme.specs.Arithmetic.{is_residue, noise}
use Rattle.scheme.specs.Calls.{bad_params, differs, bad_key, key_check_loans, key_check_rows, key_check_answer}

-- the key fits the parameters: neither 1, 3 nor 4 applies to it
pub record KeyFits (p : Params) (s : List ℤ) : Type 0 where
  pub params : bad_params p ≡ false
  pub long : differs (length s) p.n ≡ false
  pub key : bad_key p.l s ≡ false

pub key_fits : (p : Params) (s : List ℤ) → (key_check_answer (key_check_loans p s)).number ≡ 0 → KeyFits p s
unfolding position_in order position in_order key_check_rows key_check_answer
key_fits p s e =
    let clear : Clear (key_check_rows (key_check_loans p s)) = first_clear (key_check_rows (key_check_loans p s)) refl e in
    record { params = clear.0.0; long = clear.1.0.0; key = clear.1.1.0.0 }

-- c is a ciphertext of the bit b: n residues, whose true noise for b is at most B, and B fits the budget
pub record Sound (p : Params) (s : List ℤ) (b B : ℕ) (c : List ℤ) : Type 0 where
  pub bit : b ≤ 1
  pub long : length c ≡ p.n
  pub residues : every (is_residue p.q) c ≡ true
  pub quiet : noise p.q s c b ≤ B
  pub fits : 4 * B < p.q
