-- What `xor_into`, `not_into` and `and_into` ask. A call knows it once no refusal applies, and a circuit once its loans are tested.
use Rattle.std.specs.Prelude.{◌≡◌, true, List, ℕ, ◌*◌, ◌≤◌, ◌<◌, ℤ, length}
use Rattle.whole.specs.Lists.{every}
use Rattle.scheme.specs.Arithmetic.{is_residue}

pub record XorIntoReady (q : ℕ) (c d out : List ℤ) : Type 0 where
  pub left_long : length c ≡ length out
  pub right_long : length d ≡ length out
  pub left_inside : every (is_residue q) c ≡ true
  pub right_inside : every (is_residue q) d ≡ true

pub record NotIntoReady (q : ℕ) (c out : List ℤ) : Type 0 where
  pub long : length c ≡ length out
  pub not_empty : 0 < length out
  pub inside : every (is_residue q) c ≡ true

-- n is the length of the result
pub record AndIntoReady (q : ℕ) (c d W scratch out : List ℤ) : Type 0 where
  pub high : length out ≤ 1024
  pub left_long : length c ≡ length out
  pub right_long : length d ≡ length out
  pub scratch_long : length scratch ≡ length out * length out
  pub key_long : length W ≡ length out * (length out * length out)
  pub left_inside : every (is_residue q) c ≡ true
  pub right_inside : every (is_residue q) d ≡ true
  pub key_inside : every (is_residue (q * q)) W ≡ true
