-- What `encrypt_into` asks.
use Rattle.std.specs.Prelude.{◌≡◌, true, List, ℕ, ◌+◌, ◌≤◌, ℤ, nat_abs, length}
use Rattle.whole.specs.Lists.{every}
use Rattle.whole.specs.Inner.{sizes}
use Rattle.scheme.specs.Arithmetic.{is_residue}

pub record EncryptIntoReady (q : ℕ) (s : List ℤ) (b : ℕ) (mask : List ℤ) (e : ℤ) (out : List ℤ) : Type 0 where
  pub key_long : length s ≡ length out
  pub mask_long : length mask + 1 ≡ length out
  pub key_small : sizes s ≤ 4096
  pub bit_small : b ≤ 1
  pub mask_inside : every (is_residue q) mask ≡ true
  pub error_small : nat_abs e ≤ 1048576
