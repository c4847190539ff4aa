-- What `row_zero_entry` and `fill_row_zero` ask. n is the length of the key.
use Rattle.std.specs.Prelude.{◌≡◌, List, ℕ, ◌+◌, ◌*◌, ◌-◌, ◌≤◌, ◌<◌, ℤ, nat_abs, length}
use Rattle.whole.specs.Inner.{sizes}
use Rattle.scheme.specs.Calls.{MakeKeyLoans}
use Rattle.scheme.specs.Loans.{Modulus, UpTo}

-- row 0, of the key and the masks
pub record RowZeroReady (q : ℕ) (s masks : List ℤ) : Type 0 where
  pub low : 2 ≤ length s
  pub high : length s ≤ 1024
  pub key_small : sizes s ≤ 4096
  pub masks_long : length masks ≡ (length s - 1) * (length s * length s)
  pub masks_small : UpTo 549755813888 masks

-- its entry in the column j, which has this error
pub record RowZeroEntryReady (q : ℕ) (s masks : List ℤ) (error : ℤ) (j : ℕ) : Type 0 where
  pub row : RowZeroReady q s masks
  pub error_small : nat_abs error ≤ 65535
  pub column : j < length s * length s

-- all of it, with an error for each column, into a buffer
pub record FillRowZeroReady (q : ℕ) (s masks errors out : List ℤ) : Type 0 where
  pub row : RowZeroReady q s masks
  pub errors_long : length errors ≡ length s * length s
  pub errors_small : UpTo 65535 errors
  pub room : length out ≡ length s * length s

-- a whole switching key: what it tells that its maker refuses nothing
pub record MakeKeyReady (a : MakeKeyLoans) : Type 0 where
  pub modulus : Modulus a.p.q
  pub count : length a.key ≡ a.p.n
  pub row : RowZeroReady a.p.q a.key a.masks
  pub errors_long : length a.errors ≡ length a.key * length a.key
  pub errors_small : UpTo 65535 a.errors
  pub room : length a.result ≡ length a.errors + length a.masks
