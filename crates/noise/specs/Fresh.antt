-- A fresh encryption is sound, with the bound E that it states, and decrypts to its bit: through the two calls, whatever key, bit, mask and error are lent, where
-- encryption answers 0.
use Rattle.std.specs.Prelude.{◌≡◌, List, ℤ}
use Rattle.scheme.specs.Calls.{Bounded, EncryptLoans}
use Rattle.noise.specs.Sound.{KeyFits, Sound}

-- what follows where encryption answers 0
pub record Fresh (a : EncryptLoans) (r : Bounded) (c : List ℤ) : Type 0 where
  pub key : KeyFits a.p a.key
  -- it states E
  pub states : r.bound ≡ a.p.e
  pub sound : Sound a.p a.key a.bit a.p.e c
