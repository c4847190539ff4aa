-- Numbers of 64 bits as narrower ones: the number itself, and 0 where it is outside the width. Assumes nothing.
use Rattle.std.specs.Prelude.{cond, ℕ, ℤ, pos, nat_abs}
use Rattle.stream.specs.Ranges.{inside, is_word, is_narrow}

-- 32 bits, from 0 up
unfoldable pub word : ℤ → ℕ
word x = cond (is_word x) (nat_abs x) 0

-- a byte
unfoldable pub byte : ℤ → ℕ
byte x = cond (inside (pos 0) (pos 255) x) (nat_abs x) 0

-- 32 bits, signed
unfoldable pub narrow : ℤ → ℤ
narrow x = cond (is_narrow x) x (pos 0)
