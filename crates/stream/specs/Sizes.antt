-- The size of a number whose digits are taken one after the other. Assumes nothing.
use Rattle.std.specs.Prelude.{ℕ, Option, Some, None, ◌+◌, ◌*◌, leb, cond}

-- a size with one more digit after it, where it has room for one: ten times a size that has none is further from 0 than any i64
unfoldable pub more : ℕ → ℕ → Option ℕ
more size digit = cond (leb size 922337203685477580) (Some (size * 10 + digit)) None
