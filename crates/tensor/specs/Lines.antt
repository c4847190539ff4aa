-- How the code works out a row of the tensor without dividing: for a fixed x the quotients 2·x·y/q lie on a line over y.
use Rattle.std.specs.Prelude.{ℕ, ◌/◌}

-- 2^62 divided by q/2: the one division of a tensor
abbrev pub reciprocal_of : ℕ → ℕ
reciprocal_of q = 4611686018427387904 / (q / 2)
