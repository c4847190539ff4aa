-- Fact W, the switch: a table of N columns that stand for a list σ under a row s takes t to out, with <s,out> = <t,σ> + e up to a
-- multiple of q, and the whole number e is at most the second floor of the AND bound. Any table will do, and any row s: only its
-- sum of sizes matters. Of rounding only how near it stays is used.
use Rattle.std.specs.Prelude.{◌≡◌, List, map, ℕ, ◌+◌, ◌*◌, ◌/◌, ◌≤◌, ℤ, pos, ◌+ℤ◌, ◌*ℤ◌, nat_abs}
use Rattle.whole.specs.Inner.{inner}
use Rattle.scheme.specs.Arithmetic.{switch_entry}

-- ---- the noise

-- <s,out> = <t,σ> + e + turns·q, and |e| is at most the half of N-as-F + L, rounded down
pub record SwitchNoise (q N F L : ℕ) (s σ t : List ℤ) (rows : List (List ℤ)) : Type 0 where
  pub turns : ℤ
  pub e : ℤ
  pub sum : inner s (map (switch_entry q t) rows) ≡ inner t σ +ℤ e +ℤ turns *ℤ pos q
  pub small : nat_abs e ≤ (N * F + L) / 2
