-- What `and_bound` asks. The call AND knows it once no refusal before 10 applies, and planning of every gate's operands.
use Rattle.std.specs.Prelude.{ℕ, ◌*◌, ◌<◌}
use Rattle.refusal.specs.declared.Params.{Params}
use Rattle.refusal.specs.Parameters.{InRange}

pub record AndBoundReady (p : Params) (B1 B2 : ℕ) : Type 0 where
  pub range : InRange p
  pub left_fits : 4 * B1 < p.q
  pub right_fits : 4 * B2 < p.q
