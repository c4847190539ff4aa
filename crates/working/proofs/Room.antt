-- Room for the operands of a gate: two lists of n entries, such as the stretches of the wire buffer that a gate's operands are (`Operand` of `Stretch`). What they hold does not count.
use Rattle.std.specs.Prelude.{◌≡◌, List, ℤ, length}
use Rattle.std.proofs.Common.{◌∙◌}
use Rattle.refusal.specs.declared.Params.{Params}

-- room for the operands of a gate
pub record RoomReady (p : Params) (c d : List ℤ) : Type 0 where
  pub left_long : length c ≡ p.n
  pub right_long : length d ≡ p.n

pub room_kept : {p : Params} {c d new other : List ℤ} → RoomReady p c d → length new ≡ length c → length other ≡ length d → RoomReady p new other
room_kept r left right = record { left_long = left ∙ r.left_long; right_long = right ∙ r.right_long }
