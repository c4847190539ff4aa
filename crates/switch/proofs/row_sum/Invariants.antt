-- hi·2^20 + lo is the inner product of the chunks passed, and hi and lo are at most 2^42 and 2^20 in size for each.
use Rattle.std.proofs.Common.{◌*◌}
use Rattle.switch.proofs.Chunks.{Held}
use Rattle.switch.proofs.row_sum.Given as goal

abbrev pub invariant-loop-k : goal.invariant-loop-k
invariant-loop-k l = Held l.t l.row (l.k * 16) (l.k * 16) l.sum.hi l.sum.lo
