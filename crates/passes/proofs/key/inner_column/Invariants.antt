-- `inner_column`: the sum so far is the inner product of the first i entries of s and of the column.
use Rattle.std.proofs.Common.{length}
use Rattle.whole.specs.Inner.{column}
use Rattle.whole.specs.Lists.{cut}
use Rattle.passes.proofs.Sums.{Summed}
use Rattle.passes.proofs.key.inner_column.Given as goal

abbrev pub invariant-loop-i : goal.invariant-loop-i
invariant-loop-i l = Summed l.s (column l.j (cut l.width (length l.s) l.table)) l.sum l.i
