-- The sum so far is the inner product of as many entries of both as were passed.
use Rattle.std.proofs.Common.{length}
use Rattle.passes.proofs.Sums.{Summed}
use Rattle.switch.proofs.inner.Given as goal

abbrev pub invariant-loop-x : goal.invariant-loop-x
invariant-loop-x l = Summed l.t l.row l.sum (length l.yielded)
