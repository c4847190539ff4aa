-- The entries passed are put.
use Rattle.std.proofs.Common.{take}
use Rattle.calls.specs.Print.{PutAs}
use Rattle.calls.proofs.print.entries.Given as goal

abbrev pub invariant-loop-x : goal.invariant-loop-x
invariant-loop-x g l = PutAs g.T.Into.converts (take l.x-index l.xs) l.initial.output l.output
