-- The entries passed stand at the front of the buffer.
use Rattle.std.proofs.Common.{map}
use Rattle.stream.specs.Front.{Put}
use Rattle.calls.proofs.entry.copy.Given as goal

abbrev pub invariant-loop-i : goal.invariant-loop-i
invariant-loop-i g l = Put (map g.T.Entry.entry l.xs) l.initial.out l.out l.i
