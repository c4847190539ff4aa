-- The entries passed are numbers of 32 bits, and stand at the front of `to`.
use Rattle.std.proofs.Common.{◌≡◌, true, take}
use Rattle.whole.specs.Lists.{every}
use Rattle.stream.specs.Front.{Put}
use Rattle.stream.specs.Ranges.{is_narrow}
use Rattle.edges.proofs.guard.narrow.Given as goal

abbrev pub invariant-loop-i : goal.invariant-loop-i
invariant-loop-i l = Put l.from l.initial.to l.to l.i × (every is_narrow (take l.i l.from) ≡ true)
