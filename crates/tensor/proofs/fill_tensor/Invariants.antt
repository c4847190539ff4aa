-- The first u rows of out are the tensor's, the others as found.
use Rattle.std.proofs.Common.{length, ◌*◌}
use Rattle.whole.specs.Lists.{Filled}
use Rattle.scheme.specs.Arithmetic.{tensor}
use Rattle.tensor.proofs.fill_tensor.Given as goal

abbrev pub invariant-loop-u : goal.invariant-loop-u
invariant-loop-u l = Filled (tensor l.q l.c l.d) l.initial.out l.out (l.u * length l.d)
