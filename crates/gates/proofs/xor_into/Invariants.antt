-- The first i entries of out are the XOR's, the others as found.
use Rattle.whole.specs.Lists.{Filled}
use Rattle.scheme.specs.Arithmetic.{XOR}
use Rattle.gates.proofs.xor_into.Given as goal

abbrev pub invariant-loop-i : goal.invariant-loop-i
invariant-loop-i l = Filled (XOR l.q l.c l.d) l.initial.out l.out l.i
