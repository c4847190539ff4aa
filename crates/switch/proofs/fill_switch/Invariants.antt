-- The first i entries of out are the switch's, the others as found.
use Rattle.std.proofs.Common.{length}
use Rattle.whole.specs.Lists.{Filled}
use Rattle.scheme.specs.Arithmetic.{switch}
use Rattle.switch.proofs.fill_switch.Given as goal

abbrev pub invariant-loop-i : goal.invariant-loop-i
invariant-loop-i l = Filled (switch (length l.initial.out) l.q l.key l.t) l.initial.out l.out l.i
