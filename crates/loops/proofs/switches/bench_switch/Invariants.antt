-- The buffer is as found after no run, and the switch after any other number.
use Rattle.std.proofs.Common.{length}
use Rattle.scheme.specs.Arithmetic.{switch}
use Rattle.loops.specs.Lent.{Run}
use Rattle.loops.proofs.switches.bench_switch.Given as goal

abbrev pub invariant-loop : goal.invariant-loop
invariant-loop l = Run (switch (length l.initial.out) l.q l.key l.t) l.initial.out l.out l.counter
