-- The buffer is as found after no run, and the tensor after any other number.
use Rattle.scheme.specs.Arithmetic.{tensor}
use Rattle.loops.specs.Lent.{Run}
use Rattle.loops.proofs.tensors.bench_tensor.Given as goal

abbrev pub invariant-loop : goal.invariant-loop
invariant-loop l = Run (tensor l.q l.c l.d) l.initial.out l.out l.counter
