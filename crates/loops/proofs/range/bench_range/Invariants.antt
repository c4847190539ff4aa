-- After k runs k are counted where the test holds, and none where it does not.
use Rattle.std.proofs.Common.{◌≡◌, ◌*◌, cond}
use Rattle.whole.specs.Lists.{every}
use Rattle.scheme.specs.Arithmetic.{is_residue}
use Rattle.loops.proofs.range.bench_range.Given as goal

abbrev pub invariant-loop : goal.invariant-loop
invariant-loop l = l.found ≡ cond (every (is_residue (l.q * l.q)) l.key) l.counter 0
