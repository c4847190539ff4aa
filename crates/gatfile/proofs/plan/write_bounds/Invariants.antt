-- The invariant: four bytes of each of the bounds passed are written from the front (`PartsWritten`).
use Rattle.std.proofs.Common.{◌*◌}
use Rattle.circuitfile.specs.File.{four_bytes}
use Rattle.gatfile.specs.Writing.{PartsWritten}
use Rattle.gatfile.proofs.plan.write_bounds.Given as goal

abbrev pub invariant-loop-i : goal.invariant-loop-i
invariant-loop-i l = PartsWritten four_bytes l.bounds l.initial.out l.out (4 * l.i) l.i
