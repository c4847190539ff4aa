-- `range::all_below`: of the two numbers kept, the one has no top bit and the other has it exactly where each entry passed is a residue of 2·h.
use Rattle.std.proofs.Common.{◌*◌}
use Rattle.scheme.specs.Arithmetic.{is_residue}
use Rattle.passes.proofs.Tops.{Parted}
use Rattle.passes.proofs.range.all_below.Given as goal

abbrev pub invariant-loop-x : goal.invariant-loop-x
invariant-loop-x l = Parted (is_residue (2 * l.h)) l.xs l.some l.each l.x-index
