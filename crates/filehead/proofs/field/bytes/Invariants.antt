-- The invariant: the bytes passed are the file's, and the rest are 0.
use Rattle.std.proofs.Common.{◌+◌, slice_index}
use Rattle.whole.specs.Lists.{tabulate, Filled}
use Rattle.filehead.proofs.field.bytes.Given as goal

abbrev pub invariant-loop-i : goal.invariant-loop-i
invariant-loop-i g l = Filled (tabulate g.row.WIDTH (λ i. slice_index l.file (l.at + i))) l.initial.read-items l.read-items l.i
