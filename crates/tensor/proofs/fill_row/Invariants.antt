-- The first v entries of out are the row's, the others as found, so that its length stays.
use Rattle.std.proofs.Common.{map}
use Rattle.whole.specs.Lists.{Filled}
use Rattle.scheme.specs.Arithmetic.{tensor_entry}
use Rattle.tensor.proofs.fill_row.Given as goal

abbrev pub invariant-loop-v : goal.invariant-loop-v
invariant-loop-v l = Filled (map (tensor_entry l.q l.x) l.d) l.initial.out l.out l.v
