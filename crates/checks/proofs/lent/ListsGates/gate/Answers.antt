-- Gate g of three lists of one length has the kind, the left and the right at g.
use Rattle.std.proofs.Common.{sym, arith}
use Rattle.circuit.specs.Circuits.{gate}
use Rattle.circuit.specs.Records.{even_lengths, get_or_records}
use Rattle.checks.proofs.lent.ListsGates.gate.Goals as goal

pub bounds-self-g-2 : goal.bounds-self-g-2
bounds-self-g-2 c = omega (arith, (even_lengths _ _ _ c.requires.even).0, c.requires.inside)

pub bounds-self-g-3 : goal.bounds-self-g-3
bounds-self-g-3 c = omega (arith, (even_lengths _ _ _ c.requires.even).1, c.requires.inside)

pub returns : goal.returns
returns c =
    let (lefts_long, rights_long) = even_lengths _ _ _ c.requires.even in
    sym (get_or_records _ _ _ c.args.g (gate 0 0 0) lefts_long rights_long c.requires.inside)
