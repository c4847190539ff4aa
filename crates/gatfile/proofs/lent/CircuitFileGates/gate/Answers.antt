-- `lent::gate` reads the five bytes of the gate, all of which lie in the file (`gate_within`).
use Rattle.std.proofs.Common.{arith}
use Rattle.gatfile.specs.Settled.{gate_within}
use Rattle.gatfile.proofs.lent.CircuitFileGates.gate.Goals as goal

pub bounds-self-at : goal.bounds-self-at
bounds-self-at c = omega (arith, gate_within _ c.args.self.now.right _ c.requires.inside)

pub bounds-self-at-2 : goal.bounds-self-at-2
bounds-self-at-2 c = omega (arith, gate_within _ c.args.self.now.right _ c.requires.inside)

pub bounds-self-at-3 : goal.bounds-self-at-3
bounds-self-at-3 c = omega (arith, gate_within _ c.args.self.now.right _ c.requires.inside)

pub bounds-self-at-4 : goal.bounds-self-at-4
bounds-self-at-4 c = omega (arith, gate_within _ c.args.self.now.right _ c.requires.inside)

pub bounds-self-at-5 : goal.bounds-self-at-5
bounds-self-at-5 c = omega (arith, gate_within _ c.args.self.now.right _ c.requires.inside)
