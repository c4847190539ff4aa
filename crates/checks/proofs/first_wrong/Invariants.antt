-- The first wrong gate is not before g.
use Rattle.std.proofs.Common.{◌≤◌}
use Rattle.refusal.specs.First.{first_true}
use Rattle.circuit.specs.Circuits.{wrong_gates}
use Rattle.checks.proofs.first_wrong.Given as goal

abbrev pub invariant-loop-g : goal.invariant-loop-g
invariant-loop-g g l = l.g ≤ first_true (wrong_gates l.inputs (g.C.Gates.lent l.circuit).gates)
