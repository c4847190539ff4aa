-- The wires up to that of gate g have their bounds, and each fits (`Settled`, whose laws are in `Settling`).
use Rattle.circuit.specs.Plan.{plan_loans}
use Rattle.planning.proofs.Settling.{Settled}
use Rattle.planning.proofs.settle.Given as goal

abbrev pub invariant-loop-g : goal.invariant-loop-g
invariant-loop-g g l = Settled (plan_loans l.p l.inputs (g.C.Gates.lent l.circuit) l.initial.table) l.table l.g
