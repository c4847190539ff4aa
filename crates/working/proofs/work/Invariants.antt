-- After g gates the buffer begins with the wires of the run over those gates, and the rest is as found (`Worked`).
use Rattle.working.specs.Ready.{KeyReady}
use Rattle.working.proofs.Worked.{Worked}
use Rattle.working.proofs.work.Given as goal

abbrev pub invariant-loop-g : goal.invariant-loop-g
invariant-loop-g g l = KeyReady l.p l.key l.scratch × Worked l.p l.key (g.C.Gates.lent l.circuit).gates l.inputs l.initial.wires l.wires l.g
