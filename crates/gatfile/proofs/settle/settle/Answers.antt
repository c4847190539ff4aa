-- `settle::settle` plans the file's circuit: it lends the file's gates and its inputs at bound E, for which planning answers and leaves what 9, 10 and the
-- bounds of the file are (`circuit_planned`).
use Rattle.circuitfile.specs.Order.{head_right}
use Rattle.gatfile.specs.Settled.{circuit_planned}
use Rattle.gatfile.proofs.settle.settle.Goals as goal

pub returns : goal.returns
returns c =
    let e = circuit_planned _ (head_right _ c.args.circuit.right) c.args.table.now c.params-p.ensures c.inputs-count.ensures.0 (c.fill.ensures.after (λ y e. e)) c.requires c.plan.ensures in
    record { answer = e.0; table_after = e.1 }
