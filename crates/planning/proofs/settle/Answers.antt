-- `planning::settle` fills the table and answers the first gate over the budget. Leans on the laws of `Settled`. Operands lie below the gate's own wire since
-- no gate is wrong (`gate_below`).
use Rattle.std.proofs.Common.{◌≡◌, sym, ap, ◌∙◌, List, ℕ, ◌+◌, ◌*◌, ◌≤◌, ◌<◌, length, get_or, take, set, arith}
use Rattle.refusal.specs.declared.Params.{Params}
use Rattle.refusal.specs.declared.Refusal.TheVariants.{Budget}
use Rattle.refusal.specs.First.{first_true}
use Rattle.scheme.specs.Arithmetic.{XOR_bound, AND_bound, NOT_bound}
use Rattle.circuit.specs.declared.Gate.{Gate}
use Rattle.circuit.specs.Circuits.{Circuit, gate, by_kind}
use Rattle.circuit.specs.Plan.{PlanLoans, plan_loans}
use Rattle.circuit.specs.Records.{Below, gate_below}
use Rattle.circuit.specs.Wires.{gate_right}
use Rattle.circuit.proofs.Records.{length_over_gates}
use Rattle.bound.specs.Ready.{AndBoundReady}
use Rattle.planning.specs.Ready.{SettleReady}
use Rattle.planning.proofs.Settling.{bounds_all, over_all, Settled, settled_start, settled_fits, settled_bound, settled_over, settled_step, settled_end}
use Rattle.planning.proofs.settle.Goals as goal

module _ {p : Params} {inputs : ℕ} {circuit : Circuit} {found : List ℕ} (r : SettleReady p inputs circuit found) (many : length circuit.gates ≡ circuit.count) where
  -- what is planned: the table has room for all its gates
  abbrev loans : PlanLoans
  loans = plan_loans p inputs circuit found

  room : length loans.bounds ≡ loans.inputs + length loans.circuit.gates
  room = omega (arith, r.room, many)

  start : Settled loans found 0
  start = settled_start loans room r.fit

  module _ {table : List ℕ} {g : ℕ} (s : Settled loans table g) where
    past : circuit.count ≤ g → (length (over_all loans) ≤ first_true (over_all loans)) × (table ≡ bounds_all loans)
    past h =
        let (none, all) = settled_end loans room s (omega (arith, many)) in
        (omega (arith, none, many, length_over_gates p circuit.gates (take inputs found)), all)

    module _ (here : g < circuit.count) {turn : Gate} (read : turn ≡ get_or circuit.gates g (gate 0 0 0)) where
      -- where the operands of the turn's gate lie
      below : Below (inputs + g) turn
      below = gate_below _ turn (rw read (gate_right inputs circuit.gates g (gate 0 0 0) r.gates_right (omega (arith, many))))

      inside : inputs + g < length table
      inside = omega (arith, s.kept, r.room)

      left_inside : turn.left < length table
      left_inside = omega (arith, below.left_below, inside)

      right_inside : turn.right < length table
      right_inside = omega (arith, below.right_below, inside)

      operands : AndBoundReady p (get_or table turn.left 0) (get_or table turn.right 0)
      operands =
          record {
            range = r.range;
            left_fits = settled_fits loans room s _ below.left_below;
            right_fits = settled_fits loans room s _ below.right_below;
          }

      -- the bound worked out is that of the gate's wire
      module _ {x : ℕ}
          (made : x ≡ (let B1 = get_or table turn.left 0 in
          let B2 = get_or table turn.right 0 in
          by_kind turn.kind (XOR_bound B1 B2) (AND_bound p.n p.q p.l p.f B1 B2) (NOT_bound B1))) where
        settled : x ≡ get_or (bounds_all loans) (inputs + g) 0
        settled = made ∙ sym (settled_bound loans room s (gate 0 0 0) turn (sym read) (omega (arith, many)) below)

        over : p.q ≤ 4 * x → (Budget g ≡ Budget (first_true (over_all loans))) × (first_true (over_all loans) < length (over_all loans))
        over h =
            let first : g ≡ first_true (over_all loans) = settled_over loans room s (omega (arith, many)) (omega (arith, settled)) in
            (ap Budget first, omega (arith, first, here, many, length_over_gates p circuit.gates (take inputs found)))

        next : 4 * x < p.q → Settled loans (set table (inputs + g) x) (g + 1)
        next h = settled_step loans room s x (omega (arith, many)) settled h

pub loop-g-init : goal.loop-g-init
loop-g-init g c = start c.requires (g.met.C.Gates.sized _ c.requires.circuit.even)

pub bounds-table-gate : goal.bounds-table-gate
bounds-table-gate g c = left_inside c.requires (g.met.C.Gates.sized _ c.requires.circuit.even) c.loop-g.invariant (omega (arith, c.count-g-end.ensures, c.loop-g-test.true)) c.gate-gate.ensures

pub bounds-table-gate-in-loop-g : goal.bounds-table-gate-in-loop-g
bounds-table-gate-in-loop-g g c = right_inside c.requires (g.met.C.Gates.sized _ c.requires.circuit.even) c.loop-g.invariant (omega (arith, c.count-g-end.ensures, c.loop-g-test.true)) c.gate-gate.ensures

pub gate_bound-bound-requires : goal.gate_bound-bound-requires
gate_bound-bound-requires g c = operands c.requires (g.met.C.Gates.sized _ c.requires.circuit.even) c.loop-g.invariant (omega (arith, c.count-g-end.ensures, c.loop-g-test.true)) c.gate-gate.ensures

pub returns-then-p-bound-clause-over : goal.returns-then-p-bound-clause-over
returns-then-p-bound-clause-over g c =
    over c.requires (g.met.C.Gates.sized _ c.requires.circuit.even) c.loop-g.invariant (omega (arith, c.count-g-end.ensures, c.loop-g-test.true)) c.gate-gate.ensures
    c.gate_bound-bound.ensures.0 c.if-p-bound.true

pub loop-g-preserved : goal.loop-g-preserved
loop-g-preserved g c =
    next c.requires (g.met.C.Gates.sized _ c.requires.circuit.even) c.loop-g.invariant (omega (arith, c.count-g-end.ensures, c.loop-g-test.true)) c.gate-gate.ensures
    c.gate_bound-bound.ensures.0 c.if-p-bound.false

pub returns-clause-over : goal.returns-clause-over
returns-clause-over g c = (past c.requires (g.met.C.Gates.sized _ c.requires.circuit.even) c.loop-g.invariant (omega (arith, c.count-g-end.ensures, c.loop-g-test.false))).0

pub returns-clause-table_after : goal.returns-clause-table_after
returns-clause-table_after g c = (past c.requires (g.met.C.Gates.sized _ c.requires.circuit.even) c.loop-g.invariant (omega (arith, c.count-g-end.ensures, c.loop-g-test.false))).1
