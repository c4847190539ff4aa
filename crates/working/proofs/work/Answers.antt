-- `working::work` makes the buffer the wires of the evaluation. Leans on the laws of `Worked` and on what `gate` and `work_gate` ensure.
use Rattle.std.proofs.Common.{◌≡◌, sym, ap, ◌∙◌, false, List, ◌++◌, ℕ, ◌+◌, ◌*◌, ◌≤◌, ◌<◌, ℤ, length, get_or, take, drop, mul-le-mul_right, arith}
use mathlib.Core.List.{flatten}
use Rattle.whole.specs.Lists.{cut, row_ends}
use Rattle.refusal.specs.declared.Params.{Params}
use Rattle.circuit.specs.declared.Gate.{Gate}
use Rattle.circuit.specs.Circuits.{Circuit, gate, gate_wire, wrong_gate, wires_of}
use Rattle.circuit.specs.Wires.{gate_right}
use Rattle.working.specs.Ready.{KeyReady, EvaluateReady, WorkGateReady, key_kept}
use Rattle.working.proofs.Worked.{Worked, work_start, worked_inside, work_step, work_end}
use Rattle.working.proofs.work.Goals as goal

module _ {p : Params} {inputs : ℕ} {circuit : Circuit} {found W scratch₀ : List ℤ} (r : EvaluateReady p inputs circuit found W scratch₀)
    (many : length circuit.gates ≡ circuit.count) where
  start : Worked p W circuit.gates inputs found found 0
  start = work_start (rw r.wires_long (mul-le-mul_right p.n (omega arith))) r.inside

  module _ {wires : List ℤ} {g : ℕ} (w : Worked p W circuit.gates inputs found wires g) where
    done : circuit.count ≤ g → wires ≡ flatten (wires_of p W circuit.gates (cut p.n inputs found))
    done h = work_end w (omega (arith, many)) (r.wires_long ∙ ap (λ (k : ℕ). (inputs + k) * p.n) (sym many))

    -- a turn: the gate that is worked
    module _ (here : g < circuit.count) {turn : Gate} (read : turn ≡ get_or circuit.gates g (gate 0 0 0)) where
      -- it is not wrong
      right : wrong_gate (inputs + g) turn ≡ false
      right = rw read (gate_right inputs circuit.gates g (gate 0 0 0) r.gates_right (omega (arith, many)))

      -- and its wire lies within the buffer
      inside : (inputs + g) * p.n + p.n ≤ length found
      inside = rw r.wires_long (row_ends p.n (inputs + circuit.count) (inputs + g) (omega arith))

      to_work : {scratch : List ℤ} → KeyReady p W scratch → WorkGateReady p turn (inputs + g) wires W scratch
      to_work k = record { key = k; own_inside = rw w.kept inside; inside = worked_inside w; gate_right = right }

      next : {new : List ℤ} → length new ≡ length wires
          → new ≡ take ((inputs + g) * p.n) wires ++ (gate_wire p W turn (cut p.n (inputs + g) wires) ++ drop ((inputs + g) * p.n + p.n) wires)
          → Worked p W circuit.gates inputs found new (g + 1)
      next same e = work_step w (gate 0 0 0) r.key.range (omega (arith, many)) (sym read) right same e

pub loop-g-init : goal.loop-g-init
loop-g-init g c = (c.requires.key, start c.requires (g.met.C.Gates.sized _ c.requires.even))

pub work_gate-requires : goal.work_gate-requires
work_gate-requires g c =
    let (key, w) = c.loop-g.invariant in
    to_work c.requires (g.met.C.Gates.sized _ c.requires.even) w (omega (arith, c.count-g-end.ensures, c.loop-g-test.true)) c.gate.ensures key

pub loop-g-preserved : goal.loop-g-preserved
loop-g-preserved g c =
    let (key, w) = c.loop-g.invariant in
    let n = c.work_gate in (
      key_kept key n.auto.scratch,
      next c.requires (g.met.C.Gates.sized _ c.requires.even) w (omega (arith, c.count-g-end.ensures, c.loop-g-test.true)) c.gate.ensures n.auto.wires n.ensures,
    )

pub returns-clause-wires_after : goal.returns-clause-wires_after
returns-clause-wires_after g c =
    done c.requires (g.met.C.Gates.sized _ c.requires.even) c.loop-g.invariant.1 (omega (arith, c.count-g-end.ensures, c.loop-g-test.false))
