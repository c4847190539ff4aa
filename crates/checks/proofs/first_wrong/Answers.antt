-- `checks::first_wrong` answers the first wrong gate. Leans on what `gate` and `is_wrong` ensure, and on the search of `First`.
use Rattle.std.proofs.Common.{◌≡◌, sym, ap, ◌∙◌, Bool, true, false, List, ℕ, ◌+◌, ◌≤◌, ◌<◌, length, get_or, arith}
use Rattle.refusal.specs.First.{first_true, first_past, first_here}
use Rattle.circuit.specs.declared.Gate.{Gate}
use Rattle.circuit.specs.Circuits.{gate, wrong_gate, wrong_gates}
use Rattle.circuit.specs.Records.{length_wrong_gates, get_or_wrong_gates}
use Rattle.checks.proofs.first_wrong.Goals as goal

module _ (inputs : ℕ) (gates : List Gate) {g : ℕ} {h : Gate} (here : g < length gates) (turn : h ≡ get_or gates g (gate 0 0 0)) {t : Bool}
    (answered : t ≡ wrong_gate (inputs + g) h) (passed : g ≤ first_true (wrong_gates inputs gates)) where
  -- what `is_wrong` answered is the test of gate g
  tested : get_or (wrong_gates inputs gates) g false ≡ t
  tested = get_or_wrong_gates inputs gates g (gate 0 0 0) here ∙ ap (wrong_gate (inputs + g)) (sym turn) ∙ sym answered

  found : t ≡ true → (g ≡ first_true (wrong_gates inputs gates)) × (g < length (wrong_gates inputs gates))
  found e = (first_here _ g passed (tested ∙ e), omega (arith, here, length_wrong_gates inputs gates))

  next : t ≡ false → g + 1 ≤ first_true (wrong_gates inputs gates)
  next e = omega (arith, first_past (wrong_gates inputs gates) g passed (omega (arith, here, length_wrong_gates inputs gates)) (tested ∙ e))

pub returns-then-is_wrong : goal.returns-then-is_wrong
returns-then-is_wrong g c =
    let many = g.met.C.Gates.sized c.args.circuit.now c.requires.even in
    found _ _ (omega (arith, many, c.count-g-end.ensures, c.loop-g-test.true)) c.gate.ensures c.is_wrong.ensures c.loop-g.invariant c.if-is_wrong.true

pub loop-g-preserved : goal.loop-g-preserved
loop-g-preserved g c =
    let many = g.met.C.Gates.sized c.args.circuit.now c.requires.even in
    next _ _ (omega (arith, many, c.count-g-end.ensures, c.loop-g-test.true)) c.gate.ensures c.is_wrong.ensures c.loop-g.invariant c.if-is_wrong.false

pub returns : goal.returns
returns g c =
    let many = g.met.C.Gates.sized c.args.circuit.now c.requires.even in
    omega (arith, many, c.count-g-end.ensures, c.loop-g-test.false, c.loop-g.invariant, length_wrong_gates c.args.inputs (g.C.Gates.lent c.args.circuit.now).gates)
