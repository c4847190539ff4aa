-- `working::work_gate` writes what the gate makes over its own wire and leaves the others as found. A gate that is not wrong has its operands before its own
-- wire (`Below`), so that they are ciphertexts (`Operand`), and what is made of them is its wire (`made`). Leans on what `make_wire` ensures.
use Rattle.std.proofs.Common.{◌≡◌, ap, List, ℕ, ◌+◌, ◌*◌, ◌-◌, ◌≤◌, ℤ, length, take, drop, length-drop, length-take-le, arith}
use Rattle.whole.specs.Lists.{row_ends}
use Rattle.refusal.specs.declared.Params.{Params}
use Rattle.circuit.specs.declared.Gate.{Gate}
use Rattle.circuit.specs.Records.{Below, gate_below}
use Rattle.working.specs.Ready.{WorkGateReady, MakeWireReady}
use Rattle.working.proofs.Stretch.{Operand, operand, made, written}
use Rattle.working.proofs.work_gate.Goals as goal

-- the buffer is lent in two parts, that before the gate's own wire and the rest
module _ {p : Params} {gate : Gate} {own : ℕ} {wires W scratch : List ℤ} (r : WorkGateReady p gate own wires W scratch) {before behind : List ℤ}
    (front : before ≡ take (own * p.n) wires) (back : behind ≡ drop (own * p.n) wires) where
  below : Below own gate
  below = gate_below own gate r.gate_right

  before_long : length before ≡ own * p.n
  before_long = rw front (length-take-le (own * p.n) wires (omega (arith, r.own_inside)))

  left_inside : gate.left * p.n + p.n ≤ length before
  left_inside = rw before_long (row_ends p.n own gate.left below.left_below)

  right_inside : gate.right * p.n + p.n ≤ length before
  right_inside = rw before_long (row_ends p.n own gate.right below.right_below)

  left_is : Operand p (gate.left * p.n) wires (take (gate.left * p.n + p.n - gate.left * p.n) (drop (gate.left * p.n) before))
  left_is = operand p (gate.left * p.n) (own * p.n) wires before front (row_ends p.n own gate.left below.left_below) r.own_inside r.inside

  right_is : Operand p (gate.right * p.n) wires (take (gate.right * p.n + p.n - gate.right * p.n) (drop (gate.right * p.n) before))
  right_is = operand p (gate.right * p.n) (own * p.n) wires before front (row_ends p.n own gate.right below.right_below) r.own_inside r.inside

  to_make : MakeWireReady p (take (gate.left * p.n + p.n - gate.left * p.n) (drop (gate.left * p.n) before)) (take (gate.right * p.n + p.n - gate.right * p.n) (drop (gate.right * p.n) before)) W scratch (take p.n behind)
  to_make =
      record {
        key = r.key;
        left = left_is.wire;
        right = right_is.wire;
        out_long = length-take-le p.n behind (omega (arith, r.own_inside, ap length back, length-drop (own * p.n) wires));
      }

pub slice_bounds-make_wire-end : goal.slice_bounds-make_wire-end
slice_bounds-make_wire-end c = let e = c.split_at_mut-before.ensures in left_inside c.requires e.front e.back

pub slice_bounds-make_wire-end-2 : goal.slice_bounds-make_wire-end-2
slice_bounds-make_wire-end-2 c = let e = c.split_at_mut-before.ensures in right_inside c.requires e.front e.back

pub make_wire-requires : goal.make_wire-requires
make_wire-requires c = let e = c.split_at_mut-before.ensures in to_make c.requires e.front e.back

pub returns : goal.returns
returns c =
    let r = c.requires in
    let e = c.split_at_mut-before.ensures in
    written _ _ _ _ _ e.front e.back (made _ _ _ _ _ (below r e.front e.back) (left_is r e.front e.back) (right_is r e.front e.back) c.make_wire.ensures)
