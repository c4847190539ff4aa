-- `put_bounds` writes the lines of all wires, and behind them the last line (`ok_line_lem`). There is a gate, and so a last wire.
use Rattle.std.proofs.Common.{ap, ap₂, ◌∙◌, ◌++◌, length, arith}
use Rattle.circuitfile.specs.Text.{word_ok}
use Rattle.circuitfile.specs.Order.{head_right}
use Rattle.circuitfile.specs.Wires.{length_bounds}
use Rattle.circuitfile.specs.Lines.{ok_line_lem}
use Rattle.text.proofs.put_bounds.Goals as goal

pub overflow_sub-output : goal.overflow_sub-output
overflow_sub-output c = omega (arith, ap length c.requires.1 ∙ length_bounds _, (head_right _ c.args.circuit.right).gates_low)

pub overflow_sub-largest : goal.overflow_sub-largest
overflow_sub-largest c = rw c.params.ensures (omega (arith, (head_right _ c.args.circuit.right).range.q_low))

pub bounds-bounds-bounds : goal.bounds-bounds-bounds
bounds-bounds-bounds c = omega (arith, ap length c.requires.1 ∙ length_bounds _, (head_right _ c.args.circuit.right).gates_low)

pub returns : goal.returns
unfolding word_ok
returns c = c.put_pair.ensures ∙ ap₂ ◌++◌ c.put_wires.ensures.lines (ok_line_lem _ c.requires.1 c.params.ensures)
