-- `put_wires` writes a line for each wire (`parts_more`). There are as many bounds as wires.
use Rattle.std.proofs.Common.{◌≡◌, sym, ap, ap₂, ◌∙◌, ◌+◌, ◌++◌, List, ℕ, length, add-one, take_all, arith}
use mathlib.Core.List.{flat_map}
use Rattle.whole.specs.Lists.{length_tabulate}
use Rattle.circuitfile.specs.File.{file_inputs, file_gate_count, file_bounds}
use Rattle.circuitfile.specs.Order.{head_right}
use Rattle.circuitfile.specs.Wires.{length_bounds}
use Rattle.circuitfile.specs.Lines.{line_of, file_wires, wire_lines_lem, line_at}
use Rattle.gatfile.specs.Writing.{parts_more}
use Rattle.text.proofs.put_wires.Goals as goal

many : (file : List ℕ) {Bs : List ℕ} → Bs ≡ file_bounds file → length Bs ≡ file_inputs file + file_gate_count file
many file e = ap length e ∙ length_bounds file

pub loop-wire-init : goal.loop-wire-init
unfolding flat_map
loop-wire-init c = (c.requires.0, rw c.requires.0 (omega arith))

pub put_wire-requires : goal.put_wire-requires
put_wire-requires c =
    let n = many c.args.circuit.file.now c.requires.1 in
    (omega (arith, n), omega (arith, n, (head_right _ c.args.circuit.right).wires_high, c.loop-wire.invariant.1))

pub loop-wire-preserved : goal.loop-wire-preserved
loop-wire-preserved c =
    let here = line_at c.args.circuit.file.now c.loop-wire.wire c.requires.1 c.loop-wire-test.true in
    let more = parts_more (line_of c.args.circuit.file.now) (file_wires c.args.circuit.file.now) c.loop-wire.wire 0 here.0 in (
      c.put_wire.ensures.line ∙ ap₂ ◌++◌ c.loop-wire.invariant.0 here.1 ∙ sym (rw add-one more),
      omega (arith, c.put_wire.ensures.line_length, c.loop-wire.invariant.1),
    )

pub returns-clause-lines : goal.returns-clause-lines
returns-clause-lines c =
    let n = many c.args.circuit.file.now c.requires.1 in
    let wires = length_tabulate (file_inputs c.args.circuit.file.now + file_gate_count c.args.circuit.file.now) (λ wire. wire) in
    c.loop-wire.invariant.0 ∙ ap (flat_map (line_of c.args.circuit.file.now)) (take_all _ _ (omega (arith, n, wires))) ∙ wire_lines_lem _

pub returns-clause-lines_length : goal.returns-clause-lines_length
returns-clause-lines_length c =
    omega (arith, c.loop-wire.invariant.1, many c.args.circuit.file.now c.requires.1, (head_right _ c.args.circuit.right).wires_high)
