-- The invariant: the lines of the wires passed are written, each of at most 20 bytes.
use Rattle.std.proofs.Common.{◌≡◌, ◌*◌, ◌≤◌, length, take}
use mathlib.Core.List.{flat_map}
use Rattle.circuitfile.specs.Lines.{line_of, file_wires}
use Rattle.text.proofs.put_wires.Given as goal

abbrev pub invariant-loop-wire : goal.invariant-loop-wire
invariant-loop-wire l = (l.page ≡ flat_map (line_of l.circuit.file.now) (take l.wire (file_wires l.circuit.file.now))) × (length l.page ≤ 20 * l.wire)
