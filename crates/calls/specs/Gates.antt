-- Gates as a call in the store lends them: three numbers a gate. Assumes nothing.
use Rattle.std.specs.Prelude.{List, map, ◌/◌, ℤ, length}
use Rattle.std.specs.Simd.{first_chunks}
use Rattle.circuit.specs.declared.Gate.{Gate}
use Rattle.circuit.specs.Circuits.{gate}
use Rattle.calls.specs.Lent.{word_at}

-- the gate of a row of three numbers: kind, left and right
abbrev pub gate_of : List ℤ → Gate
gate_of row = gate (word_at row 0) (word_at row 1) (word_at row 2)

-- the gates of a list: one or two numbers left over are no gate
unfoldable pub gates_of : List ℤ → List Gate
gates_of xs = map gate_of (first_chunks 3 (length xs / 3) xs)
