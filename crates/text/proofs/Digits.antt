-- How long the number of a wire is.
use Rattle.std.specs.Prelude.{◌≡◌, List, ℕ, ◌+◌, ◌≤◌, ◌<◌, length}
use Rattle.std.proofs.Common.{arith}
use Rattle.refusal.specs.First.{first_of}
use Rattle.circuitfile.specs.File.{file_inputs, file_gate_count, head_rows}
use Rattle.circuitfile.specs.Text.{decimal}
use Rattle.circuitfile.specs.Order.{head_right}
use Rattle.circuitfile.specs.Lines.{wire_few}

-- at most 4 digits, since it is below 5,120
pub few_digits : (file : List ℕ) (wire : ℕ) → first_of (head_rows file) ≡ 0 → wire < file_inputs file + file_gate_count file → length (decimal wire) ≤ 4
few_digits file wire e h = wire_few wire (omega (arith, (head_right file e).wires_high))
