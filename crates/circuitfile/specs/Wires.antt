-- The wires of a file: a bound for each input, and one for each gate after them.
use Rattle.std.specs.Prelude.{◌≡◌, List, length}
use Rattle.std.proofs.Math.Path.{ap₂}
use Rattle.std.proofs.Common.{◌∙◌}
use Prim.Native.Nat.{ℕ, ◌+◌}
use Rattle.std.proofs.Math.ListN.{length-replicate}
use Rattle.whole.specs.Lists.{length_tabulate}
use Rattle.circuit.proofs.Records.{length_bounds_of}
use Rattle.circuitfile.specs.File.{file_params, file_inputs, file_gate_count, file_gate, file_gates, file_input_bounds, file_bounds}

module _ (file : List ℕ) where
  pub length_inputs : length (file_input_bounds file) ≡ file_inputs file
  unfolding file_input_bounds
  length_inputs = length-replicate (file_inputs file) (file_params file).e

  pub length_bounds : length (file_bounds file) ≡ file_inputs file + file_gate_count file
  unfolding file_bounds file_gates
  length_bounds =
      length_bounds_of (file_params file) (file_gates file) (file_input_bounds file) ∙ ap₂ ◌+◌ length_inputs (length_tabulate (file_gate_count file) (file_gate file))
