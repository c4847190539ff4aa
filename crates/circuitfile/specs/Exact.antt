-- Refusal for the budget is exact in the two calls that C makes, for every file: of the number and place that are answered as one number, 10 is given exactly
-- where no earlier number applies and some gate's bound by the formula reaches q/4, and the place is the first such gate. And where planning answers 0, what it wrote
-- are the bounds of the circuit in the file.
use Rattle.std.specs.Prelude.{◌≡◌, ℕ, ◌*◌, ◌/◌, ◌%◌, ◌≤◌, ◌<◌, length}
use mathlib.Core.List.{List}
use Rattle.refusal.specs.Answer.{Answer}
use Rattle.refusal.specs.First.{Row, refused, Clear}
use Rattle.refusal.specs.Exact.{before}
use Rattle.circuit.specs.Exact.{bound_at, FirstOver}
use Rattle.circuitfile.specs.File.{file_params, file_inputs, file_gates, file_input_bounds}

-- ---- the statements

-- the number and the place that are answered as one number
abbrev pub told : ℕ → Answer
told r = refused (r / 65536) (r % 65536)

-- the bound of gate g of the file, by the formula, from E for each input
abbrev pub file_bound_at : List ℕ → ℕ → ℕ
file_bound_at file g = bound_at (file_params file) (file_inputs file) (file_gates file) (file_input_bounds file) g

-- what is exact about the answer a, of a call on the file that has those rows
pub record FileExact (file : List ℕ) (rows : List Row) (a : Answer) : Type 0 where
  -- 10 is given only where no earlier number applies, and the place is the first gate whose bound does not fit
  pub given : a.number ≡ 10 → Clear (before 10 rows) × FirstOver (file_params file) (file_inputs file) (file_gates file) (file_input_bounds file) a.place
  -- where no earlier number applies and some gate's bound does not fit, it is given
  pub refuses : Clear (before 10 rows) → (g : ℕ) → g < length (file_gates file) → (file_params file).q ≤ 4 * file_bound_at file g → a.number ≡ 10
  -- and where none does not fit, 0
  pub accepts : Clear (before 10 rows) → ((g : ℕ) → g < length (file_gates file) → 4 * file_bound_at file g < (file_params file).q) → a ≡ refused 0 0
