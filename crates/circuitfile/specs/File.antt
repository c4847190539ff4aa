-- Document 01, *Circuit file and printer*: the file's fields, its own order of refusals, and what the file check and planning
-- answer and leave in the buffer of bounds. A file is a list of bytes.
use Rattle.std.specs.Prelude.{◌≡◌, Bool, not, ◌&&◌, ℕ, ◌+◌, ◌*◌, ◌/◌, ◌%◌, ltb, eqb, length, get_or, replicate}
use mathlib.Core.List.{List, [], ◌∷◌, ◌++◌, flat_map, foldl}
use Rattle.whole.specs.Lists.{tabulate}
use Rattle.refusal.specs.Answer.{Answer}
use Rattle.refusal.specs.declared.Params.{Params}
use Rattle.refusal.specs.First.{Row, row, first_of, answer_of, done_or}
use Rattle.refusal.specs.Parameters.{params}
use Rattle.scheme.specs.Calls.{bad_params, differs}
use Rattle.circuit.specs.declared.Gate.{Gate}
use Rattle.circuit.specs.Circuits.{bad_counts, bounds_of, gate_rows}

-- ---- the fields, big-endian

unfoldable pub big_endian : List ℕ → ℕ
big_endian bytes = foldl (λ x byte. 256 * x + byte) 0 bytes

-- the field of `width` bytes at the offset `at`; past the end of the file a byte is 0, and such a file is refused
unfoldable pub field : List ℕ → ℕ → ℕ → ℕ
field file at width = big_endian (tabulate width (λ i. get_or file (at + i) 0))

-- the mark GAT, and 16-bit version 1
unfoldable pub is_known : List ℕ → Bool
is_known file = eqb (get_or file 0 0) 71 && eqb (get_or file 1 0) 65 && eqb (get_or file 2 0) 84 && eqb (field file 3 2) 1

-- n (16 bits), q (32), L (16), E (32), F (16)
unfoldable pub file_params : List ℕ → Params
file_params file = params (field file 5 2) (field file 7 4) (field file 11 2) (field file 13 4) (field file 17 2)

-- inputs (16), gates (16)
unfoldable pub file_inputs : List ℕ → ℕ
file_inputs file = field file 19 2

unfoldable pub file_gate_count : List ℕ → ℕ
file_gate_count file = field file 21 2

abbrev pub head_length : ℕ
head_length = 23

-- 5 bytes a gate: kind (8), left (16), right (16)
unfoldable pub file_gate : List ℕ → ℕ → Gate
file_gate file g =
    let at = head_length + 5 * g in
    record { kind = field file at 1; left = field file (at + 1) 2; right = field file (at + 3) 2 }

unfoldable pub file_gates : List ℕ → List Gate
file_gates file = tabulate (file_gate_count file) (file_gate file)

-- all inputs start at bound E
unfoldable pub file_input_bounds : List ℕ → List ℕ
file_input_bounds file = replicate (file_inputs file) (file_params file).e

-- the bounds of all wires
unfoldable pub file_bounds : List ℕ → List ℕ
file_bounds file = bounds_of (file_params file) (file_gates file) (file_input_bounds file)

-- ---- the order of refusals

-- under 23 bytes gives 12, then 11, 1, 2, then 12 if the length is not 23 + 5·gates
unfoldable pub head_rows : List ℕ → List Row
head_rows file =
    row 12 (ltb (length file) head_length)
    ∷ row 11 (not (is_known file))
    ∷ row 1 (bad_params (file_params file))
    ∷ row 2 (bad_counts (file_inputs file) (file_gate_count file))
    ∷ row 12 (differs (length file) (head_length + 5 * file_gate_count file))
    ∷ []

-- then 9, 10
unfoldable pub file_gate_rows : List ℕ → List Row
file_gate_rows file = gate_rows (file_params file) (file_inputs file) (file_gates file) (file_input_bounds file)

unfoldable pub check_rows : List ℕ → List Row
check_rows file = head_rows file ++ file_gate_rows file

-- planning gives 3 for its buffer's length, four bytes a wire, after the file's 12 and before 9
unfoldable pub plan_file_rows : List ℕ → List ℕ → List Row
plan_file_rows file buffer = head_rows file ++ (row 3 (differs (length buffer) (4 * (file_inputs file + file_gate_count file))) ∷ file_gate_rows file)

-- ---- the answers: 65,536 times the number plus the place

abbrev pub as_one : Answer → ℕ
as_one r = 65536 * r.number + r.place

unfoldable pub check_answer : List ℕ → ℕ
check_answer file = as_one (answer_of (check_rows file))

unfoldable pub plan_file_answer : List ℕ → List ℕ → ℕ
plan_file_answer file buffer = as_one (answer_of (plan_file_rows file buffer))

-- four big-endian bytes
unfoldable pub four_bytes : ℕ → List ℕ
four_bytes x = x / 16777216 % 256 ∷ x / 65536 % 256 ∷ x / 256 % 256 ∷ x % 256 ∷ []

-- planning also writes every wire's bound
unfoldable pub plan_file_buffer : List ℕ → List ℕ → List ℕ
plan_file_buffer file buffer = done_or (first_of (plan_file_rows file buffer)) (flat_map four_bytes (file_bounds file)) buffer

-- ---- the promises, which the contracts of the two calls cite, from C too

pub record CheckPromise (file : List ℕ) (r : ℕ) : Type 0 where
  pub answer : r ≡ check_answer file

pub record PlanFilePromise (file buffer : List ℕ) (r : ℕ) (bounds : List ℕ) : Type 0 where
  pub answer : r ≡ plan_file_answer file buffer
  pub bounds_left : bounds ≡ plan_file_buffer file buffer
