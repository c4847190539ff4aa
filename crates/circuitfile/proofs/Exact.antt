-- Laws about what `specs/Exact` defines that rest on a definition which a must-fail edit turns.
use Rattle.std.specs.Prelude.{◌≡◌, ℕ, ◌+◌, ◌*◌, ◌<◌}
use Rattle.std.proofs.Math.Path.{sym}
use Rattle.std.proofs.Common.{ap₂, ◌∙◌, arith}
use mathlib.Core.List.{List, [], ◌∷◌, ◌++◌, flat_map}
use Rattle.refusal.specs.Answer.{Answer}
use Rattle.refusal.specs.First.{Row, row, row_of, refused, first_of, answer_of, Clear, done_or_done}
use Rattle.refusal.specs.Exact.{before, given_clear}
use Rattle.circuit.specs.Circuits.{bounds_of, wrong_gates, gate_rows}
use Rattle.circuit.specs.Exact.{BudgetExact}
use Rattle.circuit.proofs.Exact.{gates_budget_exact}
use Rattle.circuitfile.specs.File.{file_params, file_inputs, file_gates, file_input_bounds, file_bounds, head_rows, file_gate_rows, check_rows, plan_file_rows, check_answer, plan_file_answer, four_bytes, plan_file_buffer, CheckPromise, PlanFilePromise}
use Rattle.circuitfile.specs.Order.{other_length, check_refusal, plan_refusal, check_place, plan_place}
use Rattle.circuitfile.specs.Wires.{length_inputs}
use Rattle.circuitfile.specs.Exact.{told, FileExact}

-- ---- number and place come back

told_as_one : (a : Answer) → a.place < 65536 → told (65536 * a.number + a.place) ≡ a
told_as_one a h = ap₂ refused (omega (arith, h)) (omega (arith, h))

module _ (file : List ℕ) where
  behind : (front : List Row) → Clear (front ++ (row_of 9 (wrong_gates (file_inputs file) (file_gates file)) ∷ []))
      → BudgetExact (file_params file) (file_inputs file) (file_gates file) (file_input_bounds file) (answer_of (front ++ file_gate_rows file))
  unfolding file_gate_rows
  behind front clear = gates_budget_exact (file_params file) (file_inputs file) (file_gates file) (file_input_bounds file) front (length_inputs file) clear

  exact_from : (rows : List Row) → (Clear (before 10 rows) → BudgetExact (file_params file) (file_inputs file) (file_gates file) (file_input_bounds file) (answer_of rows))
      → FileExact file rows (answer_of rows)
  exact_from rows x =
      record {
        given = λ ten. let clear = given_clear rows 10 (λ (e : 10 ≡ 0). omega (arith, e)) ten in (clear, (x clear).first ten);
        refuses = λ clear. (x clear).refuses;
        accepts = λ clear. (x clear).accepts;
      }

  -- ---- the check, and planning

  pub check_exact : {r : ℕ} → CheckPromise file r → FileExact file (check_rows file) (told r)
  unfolding before head_rows file_gate_rows gate_rows check_rows check_answer
  check_exact promise =
      rw (promise.answer, told_as_one (check_refusal file) (check_place file)) (exact_from (check_rows file) (behind (head_rows file)))

  module _ (buffer : List ℕ) where
    pub plan_file_exact : {r : ℕ} {bounds : List ℕ} → PlanFilePromise file buffer r bounds → FileExact file (plan_file_rows file buffer) (told r)
    unfolding before head_rows file_gate_rows gate_rows plan_file_rows plan_file_answer
    plan_file_exact promise =
        rw (promise.answer, told_as_one (plan_refusal file buffer) (plan_place file buffer))
        (exact_from (plan_file_rows file buffer) (behind (head_rows file ++ (row 3 (other_length file buffer) ∷ []))))

    -- where planning answers 0 it wrote the bounds of the circuit in the file, each as four bytes
    pub plan_file_bounds : {r : ℕ} {bounds : List ℕ} → PlanFilePromise file buffer r bounds → r ≡ 0
        → bounds ≡ flat_map four_bytes (bounds_of (file_params file) (file_gates file) (file_input_bounds file))
    unfolding plan_file_answer plan_file_buffer file_bounds
    plan_file_bounds promise none =
        let done : first_of (plan_file_rows file buffer) ≡ 0 = omega (arith, sym promise.answer ∙ none) in
        promise.bounds_left ∙ done_or_done _ buffer done
