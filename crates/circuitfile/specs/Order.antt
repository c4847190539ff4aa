-- The file's own order of refusals: what each end of it answers, and what follows where no row of the head applies.
use Rattle.std.specs.Prelude.{◌≡◌, ◌≢◌, Bool, true, false, not, List, [], ◌∷◌, ◌++◌, ℕ, zero, suc, ◌+◌, ◌*◌, ◌≤◌, ◌<◌, leb, length}
use Rattle.std.proofs.Math.Path.{refl, sym}
use Rattle.std.proofs.Common.{ap, ap₂, ◌∙◌, arith}
use borrow.Author.Tests.{ltb-false, leb-true, not-false}
use Rattle.whole.specs.Tests.{and_left, or_right}
use Rattle.whole.specs.Lists.{nil, cons, length_tabulate}
use Rattle.refusal.specs.Answer.{Answer}
use Rattle.refusal.specs.First.{Row, row, refused, First, first_given, first_of, place_of, answer_of, Clear, are_single, first_true, some_one, place_single, place_within, answer_front, answer_rest, answer_row, answer_past, first_zero, first_each}
use Rattle.refusal.specs.Parameters.{within, InRange}
use Rattle.scheme.specs.Calls.{bad_params, differs}
use Rattle.scheme.specs.Passed.{params_in_range, length_is}
use Rattle.circuit.specs.Circuits.{bad_counts, gate_rows}
use Rattle.circuit.specs.Answers.{inputs_within, gates_within}
use Rattle.circuit.specs.Records.{length_wrong_gates}
use Rattle.circuit.proofs.Records.{length_over_gates}
use Rattle.circuitfile.specs.File.{file_params, file_inputs, file_gate_count, file_gate, file_gates, file_input_bounds, head_rows, file_gate_rows, check_rows, plan_file_rows}

-- ---- the answers, with number and place apart: of the gates alone, of the check, and of planning

abbrev pub gate_answer : List ℕ → Answer
gate_answer file = answer_of (file_gate_rows file)

abbrev pub check_refusal : List ℕ → Answer
check_refusal file = answer_of (check_rows file)

abbrev pub plan_refusal : List ℕ → List ℕ → Answer
plan_refusal file buffer = answer_of (plan_file_rows file buffer)

-- 3: planning's buffer has another length than four bytes a wire
abbrev pub other_length : List ℕ → List ℕ → Bool
other_length file buffer = differs (length buffer) (4 * (file_inputs file + file_gate_count file))

-- ---- the head

-- none of its rows applies
pub record HeadRight (file : List ℕ) : Type 0 where
  pub clear : Clear (head_rows file)
  pub enough : 23 ≤ length file
  pub ranges : bad_params (file_params file) ≡ false
  pub range : InRange (file_params file)
  pub counts : bad_counts (file_inputs file) (file_gate_count file) ≡ false
  pub inputs_high : file_inputs file ≤ 1024
  pub gates_low : 1 ≤ file_gate_count file
  pub gates_high : file_gate_count file ≤ 4096
  pub wires_high : file_inputs file + file_gate_count file ≤ 5120
  pub long : length file ≡ 23 + 5 * file_gate_count file

some_gate : (inputs gates : ℕ) → bad_counts inputs gates ≡ false → 1 ≤ gates
unfolding bad_counts
some_gate inputs gates e =
    leb-true 1 gates (and_left (leb 1 gates) (leb gates 4096) (not-false (within 1 4096 gates) (or_right (not (within 1 1024 inputs)) (not (within 1 4096 gates)) e)))

module _ (file : List ℕ) where
  -- the number is that of the first row that applies in the file's own order, and 0 exactly when none does
  pub check_first : First (check_rows file) (first_of (check_rows file))
  unfolding check_rows head_rows file_gate_rows gate_rows
  check_first =
      first_given
      (cons (omega arith) (cons (omega arith) (cons (omega arith) (cons (omega arith) (cons (omega arith) (cons (omega arith) (cons (omega arith) nil)))))))

  -- in planning, with 3 for the buffer's length behind the head
  pub plan_first : (buffer : List ℕ) → First (plan_file_rows file buffer) (first_of (plan_file_rows file buffer))
  unfolding plan_file_rows head_rows file_gate_rows gate_rows
  plan_first buffer =
      first_given
      (cons (omega arith)
      (cons (omega arith) (cons (omega arith) (cons (omega arith) (cons (omega arith) (cons (omega arith) (cons (omega arith) (cons (omega arith) nil))))))))

  head_clear : first_of (head_rows file) ≡ 0 → Clear (head_rows file)
  unfolding head_rows
  head_clear e = first_zero (cons (omega arith) (cons (omega arith) (cons (omega arith) (cons (omega arith) (cons (omega arith) nil))))) e

  pub clear_right : Clear (head_rows file) → HeadRight file
  unfolding head_rows
  clear_right t =
      let counts = t.1.1.1.0.0 in
      let inputs : file_inputs file ≤ 1024 = inputs_within (file_inputs file) (file_gate_count file) counts in
      let gates : file_gate_count file ≤ 4096 = gates_within (file_inputs file) (file_gate_count file) counts in
      record {
        clear = t;
        enough = ltb-false (length file) 23 t.0.0;
        ranges = t.1.1.0.0;
        range = params_in_range (file_params file) t.1.1.0.0;
        counts = counts;
        inputs_high = inputs;
        gates_low = some_gate (file_inputs file) (file_gate_count file) counts;
        gates_high = gates;
        wires_high = omega arith;
        long = length_is (length file) (23 + 5 * file_gate_count file) t.1.1.1.1.0.0;
      }

  pub head_right : first_of (head_rows file) ≡ 0 → HeadRight file
  head_right e = clear_right (head_clear e)

  head_single : are_single (head_rows file) ≡ true
  unfolding are_single head_rows
  head_single = refl

  -- the head refuses: the number is its own, and the place is 0
  module _ {n : ℕ} (e : n ≡ first_of (head_rows file)) (h : n ≢ 0) where
    headed : (rest : List Row) → refused n 0 ≡ answer_of (head_rows file ++ rest)
    headed rest = sym (answer_front (head_rows file) rest (λ z. h (e ∙ z)) ∙ ap₂ refused (sym e) (place_single (head_rows file) head_single))

    pub check_headed : refused n 0 ≡ check_refusal file
    unfolding check_rows
    check_headed = headed (file_gate_rows file)

    pub plan_headed : (buffer : List ℕ) → refused n 0 ≡ plan_refusal file buffer
    unfolding plan_file_rows
    plan_headed buffer = headed _

  -- or it does not, and the answer is that of the rows behind it
  module _ (r : HeadRight file) where
    pub check_settled : gate_answer file ≡ check_refusal file
    unfolding check_rows
    check_settled = sym (answer_rest (head_rows file) (file_gate_rows file) r.clear)

    -- planning's buffer has another length
    pub plan_refused : (buffer : List ℕ) → other_length file buffer ≡ true → refused 3 0 ≡ plan_refusal file buffer
    unfolding plan_file_rows first_true
    plan_refused buffer d =
        sym (answer_rest (head_rows file) _ r.clear ∙ answer_row 3 (other_length file buffer ∷ []) (file_gate_rows file) (some_one _ ∙ d) ∙ rw d)

    pub plan_settled : (buffer : List ℕ) → other_length file buffer ≡ false → gate_answer file ≡ plan_refusal file buffer
    unfolding plan_file_rows
    plan_settled buffer d = sym (answer_rest (head_rows file) _ r.clear ∙ answer_past 3 (other_length file buffer ∷ []) (file_gate_rows file) (some_one _ ∙ d))

  -- the check gives 0 only where the head does
  pub check_passes : {a : Answer} → a ≡ check_refusal file → a.number ≡ 0 → first_of (head_rows file) ≡ 0
  check_passes {a} e z = by_number (first_of (head_rows file)) refl
    where
      by_number : (k : ℕ) → first_of (head_rows file) ≡ k → k ≡ 0
      by_number zero f = refl
      by_number (suc k) f = ap (λ (a : Answer). a.number) (check_headed (sym f) (λ y. omega (arith, y)) ∙ sym e) ∙ z

  -- ---- a place is a gate's, and so it is below 65,536

  many : length (file_gates file) ≡ file_gate_count file
  unfolding file_gates
  many = length_tabulate (file_gate_count file) (file_gate file)

  small_place : (rest : List Row) → (file_gate_count file ≤ 4096 → place_of rest ≤ 4096) → place_of (head_rows file ++ rest) < 65536
  small_place rest small = by_number (first_of (head_rows file)) refl
    where
      by_number : (k : ℕ) → first_of (head_rows file) ≡ k → place_of (head_rows file ++ rest) < 65536
      by_number zero e =
          let r : HeadRight file = head_right e in
          rw (ap (λ (a : Answer). a.place) (answer_rest (head_rows file) rest r.clear)) (omega (arith, small r.gates_high))
      by_number (suc k) e = rw (ap (λ (a : Answer). a.place) (sym (headed (sym e) (λ y. omega (arith, y)) rest))) (omega arith)

  pub check_place : (check_refusal file).place < 65536
  unfolding check_rows file_gate_rows gate_rows
  check_place =
      small_place (file_gate_rows file)
      (λ h.
      place_within 4096
      (cons (omega (arith, h, length_wrong_gates (file_inputs file) (file_gates file), many))
      (cons (omega (arith, h, length_over_gates (file_params file) (file_gates file) (file_input_bounds file), many)) nil)))

  pub plan_place : (buffer : List ℕ) → (plan_refusal file buffer).place < 65536
  unfolding plan_file_rows file_gate_rows gate_rows
  plan_place buffer =
      small_place (row 3 (other_length file buffer) ∷ file_gate_rows file)
      (λ h.
      place_within 4096
      (cons (omega arith)
      (cons (omega (arith, h, length_wrong_gates (file_inputs file) (file_gates file), many))
      (cons (omega (arith, h, length_over_gates (file_params file) (file_gates file) (file_input_bounds file), many)) nil))))

  -- no number is above 12
  pub check_small : (check_refusal file).number < 13
  unfolding check_rows head_rows file_gate_rows gate_rows
  check_small = first_each (λ k. k < 13) (omega arith) (cons (omega arith) (cons (omega arith) (cons (omega arith) (cons (omega arith) (cons (omega arith) (cons (omega arith) (cons (omega arith) nil)))))))
