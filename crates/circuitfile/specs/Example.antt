-- Document 01's own circuit file, the text that it states for it, and its plan; what the file with one fault or two is refused for; and the largest
-- bound that fits. All is computed by the definitions.
use Rattle.std.specs.Prelude.{◌≡◌, refl, ℕ, ◌+◌, ◌*◌, take, set, replicate}
use mathlib.Core.List.{List, [], ◌∷◌, ◌++◌, map, flat_map}
use Rattle.whole.specs.Lists.{tabulate}
use Rattle.refusal.specs.First.{first_of, place_of, first_true, done_or, some_true}
use Rattle.refusal.specs.Parameters.{in_range}
use Rattle.scheme.specs.Arithmetic.{XOR_bound, AND_bound, NOT_bound, fits}
use Rattle.scheme.specs.Calls.{bad_params, differs, over_budget}
use Rattle.circuit.specs.Circuits.{by_kind, run, gate_bound, wrong_gate, wrong_gates, bounds_of, over_gates, bad_counts, gate_rows}
use Rattle.circuitfile.specs.File.{big_endian, field, is_known, file_params, file_inputs, file_gate_count, file_gate, file_gates, file_input_bounds, file_bounds, head_rows, file_gate_rows, check_rows, plan_file_rows, check_answer, plan_file_answer, four_bytes, plan_file_buffer}
use Rattle.circuitfile.specs.Text.{text, text_rows, printed, text_answer, text_buffer, word_in, word_xor, word_and, word_not, word_ok, word_refused, decimal_up_to, decimal, wire_line, kind_word, wire_lines, largest_bound, ok_line, refused_line}

abbrev example_file : List ℕ
example_file =
    0x47 ∷ 0x41 ∷ 0x54 ∷ 0x00 ∷ 0x01 ∷ 0x00 ∷ 0x04 ∷ 0x00 ∷ 0x01 ∷ 0x00 ∷ 0x00 ∷ 0x00 ∷ 0x04 ∷ 0x00 ∷ 0x00 ∷ 0x00 ∷ 0x02 ∷ 0x00 ∷ 0x01
    ∷ 0x00 ∷ 0x02 ∷ 0x00 ∷ 0x03 ∷ 0x01 ∷ 0x00 ∷ 0x00 ∷ 0x00 ∷ 0x01 ∷ 0x02 ∷ 0x00 ∷ 0x02 ∷ 0x00 ∷ 0x00 ∷ 0x00 ∷ 0x00 ∷ 0x03 ∷ 0x00 ∷ 0x00 ∷ []

-- 0 IN 2
-- 1 IN 2
-- 2 AND 34
-- 3 NOT 34
-- 4 XOR 36
-- OK 36 16383
abbrev example_text : List ℕ
example_text =
    48 ∷ 32 ∷ 73 ∷ 78 ∷ 32 ∷ 50 ∷ 10
    ∷ 49 ∷ 32 ∷ 73 ∷ 78 ∷ 32 ∷ 50 ∷ 10
    ∷ 50 ∷ 32 ∷ 65 ∷ 78 ∷ 68 ∷ 32 ∷ 51 ∷ 52 ∷ 10
    ∷ 51 ∷ 32 ∷ 78 ∷ 79 ∷ 84 ∷ 32 ∷ 51 ∷ 52 ∷ 10
    ∷ 52 ∷ 32 ∷ 88 ∷ 79 ∷ 82 ∷ 32 ∷ 51 ∷ 54 ∷ 10
    ∷ 79 ∷ 75 ∷ 32 ∷ 51 ∷ 54 ∷ 32 ∷ 49 ∷ 54 ∷ 51 ∷ 56 ∷ 51 ∷ 10
    ∷ []

pub example_holds : text example_file ≡ example_text
unfolding flat_map tabulate first_of place_of done_or some_true first_true in_range XOR_bound AND_bound NOT_bound fits bad_params differs over_budget by_kind run gate_bound wrong_gate wrong_gates bounds_of over_gates bad_counts gate_rows big_endian field is_known file_params file_inputs file_gate_count file_gate file_gates file_input_bounds file_bounds head_rows file_gate_rows check_rows text word_in word_xor word_and word_not word_ok decimal_up_to decimal wire_line kind_word wire_lines largest_bound ok_line
example_holds = refl

-- planning on the same file, into a buffer that arrives with anything in it: 2, 2, 34, 34, 36
pub example_planned : plan_file_buffer example_file (replicate 20 255) ≡ flat_map (λ B. 0 ∷ 0 ∷ 0 ∷ B ∷ []) (2 ∷ 2 ∷ 34 ∷ 34 ∷ 36 ∷ [])
unfolding flat_map tabulate first_of place_of done_or some_true first_true in_range XOR_bound AND_bound NOT_bound fits bad_params differs over_budget by_kind run gate_bound wrong_gate wrong_gates bounds_of over_gates bad_counts gate_rows big_endian field is_known file_params file_inputs file_gate_count file_gate file_gates file_input_bounds file_bounds head_rows file_gate_rows plan_file_rows plan_file_buffer four_bytes
example_planned = refl

-- the same where the XOR of gate 2 has wire 3 on both sides, and on its right alone: 68, and 36
pub example_operands : plan_file_buffer (set example_file 37 3) (replicate 20 255) ∷ plan_file_buffer (set (set example_file 35 0) 37 3) (replicate 20 255) ∷ []
    ≡ map (λ last. flat_map (λ B. 0 ∷ 0 ∷ 0 ∷ B ∷ []) (2 ∷ 2 ∷ 34 ∷ 34 ∷ last ∷ [])) (68 ∷ 36 ∷ [])
unfolding flat_map tabulate first_of place_of done_or some_true first_true in_range XOR_bound AND_bound NOT_bound fits bad_params differs over_budget by_kind run gate_bound wrong_gate wrong_gates bounds_of over_gates bad_counts gate_rows big_endian field is_known file_params file_inputs file_gate_count file_gate file_gates file_input_bounds file_bounds head_rows file_gate_rows plan_file_rows plan_file_buffer four_bytes
example_operands = refl

-- ---- the file with faults

-- gate 1 is of kind 3, which is none
abbrev wrong_kind : List ℕ
wrong_kind = set example_file 28 3

-- E is 2,031, and so the AND of gate 0 would have the bound 16,391
abbrev over_budget_file : List ℕ
over_budget_file = set (set example_file 15 0x07) 16 0xEF

-- the last byte is missing
abbrev cut_file : List ℕ
cut_file = take 37 example_file

-- REFUSED 10 0
pub example_refused : text over_budget_file ≡ 82 ∷ 69 ∷ 70 ∷ 85 ∷ 83 ∷ 69 ∷ 68 ∷ 32 ∷ 49 ∷ 48 ∷ 32 ∷ 48 ∷ 10 ∷ []
unfolding tabulate first_of place_of first_true done_or some_true in_range XOR_bound AND_bound NOT_bound fits bad_params differs over_budget by_kind run gate_bound wrong_gate wrong_gates bounds_of over_gates bad_counts gate_rows big_endian field is_known file_params file_inputs file_gate_count file_gate file_gates file_input_bounds file_bounds head_rows file_gate_rows check_rows text word_refused decimal_up_to decimal refused_line
example_refused = refl

-- the text in a lent buffer that has room for just it, and in one a byte short; and so of the text of a refusal
pub example_lent : map (text_answer example_file) (replicate 53 9 ∷ replicate 52 9 ∷ [] ∷ []) ++ map (text_answer over_budget_file) (replicate 13 9 ∷ replicate 12 9 ∷ [])
    ≡ printed 0 53 ∷ printed 3 0 ∷ printed 3 0 ∷ printed 0 13 ∷ printed 3 0 ∷ []
unfolding flat_map tabulate first_of place_of first_true done_or some_true in_range XOR_bound AND_bound NOT_bound fits bad_params differs over_budget by_kind run gate_bound wrong_gate wrong_gates bounds_of over_gates bad_counts gate_rows big_endian field is_known file_params file_inputs file_gate_count file_gate file_gates file_input_bounds file_bounds head_rows file_gate_rows check_rows text word_in word_xor word_and word_not word_ok word_refused decimal_up_to decimal wire_line kind_word wire_lines largest_bound ok_line refused_line text_rows text_answer
example_lent = refl

-- two bytes more than the text are as found, and so is a buffer that is too short
pub example_room : map (text_buffer example_file) (replicate 55 9 ∷ replicate 52 9 ∷ []) ≡ (example_text ++ (9 ∷ 9 ∷ [])) ∷ replicate 52 9 ∷ []
unfolding flat_map tabulate first_of place_of first_true done_or some_true in_range XOR_bound AND_bound NOT_bound fits bad_params differs over_budget by_kind run gate_bound wrong_gate wrong_gates bounds_of over_gates bad_counts gate_rows big_endian field is_known file_params file_inputs file_gate_count file_gate file_gates file_input_bounds file_bounds head_rows file_gate_rows check_rows text word_in word_xor word_and word_not word_ok word_refused decimal_up_to decimal wire_line kind_word wire_lines largest_bound ok_line refused_line text_rows text_buffer
example_room = refl

-- as it stands; 9 for gate 1, and 10 for gate 0
pub example_checked : map check_answer (example_file ∷ wrong_kind ∷ over_budget_file ∷ []) ≡ 0 ∷ (9 * 65536 + 1) ∷ (10 * 65536) ∷ []
unfolding tabulate first_of place_of first_true some_true in_range XOR_bound AND_bound NOT_bound fits bad_params differs over_budget by_kind run gate_bound wrong_gate wrong_gates bounds_of over_gates bad_counts gate_rows big_endian field is_known file_params file_inputs file_gate_count file_gate file_gates file_input_bounds file_bounds head_rows file_gate_rows check_rows check_answer
example_checked = refl

-- 9 for gate 2, whose left is 259, and whose right is 256
pub example_wide : map check_answer (set example_file 34 1 ∷ set example_file 36 1 ∷ []) ≡ replicate 2 (9 * 65536 + 2)
unfolding tabulate first_of place_of first_true some_true in_range XOR_bound AND_bound NOT_bound fits bad_params differs over_budget by_kind run gate_bound wrong_gate wrong_gates bounds_of over_gates bad_counts gate_rows big_endian field is_known file_params file_inputs file_gate_count file_gate file_gates file_input_bounds file_bounds head_rows file_gate_rows check_rows check_answer
example_wide = refl

-- another letter at each place of the mark, version 2 and version 257
pub example_known : map check_answer (set example_file 0 72 ∷ set example_file 1 66 ∷ set example_file 2 85 ∷ set example_file 4 2 ∷ set example_file 3 1 ∷ []) ≡ replicate 5 (11 * 65536)
unfolding tabulate first_of place_of first_true some_true in_range XOR_bound AND_bound NOT_bound fits bad_params differs over_budget by_kind run gate_bound wrong_gate wrong_gates bounds_of over_gates bad_counts gate_rows big_endian field is_known file_params file_inputs file_gate_count file_gate file_gates file_input_bounds file_bounds head_rows file_gate_rows check_rows check_answer
example_known = refl

-- n is 1; no inputs; no gates, which is told before the length; a byte too many, and one too few; 22 bytes, which are told before the mark
pub example_head : map check_answer (set example_file 6 1 ∷ set example_file 20 0 ∷ set example_file 22 0 ∷ (example_file ++ (0 ∷ [])) ∷ take 37 wrong_kind ∷ take 22 (set example_file 0 72) ∷ [])
    ≡ (1 * 65536) ∷ (2 * 65536) ∷ (2 * 65536) ∷ (12 * 65536) ∷ (12 * 65536) ∷ (12 * 65536) ∷ []
unfolding tabulate first_of place_of first_true some_true in_range XOR_bound AND_bound NOT_bound fits bad_params differs over_budget by_kind run gate_bound wrong_gate wrong_gates bounds_of over_gates bad_counts gate_rows big_endian field is_known file_params file_inputs file_gate_count file_gate file_gates file_input_bounds file_bounds head_rows file_gate_rows check_rows check_answer
example_head = refl

-- planning them in a buffer of four bytes a wire
pub example_answered : plan_file_answer example_file (replicate 20 255) ∷ plan_file_answer wrong_kind (replicate 20 255) ∷ plan_file_answer over_budget_file (replicate 20 255) ∷ []
    ≡ 0 ∷ (9 * 65536 + 1) ∷ (10 * 65536) ∷ []
unfolding tabulate first_of place_of first_true some_true in_range XOR_bound AND_bound NOT_bound fits bad_params differs over_budget by_kind run gate_bound wrong_gate wrong_gates bounds_of over_gates bad_counts gate_rows big_endian field is_known file_params file_inputs file_gate_count file_gate file_gates file_input_bounds file_bounds head_rows file_gate_rows plan_file_rows plan_file_answer
example_answered = refl

-- a refusal leaves the buffer as found
pub example_left : plan_file_buffer wrong_kind (replicate 20 255) ≡ replicate 20 255
unfolding tabulate first_of place_of first_true some_true in_range XOR_bound AND_bound NOT_bound fits bad_params differs over_budget by_kind run gate_bound wrong_gate wrong_gates bounds_of over_gates bad_counts gate_rows big_endian field is_known file_params file_inputs file_gate_count file_gate file_gates file_input_bounds file_bounds head_rows file_gate_rows plan_file_rows plan_file_buffer done_or
example_left = refl

-- planning the same in a buffer that is a byte short: 3 comes before 9 and 10, and after 12
pub example_order : plan_file_answer wrong_kind (replicate 19 255) ∷ plan_file_answer over_budget_file (replicate 19 255) ∷ plan_file_answer cut_file (replicate 19 255) ∷ []
    ≡ (3 * 65536) ∷ (3 * 65536) ∷ (12 * 65536) ∷ []
unfolding tabulate first_of place_of first_true some_true in_range XOR_bound AND_bound NOT_bound fits bad_params differs over_budget by_kind run gate_bound wrong_gate wrong_gates bounds_of over_gates bad_counts gate_rows big_endian field is_known file_params file_inputs file_gate_count file_gate file_gates file_input_bounds file_bounds head_rows file_gate_rows plan_file_rows plan_file_answer
example_order = refl

-- ---- the largest bound that fits: where q is a multiple of four, and where it is not

pub largest_bounds : largest_bound 16 ∷ largest_bound 18 ∷ largest_bound 65536 ∷ [] ≡ 3 ∷ 4 ∷ 16383 ∷ []
unfolding largest_bound
largest_bounds = refl
