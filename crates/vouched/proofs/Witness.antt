-- Demand 3 is not empty. With n 2, q 64, L 2, E 1, F 1, the key s = (1,1), a switching key made from masks (100,-100,7,0) and errors
-- (1,0,0,-1), and two encryptions of 1, document 01's example circuit meets every premise and is accepted, and the bit of its AND is 1.
use Rattle.std.specs.Prelude.{◌≡◌, refl, ℕ, zero, suc, ◌≤◌, ◌<◌, leb, ℤ, pos, get_or, replicate}
use mathlib.Core.List.{List, [], ◌∷◌, flat_map, flatten, zip_with}
use Rattle.std.proofs.Common.{le_refl, arith, leb-true}
use Rattle.whole.specs.Tests.{eq_z}
use Rattle.whole.specs.Round.{round}
use Rattle.whole.specs.Centred.{centred, rest}
use Rattle.whole.specs.Lists.{every, every_each, tabulate, grid, cut}
use Rattle.whole.specs.Inner.{inner, sizes, column}
use Rattle.refusal.specs.declared.Params.{Params}
use Rattle.refusal.specs.Answer.{Answer}
use Rattle.refusal.specs.First.{refused, first_of, place_of, done_or, done_or_done, some_true, first_true}
use Rattle.refusal.specs.Parameters.{params, in_range, sheet, sheets, sheet_table}
use Rattle.scheme.specs.Arithmetic.{is_residue, is_key, encrypt, noise, XOR, XOR_bound, NOT, NOT_bound, tensor_entry, tensor, key_rows, mask_column, row_zero_entry, switching_key, switch_entry, switch, AND, AND_bound, fits}
use Rattle.scheme.specs.Calls.{bad_params, differs, bad_key, bad_bit, outside, exceeds, over_budget, states, decrypts_to, key_check_rows, key_check_answer, make_key_rows, make_key_answer, make_key_result, encrypt_rows, encrypt_answer, encrypt_result, decrypt_loans, decrypt_answer}
use Rattle.scheme.specs.Passed.{errors_within}
use Rattle.scheme.specs.Figures.{−, pair, four}
use Rattle.noise.specs.Built.{MadeFor, made→built}
use Rattle.circuit.specs.declared.Gate.{Gate}
use Rattle.circuit.specs.Circuits.{gate, by_kind, gate_bound, gate_wire, gate_bit, wrong_gate, run, wrong_gates, bounds_of, over_gates, bad_counts, gate_rows, wires_of, bits_of, as_records}
use Rattle.circuit.specs.Plan.{plan_loans, plan_front, plan_rows, plan_answer}
use Rattle.circuit.specs.Evaluate.{EvaluateLoans, evaluate_loans, evaluate_front, evaluate_rows, evaluate_answer, evaluate_wires, evaluate_bounds, evaluate_scratch}
use Rattle.vouched.specs.Demand3.{wire_at, Premises, Vouched}
use Rattle.vouched.proofs.Held.{demand_3}
use Rattle.vouched.specs.Letter.{KeyMade, InputEncrypted, CircuitEvaluated}
use Rattle.vouched.proofs.Lettered.{key_to_letter}

abbrev p : Params
p = params 2 64 2 1 1

abbrev s : List ℤ
s = pair (pos 1) (pos 1)

-- row 0 made from the masks and errors, and the masks
abbrev W : List ℤ
W = − 35 ∷ pos 164 ∷ pos 57 ∷ pos 63 ∷ four (pos 100) (− 100) (pos 7) (pos 0)

-- wire 2 is wire 0 AND wire 1, wire 3 is NOT wire 2, wire 4 is wire 3 XOR wire 0
abbrev gates : List Gate
gates = gate 1 0 1 ∷ gate 2 2 0 ∷ gate 0 3 0 ∷ []

-- the inputs are encryptions of 1 with masks 3 and -20, errors 1 and -1; the gates' stretches and scratch hold 99, which is outside the range of q = 64
abbrev wires : List ℤ
wires = pos 30 ∷ pos 3 ∷ − 13 ∷ − 20 ∷ pos 99 ∷ pos 99 ∷ pos 99 ∷ pos 99 ∷ pos 99 ∷ pos 99 ∷ []

abbrev Bs : List ℕ
Bs = 1 ∷ 1 ∷ 7 ∷ 7 ∷ 7 ∷ []

abbrev scratch : List ℤ
scratch = four (pos 99) (pos 99) (pos 99) (pos 99)

abbrev bits : List ℕ
bits = 1 ∷ 1 ∷ []

abbrev loans : EvaluateLoans
loans = evaluate_loans (plan_loans p 2 (as_records gates) Bs) wires W scratch

-- ---- the premises

W_made : MadeFor 2 64 1 s W
unfolding every is_residue exceeds switching_key row_zero_entry mask_column tabulate cut column centred rest inner
W_made =
    record {
      masks = four (pos 100) (− 100) (pos 7) (pos 0);
      masks_long = refl;
      masks_residues = refl;
      f = four (pos 1) (pos 0) (pos 0) (− 1);
      f_long = refl;
      f_small = errors_within 1 (four (pos 1) (pos 0) (pos 0) (− 1)) refl;
      made = refl;
    }

quiet : (i : ℕ) → i < 2 → noise 64 s (wire_at 2 wires i) (get_or bits i 0) ≤ get_or Bs i 0
unfolding noise centred rest inner
quiet zero h = le_refl 1
quiet (suc zero) h = le_refl 1
quiet (suc (suc i)) h = absurd (omega arith)

pub premises : Premises loans s bits
unfolding every key_check_rows key_check_answer first_of some_true bad_params in_range differs bad_key is_key eq_z sizes
premises =
    record {
      key = refl;
      built = made→built 2 64 s (omega arith) (omega arith) refl refl 1 W W_made;
      bits_long = refl;
      bits_small = every_each (λ b. leb b 1) bits (λ b. leb-true b 1) refl;
      quiet = quiet;
    }

-- ---- evaluation accepts

pub done : first_of (evaluate_rows loans) ≡ 0
unfolding first_of some_true every bad_params in_range bad_counts differs outside is_residue fits over_budget by_kind gate_bound XOR_bound AND_bound NOT_bound wrong_gate run wrong_gates bounds_of over_gates gate_rows evaluate_front evaluate_rows
done = refl

pub answered : (evaluate_answer loans).number ≡ 0
unfolding evaluate_answer
answered = done

-- what it leaves
pub wires_left : evaluate_wires loans
    ≡ pos 30 ∷ pos 3 ∷ − 13 ∷ − 20 ∷ pos 19 ∷ pos 11 ∷ − 13 ∷ pos 11 ∷ pos 17 ∷ pos 14 ∷ []
unfolding by_kind gate_wire run wires_of evaluate_wires cut flatten zip_with grid flat_map inner round centred rest XOR NOT AND switch switch_entry key_rows tensor tensor_entry
wires_left = done_or_done _ wires done

pub bounds_left : evaluate_bounds loans ≡ 1 ∷ 1 ∷ 9 ∷ 9 ∷ 10 ∷ []
unfolding by_kind gate_bound XOR_bound AND_bound NOT_bound run bounds_of evaluate_bounds
bounds_left = done_or_done _ Bs done

pub bits_made : bits_of gates bits ≡ 1 ∷ 1 ∷ 1 ∷ 0 ∷ 1 ∷ []
unfolding bits_of run gate_bit by_kind
bits_made = refl

-- so the AND is vouched for: (19,11) has a true noise of at most 9 for the bit 1, and decrypts to it
pub and_vouched : Vouched p s (pair (pos 19) (pos 11)) 1 9
and_vouched =
    rw (wires_left, bits_made, bounds_left) at
    (demand_3.vouches premises (record { answer = refl; wires_left = refl; bounds_left = refl; scratch_left = refl }) answered 2 (omega arith))

pub scratch_left : evaluate_scratch loans ≡ four (pos 0) (pos 0) (pos 0) (pos 0)
unfolding evaluate_scratch
scratch_left = done_or_done _ scratch done

-- ---- nor is the way from key to letter: the maker writes W, encryption the two inputs, and the AND decrypts to 1

key_made : KeyMade p s W
unfolding make_key_answer make_key_result make_key_rows switching_key row_zero_entry mask_column tabulate cut column some_true first_true first_of place_of done_or bad_params in_range differs bad_key is_key eq_z sizes outside every is_residue exceeds centred rest inner
key_made =
    record {
      masks = four (pos 100) (− 100) (pos 7) (pos 0);
      errors = four (pos 1) (pos 0) (pos 0) (− 1);
      found = replicate 8 (pos 9);
      answer = refused 0 0;
      promise = record { answer = refl; result_left = refl };
      done = refl;
    }

inputs_encrypted : (i : ℕ) → i < 2 → InputEncrypted p s (get_or bits i 0) (wire_at 2 wires i) (get_or Bs i 0)
unfolding encrypt_answer encrypt_result encrypt_rows encrypt some_true first_true first_of place_of done_or bad_params in_range differs bad_key is_key eq_z sizes bad_bit outside every is_residue exceeds centred rest inner
inputs_encrypted zero h =
    record {
      mask = pos 3 ∷ [];
      error = pos 1;
      found = pair (pos 9) (pos 9);
      answer = states 1;
      promise = record { answer = refl; result_left = refl };
      done = refl;
      states = refl;
    }
inputs_encrypted (suc zero) h =
    record {
      mask = − 20 ∷ [];
      error = − 1;
      found = pair (pos 9) (pos 9);
      answer = states 1;
      promise = record { answer = refl; result_left = refl };
      done = refl;
      states = refl;
    }
inputs_encrypted (suc (suc i)) h = absurd (omega arith)

evaluated : CircuitEvaluated p 2 (as_records gates) wires Bs W (evaluate_wires loans)
evaluated =
    record {
      scratch = scratch;
      answer = evaluate_answer loans;
      bounds = evaluate_bounds loans;
      cleared = evaluate_scratch loans;
      promise = record { answer = refl; wires_left = refl; bounds_left = refl; scratch_left = refl };
      done = answered;
    }

pub letter_printed : decrypt_answer (decrypt_loans p s (pair (pos 19) (pos 11))) ≡ decrypts_to 1
letter_printed =
    rw (wires_left, bits_made) at (key_to_letter p s bits (as_records gates) W wires Bs (evaluate_wires loans) key_made inputs_encrypted evaluated 2 (omega arith) _ (record { answer = refl }))

-- ---- nor is refusal empty: on sheet 0 an AND of bounds 1 and 1 would have the bound 9, which does not fit

abbrev XOR01 : Gate
XOR01 = gate 0 0 1

abbrev AND01 : Gate
AND01 = gate 1 0 1

abbrev planned : List Gate → Answer
planned gs = plan_answer (plan_loans (sheet 0) 2 (as_records gs) (1 ∷ 1 ∷ 7 ∷ 7 ∷ []))

-- the last gate alone is over; of two that are the first is named; a wrong gate is named before one that is over
pub plans_refused : planned (XOR01 ∷ AND01 ∷ []) ∷ planned (AND01 ∷ AND01 ∷ []) ∷ planned (AND01 ∷ gate 2 0 1 ∷ []) ∷ [] ≡ refused 10 1 ∷ refused 10 0 ∷ refused 9 1 ∷ []
unfolding first_of first_true some_true every bad_params in_range sheet sheets sheet_table bad_counts differs fits over_budget by_kind gate_bound XOR_bound AND_bound wrong_gate run wrong_gates bounds_of over_gates gate_rows place_of plan_front plan_rows plan_answer
plans_refused = refl

-- evaluation of the first of these writes nothing, also not the XOR, whose bound fits
abbrev found : List ℤ
found = pos 6 ∷ pos 3 ∷ pos 6 ∷ pos 3 ∷ pos 9 ∷ pos 9 ∷ pos 9 ∷ pos 9 ∷ []

pub nothing_written : evaluate_wires (evaluate_loans (plan_loans (sheet 0) 2 (as_records (XOR01 ∷ AND01 ∷ [])) (1 ∷ 1 ∷ 7 ∷ 7 ∷ [])) found (replicate 8 (pos 0)) scratch) ≡ found
unfolding first_of first_true some_true every bad_params in_range sheet sheets sheet_table bad_counts differs outside is_residue fits over_budget by_kind gate_bound XOR_bound AND_bound wrong_gate run wrong_gates bounds_of over_gates gate_rows evaluate_front evaluate_rows evaluate_wires done_or
nothing_written = refl
