-- Document 01's example circuit, on sheet 1 with two inputs of bound 2: its plan, and its plaintext bits. One computed test.
use Rattle.std.specs.Prelude.{◌≡◌, refl, List, [], ◌∷◌}
use Rattle.whole.specs.Lists.{every}
use Rattle.refusal.specs.First.{first_of, done_or, some_true}
use Rattle.refusal.specs.Parameters.{in_range, sheet, sheets, sheet_table}
use Rattle.scheme.specs.Arithmetic.{XOR_bound, AND_bound, NOT_bound, fits}
use Rattle.scheme.specs.Calls.{bad_params, differs, over_budget}
use Rattle.circuit.specs.declared.Gate.{Gate}
use Rattle.circuit.specs.Circuits.{gate, by_kind, gate_bound, gate_bit, wrong_gate, run, wrong_gates, bounds_of, over_gates, bad_counts, gate_rows, bits_of, as_records}
use Rattle.circuit.specs.Plan.{plan_loans, plan_front, plan_rows, plan_bounds}

-- wire 2 is wire 0 AND wire 1, wire 3 is NOT wire 2, wire 4 is wire 3 XOR wire 0
abbrev example_gates : List Gate
example_gates = gate 1 0 1 ∷ gate 2 2 0 ∷ gate 0 3 0 ∷ []

-- the gates' bounds arrive with anything in them
pub example_planned : plan_bounds (plan_loans (sheet 1) 2 (as_records example_gates) (2 ∷ 2 ∷ 7 ∷ 4294967295 ∷ 0 ∷ [])) ≡ 2 ∷ 2 ∷ 34 ∷ 34 ∷ 36 ∷ []
unfolding every first_of done_or some_true in_range sheet sheets sheet_table XOR_bound AND_bound NOT_bound fits bad_params differs over_budget by_kind gate_bound wrong_gate run wrong_gates bounds_of over_gates bad_counts gate_rows plan_front plan_rows plan_bounds
example_planned = refl

pub example_bits : bits_of example_gates (1 ∷ 1 ∷ []) ≡ 1 ∷ 1 ∷ 1 ∷ 0 ∷ 1 ∷ []
unfolding bits_of run gate_bit by_kind
example_bits = refl
