-- Laws about what `specs/Unread` defines that rest on a definition which a must-fail edit turns.
use Rattle.std.specs.Prelude.{◌≡◌, ℕ, ℤ}
use Rattle.std.proofs.Math.Path.{refl, ap}
use Rattle.std.proofs.Common.{sym, ◌∙◌}
use mathlib.Core.List.{List, flatten}
use Rattle.whole.specs.Lists.{cut_same}
use Rattle.refusal.specs.First.{first_of, done_or, done_or_done}
use Rattle.circuit.specs.Circuits.{wires_of}
use Rattle.circuit.specs.Plan.{PlanLoans}
use Rattle.circuit.specs.Evaluate.{EvaluateLoans, evaluate_front, evaluate_rows, evaluate_answer, evaluate_wires, evaluate_bounds, evaluate_scratch}
use Rattle.circuit.specs.Unread.{SameInputs}

-- what is left where the number k is 0, whatever was found
done_alike : {A : Type 0} {k k' : ℕ} {a a' : A} (z z' : A) → k ≡ k' → a ≡ a' → k ≡ 0 → done_or k a z ≡ done_or k' a' z'
done_alike {a = a} {a'} z z' same e none = done_or_done a z none ∙ e ∙ sym (done_or_done a' z' (sym same ∙ none))

module _ (plan : PlanLoans) (wires W scratch wires' scratch' : List ℤ) (same : SameInputs plan wires scratch wires' scratch') where
  abbrev these : EvaluateLoans
  these = record { plan = plan; wires = wires; key = W; scratch = scratch }

  abbrev those : EvaluateLoans
  those = record { plan = plan; wires = wires'; key = W; scratch = scratch' }

  rows_alike : evaluate_rows these ≡ evaluate_rows those
  unfolding evaluate_rows evaluate_front
  rows_alike = rw (same.wires_long, same.inputs_same, same.scratch_long)

  pub evaluate_answer_unread : evaluate_answer these ≡ evaluate_answer those
  unfolding evaluate_answer
  evaluate_answer_unread = rw rows_alike

  pub evaluate_left_unread : (evaluate_answer these).number ≡ 0
      → (evaluate_wires these ≡ evaluate_wires those) × (evaluate_bounds these ≡ evaluate_bounds those) × (evaluate_scratch these ≡ evaluate_scratch those)
  unfolding evaluate_answer evaluate_wires evaluate_bounds evaluate_scratch
  evaluate_left_unread none =
      let made = ap (λ cs. flatten (wires_of plan.p W plan.circuit.gates cs)) (cut_same plan.p.n plan.inputs wires wires' same.inputs_same) in
      (done_alike wires wires' (ap first_of rows_alike) made none, rw rows_alike, done_alike scratch scratch' (ap first_of rows_alike) refl none)
