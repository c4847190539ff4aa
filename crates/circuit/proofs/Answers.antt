-- Laws about what `specs/Answers` defines that rest on a definition which a must-fail edit turns.
use Rattle.std.specs.Prelude.{◌≡◌, ◌≢◌, Bool, true, false, ℕ, ◌≤◌, ◌<◌, length}
use Rattle.std.proofs.Math.Path.{sym}
use Rattle.std.proofs.Common.{ap₂, ◌∙◌, arith}
use mathlib.Core.List.{List, [], ◌∷◌, ◌++◌}
use Rattle.refusal.specs.declared.Params.{Params}
use Rattle.refusal.specs.First.{Row, row_of, refused, first_of, answer_of, first_true, some_true, Clear, are_single, place_single, answer_front, answer_rest, answer_row, answer_past, answer_none, some_first, none_first}
use Rattle.circuit.specs.declared.Gate.{Gate}
use Rattle.circuit.specs.Circuits.{wrong_gates, over_gates, gate_rows}
use Rattle.circuit.specs.Records.{length_wrong_gates}
use Rattle.circuit.proofs.Records.{length_over_gates}

module _ (p : Params) (inputs : ℕ) (gates : List Gate) (Bs : List ℕ) (front : List Row) where
  abbrev wrong : List Bool
  wrong = wrong_gates inputs gates

  abbrev over : List Bool
  over = over_gates p gates Bs

  abbrev rows : List Row
  rows = front ++ gate_rows p inputs gates Bs

  -- a row in front applies, and each has one test
  pub answered_early : {n : ℕ} → n ≡ first_of front → n ≢ 0 → are_single front ≡ true → refused n 0 ≡ answer_of rows
  answered_early e h single = sym (answer_front front (gate_rows p inputs gates Bs) (λ z. h (e ∙ z)) ∙ ap₂ refused (sym e) (place_single front single))

  module _ (clear : Clear front) where
    behind : answer_of rows ≡ answer_of (gate_rows p inputs gates Bs)
    behind = answer_rest front (gate_rows p inputs gates Bs) clear

    -- some gate is wrong
    pub answered_wrong : first_true wrong < length gates → refused 9 (first_true wrong) ≡ answer_of rows
    unfolding gate_rows
    answered_wrong h = sym (behind ∙ answer_row 9 wrong _ (some_first wrong (omega (arith, length_wrong_gates inputs gates))))

    module _ (right : length gates ≤ first_true wrong) where
      none_wrong : some_true wrong ≡ false
      none_wrong = none_first wrong (omega (arith, length_wrong_gates inputs gates))

      -- none is, and some gate is over the budget
      pub answered_over : first_true over < length gates → refused 10 (first_true over) ≡ answer_of rows
      unfolding gate_rows
      answered_over h =
          sym (behind ∙ answer_past 9 wrong (row_of 10 over ∷ []) none_wrong ∙ answer_row 10 over [] (some_first over (omega (arith, length_over_gates p gates Bs))))

      -- neither
      pub answered_done : length gates ≤ first_true over → refused 0 0 ≡ answer_of rows
      unfolding gate_rows
      answered_done h =
          sym (behind ∙ answer_past 9 wrong (row_of 10 over ∷ []) none_wrong ∙ answer_past 10 over [] (none_first over (omega (arith, length_over_gates p gates Bs))) ∙ answer_none)
