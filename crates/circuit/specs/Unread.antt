-- Document 01, *Refusal numbers*: evaluation reads the input wires, never the gates' stretches or the contents of scratch. Two loans that differ in
-- those alone are answered alike, and the same is left where the number is 0.
use Rattle.std.specs.Prelude.{◌≡◌, ◌*◌, ℤ, length, take}
use mathlib.Core.List.{List}
use Rattle.circuit.specs.Plan.{PlanLoans}

-- the same lengths, and the same inputs: the first inputs·n entries of the wires
pub record SameInputs (plan : PlanLoans) (wires scratch wires' scratch' : List ℤ) : Type 0 where
  pub wires_long : length wires ≡ length wires'
  pub inputs_same : take (plan.inputs * plan.p.n) wires ≡ take (plan.inputs * plan.p.n) wires'
  pub scratch_long : length scratch ≡ length scratch'
