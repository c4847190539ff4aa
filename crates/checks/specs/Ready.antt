-- What it tells of a circuit that is lent that neither 2 nor 3 applies, as far as the checks of its gates go by it; and what a search of tests answers.
use Rattle.std.specs.Prelude.{◌≡◌, false, Bool, List, ℕ, ◌≤◌, ◌<◌, length, MatchOption, Option}
use Rattle.refusal.specs.First.{first_true}
use Rattle.circuit.specs.Circuits.{Circuit}

pub record CircuitReady (inputs : ℕ) (c : Circuit) : Type 0 where
  pub inputs_high : inputs ≤ 1024
  pub gates_high : c.count ≤ 4096
  pub even : c.uneven ≡ false

-- the first test that is true was found, or none is true
abbrev pub IsFirstTrue : List Bool → Option ℕ → Type 0
IsFirstTrue tests found = MatchOption found (length tests ≤ first_true tests) (λ g. (g ≡ first_true tests) × (g < length tests))
