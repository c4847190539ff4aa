-- What `settle` asks of what it is lent, which `plan` tests first and refuses; and what it answers.
use Rattle.std.specs.Prelude.{◌≡◌, true, false, Bool, List, ℕ, ◌+◌, ◌≤◌, ◌<◌, length, take, Result, MatchResult}
use Rattle.whole.specs.Lists.{every}
use Rattle.refusal.specs.declared.Params.{Params}
use Rattle.refusal.specs.declared.Refusal.{Refusal}
use Rattle.refusal.specs.declared.Refusal.TheVariants.{Budget}
use Rattle.refusal.specs.First.{some_true, first_true}
use Rattle.refusal.specs.Parameters.{InRange}
use Rattle.scheme.specs.Arithmetic.{fits}
use Rattle.circuit.specs.Circuits.{Circuit, wrong_gates}
use Rattle.checks.specs.Ready.{CircuitReady}

-- the table has room for a bound of each wire, those of the inputs fit, and no gate is wrong
pub record SettleReady (p : Params) (inputs : ℕ) (c : Circuit) (table : List ℕ) : Type 0 where
  pub range : InRange p
  pub circuit : CircuitReady inputs c
  pub room : length table ≡ inputs + c.count
  pub fit : every (fits p.q) (take inputs table) ≡ true
  pub gates_right : some_true (wrong_gates inputs c.gates) ≡ false

-- no test is true, or the first that is true is refused
abbrev pub IsSettled : List Bool → Result (Unit {0}) Refusal → Type 0
IsSettled tests r = MatchResult r (λ u. length tests ≤ first_true tests) (λ e. (e ≡ Budget (first_true tests)) × (first_true tests < length tests))
