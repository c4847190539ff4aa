-- Refusal of a gate is exact. Where no row before 10 applies, the number is 10 exactly when some gate's bound by the formula does not fit, and the place is the first
-- such gate; otherwise number and place are 0. Where no row before 9 applies, it is 9 exactly when some gate is wrong, with the first such gate. Both are the
-- theorem of any row (`exact` of the crate refusal), for rows that end with those of the gates: planning's, evaluation's, and those of a circuit file.
use Rattle.std.specs.Prelude.{◌≡◌, Bool, true, false, ℕ, ◌+◌, ◌*◌, ◌≤◌, ◌<◌, length, get_or}
use mathlib.Core.List.{List}
use Rattle.refusal.specs.Answer.{Answer}
use Rattle.refusal.specs.declared.Params.{Params}
use Rattle.refusal.specs.First.{refused}
use Rattle.circuit.specs.declared.Gate.{Gate}
use Rattle.circuit.specs.Circuits.{gate, wrong_gate, bounds_of}
use Rattle.circuit.specs.Plan.{PlanLoans, stated}

-- ---- 10: the statement

-- the bound of gate g's wire by the formula, from the stated bounds of the inputs
abbrev pub bound_at : Params → ℕ → List Gate → List ℕ → ℕ → ℕ
bound_at p inputs gates Bs g = get_or (bounds_of p gates Bs) (inputs + g) 0

-- gate g is the first whose bound does not fit: four times it is at or above q
pub record FirstOver (p : Params) (inputs : ℕ) (gates : List Gate) (Bs : List ℕ) (g : ℕ) : Type 0 where
  pub inside : g < length gates
  pub over : p.q ≤ 4 * bound_at p inputs gates Bs g
  pub first : (i : ℕ) → i < g → 4 * bound_at p inputs gates Bs i < p.q

-- what is exact about the answer r
pub record BudgetExact (p : Params) (inputs : ℕ) (gates : List Gate) (Bs : List ℕ) (r : Answer) : Type 0 where
  -- where some gate's bound does not fit, the number is 10
  pub refuses : (g : ℕ) → g < length gates → p.q ≤ 4 * bound_at p inputs gates Bs g → r.number ≡ 10
  -- only there, and the place is the first such gate
  pub first : r.number ≡ 10 → FirstOver p inputs gates Bs r.place
  -- where every gate's bound fits, the number and the place are 0
  pub accepts : ((g : ℕ) → g < length gates → 4 * bound_at p inputs gates Bs g < p.q) → r ≡ refused 0 0

-- ---- 9: the statement

-- whether gate g, which makes wire inputs+g, is wrong: its kind, an operand, or NOT's right
abbrev pub wrong_at : ℕ → List Gate → ℕ → Bool
wrong_at inputs gates g = wrong_gate (inputs + g) (get_or gates g (gate 0 0 0))

-- gate g is the first that is wrong
pub record FirstWrong (inputs : ℕ) (gates : List Gate) (g : ℕ) : Type 0 where
  pub inside : g < length gates
  pub wrong : wrong_at inputs gates g ≡ true
  pub first : (i : ℕ) → i < g → wrong_at inputs gates i ≡ false

pub record WrongExact (inputs : ℕ) (gates : List Gate) (r : Answer) : Type 0 where
  -- where some gate is wrong, the number is 9
  pub refuses : (g : ℕ) → g < length gates → wrong_at inputs gates g ≡ true → r.number ≡ 9
  -- only there, and the place is the first such gate
  pub first : r.number ≡ 9 → FirstWrong inputs gates r.place

-- ---- planning and evaluation

-- of what planning is lent
abbrev pub BudgetExactFor : PlanLoans → Answer → Type 0
BudgetExactFor a r = BudgetExact a.p a.inputs a.circuit.gates (stated a) r

abbrev pub WrongExactFor : PlanLoans → Answer → Type 0
WrongExactFor a r = WrongExact a.inputs a.circuit.gates r
