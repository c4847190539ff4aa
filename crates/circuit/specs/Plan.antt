-- Document 01, *Circuits*: what planning is lent, its refusals, what it answers and leaves, and the promise of these, which the contract of each function that
-- plans cites. One definition for both ways of lending a circuit.
use Rattle.std.specs.Prelude.{◌≡◌, not, ◌||◌, List, [], ◌∷◌, ◌++◌, ℕ, ◌+◌, length, take}
use Rattle.std.proofs.Common.{subst}
use Rattle.whole.specs.Lists.{every}
use Rattle.refusal.specs.Answer.{Answer}
use Rattle.refusal.specs.declared.Params.{Params}
use Rattle.refusal.specs.First.{Row, row, first_of, answer_of, done_or}
use Rattle.scheme.specs.Arithmetic.{fits}
use Rattle.scheme.specs.Calls.{bad_params, differs}
use Rattle.circuit.specs.Circuits.{Circuit, bad_counts, gate_rows, bounds_of}

-- the parameters, the input count, the circuit, and the buffer of bounds (inputs filled)
pub record PlanLoans : Type 0 where
  pub p : Params
  pub inputs : ℕ
  pub circuit : Circuit
  pub bounds : List ℕ

abbrev pub plan_loans : Params → ℕ → Circuit → List ℕ → PlanLoans
plan_loans p inputs circuit Bs = record { p = p; inputs = inputs; circuit = circuit; bounds = Bs }

-- how many wires the circuit has
abbrev pub wire_count : PlanLoans → ℕ
wire_count a = a.inputs + a.circuit.count

-- the bounds of the inputs, as stated
abbrev pub stated : PlanLoans → List ℕ
stated a = take a.inputs a.bounds

-- what planning and evaluation test alike before the gates. 8: the stated bound of an input does not fit
abbrev pub shared_rows : PlanLoans → List Row
shared_rows a = row 8 (not (every (fits a.p.q) (stated a))) ∷ []

-- 9 and 10
abbrev pub circuit_rows : PlanLoans → List Row
circuit_rows a = gate_rows a.p a.inputs a.circuit.gates (stated a)

-- the rows before those of the gates
unfoldable pub plan_front : PlanLoans → List Row
plan_front a =
    row 1 (bad_params a.p)
    ∷ row 2 (bad_counts a.inputs a.circuit.count)
    ∷ row 3 (a.circuit.uneven || differs (length a.bounds) (wire_count a))
    ∷ shared_rows a

unfoldable pub plan_rows : PlanLoans → List Row
plan_rows a = plan_front a ++ circuit_rows a

unfoldable pub plan_answer : PlanLoans → Answer
plan_answer a = answer_of (plan_rows a)

-- the bounds of the gates are written, and the inputs' stand
unfoldable pub plan_bounds : PlanLoans → List ℕ
plan_bounds a = done_or (first_of (plan_rows a)) (bounds_of a.p a.circuit.gates (stated a)) a.bounds

pub record PlanPromise (a : PlanLoans) (r : Answer) (bounds : List ℕ) : Type 0 where
  pub answer : r ≡ plan_answer a
  pub bounds_left : bounds ≡ plan_bounds a

-- equal loans have one promise
pub plan_alike : {a b : PlanLoans} {r : Answer} {bounds : List ℕ} → a ≡ b → PlanPromise a r bounds → PlanPromise b r bounds
plan_alike {r = r} {bounds = bounds} e = subst (λ (x : PlanLoans). PlanPromise x r bounds) e
