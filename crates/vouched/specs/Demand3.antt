-- **Demand 3**, whole: what the engine vouches for, and that it refuses nothing else. Definitions and promises alone, so that the statement can be read without its
-- proof, which is `demand_3` of the file Held. The promises are those that the contracts of planning, evaluation and decryption cite, so that it speaks of the number
-- and place that a call returned and of the buffers that it left, however the circuit was lent.
use Rattle.std.specs.Prelude.{◌≡◌, List, ℕ, ◌+◌, ◌*◌, ◌≤◌, ◌<◌, ℤ, length, get_or, take, drop}
use Rattle.whole.specs.Lists.{Each}
use Rattle.refusal.specs.declared.Params.{Params}
use Rattle.refusal.specs.Answer.{Answer}
use Rattle.refusal.specs.First.{Clear}
use Rattle.refusal.specs.Exact.{before}
use Rattle.scheme.specs.Calls.{Decrypted, key_check_loans, key_check_answer, decrypt_loans, DecryptPromise, decrypts_to}
use Rattle.scheme.specs.Arithmetic.{noise}
use Rattle.noise.specs.Built.{BuiltFor}
use Rattle.circuit.specs.Circuits.{bits_of}
use Rattle.circuit.specs.Plan.{PlanLoans, plan_rows, PlanPromise}
use Rattle.circuit.specs.Evaluate.{EvaluateLoans, evaluate_rows, EvaluatePromise}
use Rattle.circuit.specs.Exact.{BudgetExactFor, WrongExactFor}

-- wire j of a buffer of wires, each of n entries
abbrev pub wire_at : ℕ → List ℤ → ℕ → List ℤ
wire_at n wires j = take n (drop (j * n) wires)

-- what is taken for granted of evaluation's loans, for a key s and plaintext bits of the inputs, neither of which it is lent
pub record Premises (a : EvaluateLoans) (s : List ℤ) (bits : List ℕ) : Type 0 where
  -- the key check answers 0
  pub key : (key_check_answer (key_check_loans a.plan.p s)).number ≡ 0
  -- the switching key is built for s with errors within F
  pub built : BuiltFor a.plan.p.n a.plan.p.q a.plan.p.f s a.key
  -- each input has a bit
  pub bits_long : length bits ≡ a.plan.inputs
  pub bits_small : Each (λ b. b ≤ 1) bits
  -- the true noise of each input wire for its bit is at most its stated bound
  pub quiet : (i : ℕ) → i < a.plan.inputs → noise a.plan.p.q s (wire_at a.plan.p.n a.wires i) (get_or bits i 0) ≤ get_or a.plan.bounds i 0

-- what is vouched for of a wire c with plaintext bit b and bound B
pub record Vouched (p : Params) (s c : List ℤ) (b B : ℕ) : Type 0 where
  -- its true noise for the bit is at most the bound
  pub quiet : noise p.q s c b ≤ B
  -- the bound fits the budget
  pub fits : 4 * B < p.q
  -- decryption answers 0 and the bit
  pub decrypts : {d : Decrypted} → DecryptPromise (decrypt_loans p s c) d → d ≡ decrypts_to b

-- each wire is vouched for, in the buffers that evaluation left
abbrev pub AllVouched : PlanLoans → List ℤ → List ℕ → List ℤ → List ℕ → Type 0
AllVouched a s bits wires Bs =
    (j : ℕ) → j < a.inputs + length a.circuit.gates → Vouched a.p s (wire_at a.p.n wires j) (get_or (bits_of a.circuit.gates bits) j 0) (get_or Bs j 0)

pub record Demand3 : Type 0 where
  -- where the premises hold and evaluation answers 0, every wire is vouched for
  pub vouches : {a : EvaluateLoans} {s : List ℤ} {bits : List ℕ} {r : Answer} {wires : List ℤ} {Bs : List ℕ} {scratch : List ℤ}
      → Premises a s bits → EvaluatePromise a r wires Bs scratch → r.number ≡ 0 → AllVouched a.plan s bits wires Bs
  -- a call that meets no earlier refusal is refused for budget exactly when some gate's bound by the formula reaches q/4, and the first such gate is named:
  -- evaluation ..
  pub evaluation_exact : {a : EvaluateLoans} {r : Answer} {wires : List ℤ} {Bs : List ℕ} {scratch : List ℤ}
      → EvaluatePromise a r wires Bs scratch → Clear (before 10 (evaluate_rows a)) → BudgetExactFor a.plan r
  -- .. and planning
  pub planning_exact : {a : PlanLoans} {r : Answer} {Bs : List ℕ} → PlanPromise a r Bs → Clear (before 10 (plan_rows a)) → BudgetExactFor a r
  -- for a wrong gate likewise
  pub evaluation_wrong : {a : EvaluateLoans} {r : Answer} {wires : List ℤ} {Bs : List ℕ} {scratch : List ℤ}
      → EvaluatePromise a r wires Bs scratch → Clear (before 9 (evaluate_rows a)) → WrongExactFor a.plan r
  pub planning_wrong : {a : PlanLoans} {r : Answer} {Bs : List ℕ} → PlanPromise a r Bs → Clear (before 9 (plan_rows a)) → WrongExactFor a r
