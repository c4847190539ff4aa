-- `planning::check_plan` answers by the rows of planning before those of the gates: each `refuse_if` asks the next row's test.
use Rattle.std.proofs.Common.{◌≡◌, refl, sym, ◌∙◌, Bool, not, ◌||◌, ℕ, ◌+◌, eqb, arith}
use Rattle.refusal.proofs.Given.{given, refuses, goes_on, last_row, was_false}
use Rattle.scheme.specs.Calls.{differs}
use Rattle.scheme.specs.Passed.{params_tested, differs_is}
use Rattle.circuit.specs.Plan.{plan_loans, plan_front}
use Rattle.circuit.specs.Answers.{inputs_within, gates_within}
use Rattle.planning.proofs.check_plan.Goals as goal

-- 3: what was found is what the circuit has
third : {u t : Bool} {m n : ℕ} (inputs b : ℕ) → u ≡ t → m ≡ n → (u || not (eqb b (inputs + m))) ≡ (t || differs b (inputs + n))
third inputs b e f = rw (e, f, differs_is) refl

pub returns-in_err-refuse_if : goal.returns-in_err-refuse_if
unfolding plan_front
returns-in_err-refuse_if g c =
    given (plan_front (plan_loans c.args.p c.args.inputs (g.C.Gates.lent c.args.circuit.now) c.args.bounds.now))
    (refuses refl c.refuse_if.ensures c.in_err-refuse_if.was (sym (params_tested _ c.in_range.ensures refl)) c.from_residual.ensures.1)

pub returns-in_err-refuse_if-2 : goal.returns-in_err-refuse_if-2
unfolding plan_front
returns-in_err-refuse_if-2 g c =
    given (plan_front (plan_loans c.args.p c.args.inputs (g.C.Gates.lent c.args.circuit.now) c.args.bounds.now))
    (goes_on c.refuse_if.ensures c.in_ok-refuse_if.was (sym (params_tested _ c.in_range.ensures refl))
    (refuses refl c.refuse_if-2.ensures c.in_err-refuse_if-2.was (rw c.count-gates.ensures at c.are_bad_counts.ensures) c.from_residual-in_err-refuse_if-2.ensures.1))

pub overflow_add-count : goal.overflow_add-count
overflow_add-count g c =
    let counts = sym c.are_bad_counts.ensures ∙ was_false c.refuse_if-2.ensures c.in_ok-refuse_if-2.was in
    omega (arith, inputs_within _ _ counts, gates_within _ _ counts)

pub returns-in_err-refuse_if-3 : goal.returns-in_err-refuse_if-3
unfolding plan_front
returns-in_err-refuse_if-3 g c =
    given (plan_front (plan_loans c.args.p c.args.inputs (g.C.Gates.lent c.args.circuit.now) c.args.bounds.now))
    (goes_on c.refuse_if.ensures c.in_ok-refuse_if.was (sym (params_tested _ c.in_range.ensures refl))
    (goes_on c.refuse_if-2.ensures c.in_ok-refuse_if-2.was (rw c.count-gates.ensures at c.are_bad_counts.ensures)
    (refuses refl c.refuse_if-3.ensures c.in_err-refuse_if-3.was (third _ _ c.is_uneven.ensures c.count-gates.ensures)
    c.from_residual-in_err-refuse_if-3.ensures.1)))

pub returns : goal.returns
unfolding plan_front
returns g c =
    given (plan_front (plan_loans c.args.p c.args.inputs (g.C.Gates.lent c.args.circuit.now) c.args.bounds.now))
    (goes_on c.refuse_if.ensures c.in_ok-refuse_if.was (sym (params_tested _ c.in_range.ensures refl))
    (goes_on c.refuse_if-2.ensures c.in_ok-refuse_if-2.was (rw c.count-gates.ensures at c.are_bad_counts.ensures)
    (goes_on c.refuse_if-3.ensures c.in_ok-refuse_if-3.was (third _ _ c.is_uneven.ensures c.count-gates.ensures)
    (last_row refl c.refuse_if-4.ensures c.is_some_over.ensures))))
