-- `check::check_evaluate` answers by the rows of evaluation before planning's: each `refuse_if` asks the next row's test. Past 2 the counts are small, so that no
-- product wraps, and past 3 the inputs' wires lie within the buffer.
use Rattle.std.proofs.Common.{◌≡◌, refl, sym, ◌∙◌, Bool, false, ◌||◌, List, ℕ, ◌+◌, ◌*◌, ◌≤◌, ℤ, length, length-take-le, mul-le-mul, mul-le-mul_right, arith}
use Rattle.whole.specs.Tests.{or_left, or_right}
use Rattle.refusal.specs.declared.Params.{Params}
use Rattle.refusal.specs.Parameters.{InRange}
use Rattle.refusal.specs.First.{Row}
use Rattle.refusal.proofs.Given.{given, refuses, goes_on, last_row, was_false}
use Rattle.scheme.specs.Calls.{differs}
use Rattle.scheme.specs.Passed.{length_is}
use Rattle.keys.specs.Chain.{params_modulus, params_tested, answered_range, or_same}
use Rattle.circuit.specs.Circuits.{Circuit, bad_counts}
use Rattle.circuit.specs.Plan.{plan_loans, wire_count}
use Rattle.circuit.specs.Evaluate.{EvaluateLoans, evaluate_loans, evaluate_front}
use Rattle.circuit.specs.Answers.{inputs_within, gates_within}
use Rattle.evaluation.proofs.check.check_evaluate.Goals as goal

-- the rows before planning's, of what is lent
abbrev front : Params → ℕ → Circuit → List ℕ → (wires W scratch : List ℤ) → List Row
front p inputs circuit bounds wires W scratch = evaluate_front (evaluate_loans (plan_loans p inputs circuit bounds) wires W scratch)

-- so that no product wraps
cube_fits : {p : Params} → InRange p → p.n * (p.n * p.n) ≤ 1073741824
cube_fits r = mul-le-mul r.n_high (mul-le-mul r.n_high r.n_high)

-- past 2
total_fits : {p : Params} (inputs gates : ℕ) {t : Bool} → InRange p → t ≡ bad_counts inputs gates → t ≡ false → (inputs + gates) * p.n ≤ 5242880
total_fits inputs gates r second good =
    let counts : bad_counts inputs gates ≡ false = sym second ∙ good in
    let few : inputs + gates ≤ 5120 = omega (arith, inputs_within inputs gates counts, gates_within inputs gates counts) in
    mul-le-mul few r.n_high

-- five tests
lengths_same : {a b c d e a' b' c' d' e' : Bool} → a ≡ a' → b ≡ b' → c ≡ c' → d ≡ d' → e ≡ e' → (a || b || c || d || e) ≡ (a' || b' || c' || d' || e')
lengths_same a b c d e = or_same (or_same (or_same (or_same a b) c) d) e

-- 3: the lengths that are compared
module _ (a : EvaluateLoans) {t : Bool}
    (third : t ≡ (let l = a.plan in
    let n = l.p.n in
    l.circuit.uneven
    || differs (length a.wires) (wire_count l * n)
    || differs (length l.bounds) (wire_count l)
    || differs (length a.key) (n * (n * n))
    || differs (length a.scratch) (n * n)))
    (same : t ≡ false) where
  -- past 3 the inputs' wires lie within the buffer
  inputs_inside : a.plan.inputs * a.plan.p.n ≤ length a.wires
  inputs_inside =
      let l = a.plan in
      let long : length a.wires ≡ wire_count l * l.p.n = length_is _ _ (search (or_left, or_right, sym third ∙ same) depth 10) in
      rw long (mul-le-mul_right l.p.n (omega arith))

pub returns-in_err-refuse_if : goal.returns-in_err-refuse_if
unfolding evaluate_front
returns-in_err-refuse_if g c =
    given (front c.args.p c.args.inputs (g.C.Gates.lent c.args.circuit.now) c.args.bounds.now c.args.wires.now c.args.key.now c.args.scratch.now)
    (refuses refl c.refuse_if.ensures c.in_err-refuse_if.was (sym (params_tested _ c.in_range.ensures refl)) c.from_residual.ensures.1)

pub returns-in_err-refuse_if-2 : goal.returns-in_err-refuse_if-2
unfolding evaluate_front
returns-in_err-refuse_if-2 g c =
    given (front c.args.p c.args.inputs (g.C.Gates.lent c.args.circuit.now) c.args.bounds.now c.args.wires.now c.args.key.now c.args.scratch.now)
    (goes_on c.refuse_if.ensures c.in_ok-refuse_if.was (sym (params_tested _ c.in_range.ensures refl))
    (refuses refl c.refuse_if-2.ensures c.in_err-refuse_if-2.was (rw c.count-gates.ensures at c.are_bad_counts.ensures) c.from_residual-in_err-refuse_if-2.ensures.1))

pub overflow_add-total : goal.overflow_add-total
overflow_add-total g c =
    let counts = sym c.are_bad_counts.ensures ∙ was_false c.refuse_if-2.ensures c.in_ok-refuse_if-2.was in
    omega (arith, inputs_within _ _ counts, gates_within _ _ counts)

pub overflow_mul-total : goal.overflow_mul-total
overflow_mul-total g c =
    omega (arith, total_fits _ _ (answered_range _ c.in_range.ensures (was_false c.refuse_if.ensures c.in_ok-refuse_if.was)) c.are_bad_counts.ensures (was_false c.refuse_if-2.ensures c.in_ok-refuse_if-2.was))

pub overflow_mul-n : goal.overflow_mul-n
overflow_mul-n g c = omega (arith, cube_fits (answered_range _ c.in_range.ensures (was_false c.refuse_if.ensures c.in_ok-refuse_if.was)))

pub returns-in_err-refuse_if-3 : goal.returns-in_err-refuse_if-3
unfolding evaluate_front
returns-in_err-refuse_if-3 g c =
    given (front c.args.p c.args.inputs (g.C.Gates.lent c.args.circuit.now) c.args.bounds.now c.args.wires.now c.args.key.now c.args.scratch.now)
    (goes_on c.refuse_if.ensures c.in_ok-refuse_if.was (sym (params_tested _ c.in_range.ensures refl))
    (goes_on c.refuse_if-2.ensures c.in_ok-refuse_if-2.was (rw c.count-gates.ensures at c.are_bad_counts.ensures)
    (refuses refl c.refuse_if-3.ensures c.in_err-refuse_if-3.was
    (lengths_same c.is_uneven.ensures (rw c.count-gates.ensures at c.length_differs.ensures) (rw c.count-gates.ensures at c.length_differs-2.ensures)
    c.length_differs-3.ensures c.length_differs-4.ensures)
    c.from_residual-in_err-refuse_if-3.ensures.1)))

pub slice_bounds-is_outside-end : goal.slice_bounds-is_outside-end
slice_bounds-is_outside-end g c =
    let a = c.args in
    let loans : EvaluateLoans =
    evaluate_loans (plan_loans a.p a.inputs (g.C.Gates.lent a.circuit.now) a.bounds.now) a.wires.now a.key.now a.scratch.now in
    let lengths = lengths_same c.is_uneven.ensures (rw c.count-gates.ensures at c.length_differs.ensures) (rw c.count-gates.ensures at c.length_differs-2.ensures)
    c.length_differs-3.ensures c.length_differs-4.ensures in
    sym (length-take-le _ _ (inputs_inside loans lengths (was_false c.refuse_if-3.ensures c.in_ok-refuse_if-3.was)))

pub returns : goal.returns
unfolding evaluate_front
returns g c =
    given (front c.args.p c.args.inputs (g.C.Gates.lent c.args.circuit.now) c.args.bounds.now c.args.wires.now c.args.key.now c.args.scratch.now)
    (goes_on c.refuse_if.ensures c.in_ok-refuse_if.was (sym (params_tested _ c.in_range.ensures refl))
    (goes_on c.refuse_if-2.ensures c.in_ok-refuse_if-2.was (rw c.count-gates.ensures at c.are_bad_counts.ensures)
    (goes_on c.refuse_if-3.ensures c.in_ok-refuse_if-3.was
    (lengths_same c.is_uneven.ensures (rw c.count-gates.ensures at c.length_differs.ensures) (rw c.count-gates.ensures at c.length_differs-2.ensures)
    c.length_differs-3.ensures c.length_differs-4.ensures)
    (last_row refl c.refuse_if-4.ensures (rw c.of-q.ensures at (or_same c.is_outside.ensures c.is_outside_big.ensures))))))

pub of-q-requires : goal.of-q-requires
of-q-requires g c = params_modulus (answered_range _ c.in_range.ensures (was_false c.refuse_if.ensures c.in_ok-refuse_if.was))
