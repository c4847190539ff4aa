-- Laws about what `specs/Exact` defines that rest on a definition which a must-fail edit turns.
use Rattle.std.specs.Prelude.{◌≡◌, Bool, true, false, ℕ, ◌*◌, ◌<◌, length, get_or}
use Rattle.std.proofs.Math.Path.{refl, sym, ap}
use Rattle.std.proofs.Common.{◌∙◌, arith, length-take-le}
use mathlib.Core.List.{List, [], ◌∷◌, ◌++◌}
use Rattle.whole.specs.Tests.{clash, or_neither}
use Rattle.refusal.specs.Answer.{Answer}
use Rattle.refusal.specs.declared.Params.{Params}
use Rattle.refusal.specs.First.{Row, row_of, first_of, answer_of, Clear, clear_append, answer_rest, answer_none}
use Rattle.refusal.specs.Exact.{before, IsFirst, Exact, is_other, exact, true_inside}
use Rattle.scheme.specs.Calls.{over_budget}
use Rattle.scheme.specs.Passed.{bound_fits, bound_over, above_over, below_over, lengths_same}
use Rattle.circuit.specs.declared.Gate.{Gate}
use Rattle.circuit.specs.Circuits.{gate, wrong_gates, over_gates, gate_rows}
use Rattle.circuit.specs.Plan.{PlanLoans, wire_count, stated, shared_rows, circuit_rows, plan_front, plan_rows, plan_answer, plan_bounds}
use Rattle.circuit.specs.Evaluate.{EvaluateLoans, evaluate_front, evaluate_rows, evaluate_answer, evaluate_bounds}
use Rattle.circuit.specs.Records.{length_wrong_gates, get_or_wrong_gates}
use Rattle.circuit.proofs.Records.{length_over_gates, get_or_over_gates}
use Rattle.circuit.specs.Passed.{plan_passed, evaluate_passed}
use Rattle.circuit.specs.Exact.{bound_at, FirstOver, BudgetExact, wrong_at, FirstWrong, WrongExact, BudgetExactFor, WrongExactFor}

-- ---- rows that end with those of the gates

module _ (p : Params) (inputs : ℕ) (gates : List Gate) (Bs : List ℕ) (front : List Row) where
  abbrev wrong : List Bool
  wrong = wrong_gates inputs gates

  abbrev over : List Bool
  over = over_gates p gates Bs

  wrong_test : (g : ℕ) → g < length gates → get_or wrong g false ≡ wrong_at inputs gates g
  wrong_test g inside = get_or_wrong_gates inputs gates g (gate 0 0 0) inside

  first_wrong : {g : ℕ} → IsFirst wrong g → FirstWrong inputs gates g
  first_wrong {g} f =
      let inside : g < length gates = omega (arith, true_inside wrong g f.here, length_wrong_gates inputs gates) in
      record { inside = inside; wrong = sym (wrong_test g inside) ∙ f.here; first = λ i h. sym (wrong_test i (omega (arith, h, inside))) ∙ f.first i h }

  pub gates_wrong_exact : Clear front → WrongExact inputs gates (answer_of (front ++ gate_rows p inputs gates Bs))
  unfolding gate_rows is_other
  gates_wrong_exact clear =
      let x : Exact (row_of 9 wrong) (row_of 10 over ∷ []) (answer_of (front ++ gate_rows p inputs gates Bs)) = exact front (row_of 9 wrong) (row_of 10 over ∷ []) clear refl in
      record { refuses = λ g inside e. x.refuses g (wrong_test g inside ∙ e); first = λ nine. first_wrong (x.first nine) }

  module _ (long : length Bs ≡ inputs) where
    over_test : (g : ℕ) → g < length gates → get_or over g false ≡ over_budget p.q (bound_at p inputs gates Bs g)
    over_test g inside = rw long at (get_or_over_gates p gates Bs g inside)

    -- where every gate's bound fits, no test is true
    none_over : ((g : ℕ) → g < length gates → 4 * bound_at p inputs gates Bs g < p.q) → (g : ℕ) → get_or over g false ≡ false
    none_over fit g = by_test (get_or over g false) refl
      where
        by_test : (t : Bool) → get_or over g false ≡ t → t ≡ false
        by_test true e =
            let inside : g < length gates = omega (arith, true_inside over g e, length_over_gates p gates Bs) in
            clash (sym (over_test g inside) ∙ e) (below_over p.q _ (fit g inside))
        by_test false e = refl

    first_over : {g : ℕ} → IsFirst over g → FirstOver p inputs gates Bs g
    first_over {g} f =
        let inside : g < length gates = omega (arith, true_inside over g f.here, length_over_gates p gates Bs) in
        record {
          inside = inside;
          over = bound_over p.q _ (sym (over_test g inside) ∙ f.here);
          first = λ i h. bound_fits p.q _ (sym (over_test i (omega (arith, h, inside))) ∙ f.first i h);
        }

    pub gates_budget_exact : Clear (front ++ (row_of 9 wrong ∷ [])) → BudgetExact p inputs gates Bs (answer_of (front ++ gate_rows p inputs gates Bs))
    unfolding gate_rows is_other
    gates_budget_exact clear =
        let (before_nine, nine) = clear_append front (row_of 9 wrong ∷ []) clear in
        let x : Exact (row_of 10 over) [] (answer_of ((row_of 9 wrong ∷ []) ++ (row_of 10 over ∷ []))) = exact (row_of 9 wrong ∷ []) (row_of 10 over) [] nine refl in
        rw (answer_rest front (gate_rows p inputs gates Bs) before_nine)
        (record {
          refuses = λ g inside e. x.refuses g (over_test g inside ∙ above_over p.q _ e);
          first = λ ten. first_over (x.first ten);
          accepts = λ fit. x.passes (none_over fit) ∙ answer_none;
        })

-- ---- planning and evaluation

module _ (a : PlanLoans) where
  pub plan_wrong_exact : Clear (before 9 (plan_rows a)) → WrongExactFor a (plan_answer a)
  unfolding before plan_front plan_rows plan_answer gate_rows
  plan_wrong_exact clear = gates_wrong_exact a.p a.inputs a.circuit.gates (stated a) (plan_front a) clear

  pub plan_exact : Clear (before 10 (plan_rows a)) → BudgetExactFor a (plan_answer a)
  unfolding before plan_front plan_rows plan_answer gate_rows
  plan_exact clear =
      let (front, nine) = clear_append (plan_front a) (row_of 9 (wrong_gates a.inputs a.circuit.gates) ∷ []) clear in
      gates_budget_exact a.p a.inputs a.circuit.gates (stated a) (plan_front a)
      (length-take-le a.inputs a.bounds (omega (arith, (plan_passed a front).bounds_long)))
      clear

module _ (a : EvaluateLoans) where
  abbrev l : PlanLoans
  l = a.plan

  -- the rows in front of those of the gates
  abbrev front : List Row
  front = evaluate_front a ++ shared_rows l

  pub evaluate_wrong_exact : Clear (before 9 (evaluate_rows a)) → WrongExactFor l (evaluate_answer a)
  unfolding before evaluate_front evaluate_rows evaluate_answer gate_rows
  evaluate_wrong_exact clear = gates_wrong_exact l.p l.inputs l.circuit.gates (stated l) front clear

  pub evaluate_exact : Clear (before 10 (evaluate_rows a)) → BudgetExactFor l (evaluate_answer a)
  unfolding before evaluate_front evaluate_rows evaluate_answer gate_rows
  evaluate_exact clear =
      let (early, late) = clear_append (evaluate_front a) (shared_rows l ++ (row_of 9 (wrong_gates l.inputs l.circuit.gates) ∷ [])) clear in
      gates_budget_exact l.p l.inputs l.circuit.gates (stated l) front
      (length-take-le l.inputs l.bounds (omega (arith, (evaluate_passed a early).bounds_long)))
      clear

  -- where no row of its own applies, neither do planning's up to 3, and evaluation answers as planning does on the same loans, and leaves the same bounds
  agreed : Clear (evaluate_front a) → answer_of (plan_rows l) ≡ answer_of (evaluate_rows a)
  unfolding before plan_front plan_rows evaluate_rows
  agreed own =
      let passed = evaluate_passed a own in
      let late : List Row = shared_rows l ++ circuit_rows l in
      let three = or_neither passed.even (lengths_same (length l.bounds) (wire_count l) passed.bounds_long) in
      answer_rest (before 8 (plan_front l)) late ((passed.params, tt), ((passed.counts, tt), ((three, tt), tt))) ∙ sym (answer_rest (evaluate_front a) late own)

  pub plan_agrees : Clear (evaluate_front a) → (plan_answer l ≡ evaluate_answer a) × (plan_bounds l ≡ evaluate_bounds a)
  unfolding plan_answer plan_bounds evaluate_answer evaluate_bounds
  plan_agrees own =
      let k : first_of (plan_rows l) ≡ first_of (evaluate_rows a) = ap (λ (x : Answer). x.number) (agreed own) in
      (agreed own, rw k)
