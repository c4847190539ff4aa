-- The invariant of `settle` and its laws. The gates are settled one after the other: the wires up to that of gate g have their bounds, each of
-- them fits, and so the first gate over the budget is not before g.
use Rattle.std.proofs.Common.{◌≡◌, refl, sym, ap, ◌∙◌, Bool, true, false, List, [], ◌∷◌, ◌++◌, ℕ, suc, ◌+◌, ◌*◌, ◌≤◌, ◌<◌, add-zero, arith, length, get_or, take, set, length-set, length-take-le, take-suc, take-suc-set, take_all, get_or-take, get_or-set_same}
use Rattle.std.proofs.lemmas.List.{take-set-le}
use Rattle.whole.specs.Tests.{and_both}
use Rattle.whole.specs.Lists.{every, every_suc, every_get_or}
use Rattle.refusal.specs.First.{first_true, first_past, first_here, first_within}
use Rattle.scheme.specs.Arithmetic.{fits, XOR_bound, AND_bound, NOT_bound}
use Rattle.scheme.specs.Calls.{over_budget}
use Rattle.scheme.specs.Passed.{fits_below, below_fits, below_over, above_over}
use Rattle.circuit.specs.declared.Gate.{Gate}
use Rattle.circuit.specs.Circuits.{by_kind, gate_bound, bounds_of, over_gates}
use Rattle.circuit.specs.Plan.{PlanLoans, stated}
use Rattle.circuit.proofs.Run.{run_inputs, run_gate}
use Rattle.circuit.specs.Records.{Below}
use Rattle.circuit.proofs.Records.{length_bounds_of, length_over_gates, get_or_over_gates}

-- the bounds of all wires, and for each gate whether it is over the budget
abbrev pub bounds_all : PlanLoans → List ℕ
bounds_all a = bounds_of a.p a.circuit.gates (stated a)

abbrev pub over_all : PlanLoans → List Bool
over_all a = over_gates a.p a.circuit.gates (stated a)

-- the bounds that are lent are the table at entry, and `table` is what it has come to at gate g
pub record Settled (a : PlanLoans) (table : List ℕ) (g : ℕ) : Type 0 where
  pub within : g ≤ length a.circuit.gates
  pub kept : length table ≡ length a.bounds
  pub so_far : take (a.inputs + g) table ≡ take (a.inputs + g) (bounds_all a)
  pub fit : every (fits a.p.q) (take (a.inputs + g) table) ≡ true
  pub passed : g ≤ first_true (over_all a)

module _ (a : PlanLoans) (room : length a.bounds ≡ a.inputs + length a.circuit.gates) where
  abbrev gates : List Gate
  gates = a.circuit.gates

  inputs_long : length (stated a) ≡ a.inputs
  inputs_long = length-take-le a.inputs a.bounds (omega arith)

  bounds_long : length (bounds_all a) ≡ a.inputs + length gates
  bounds_long = length_bounds_of a.p gates (stated a) ∙ ap (λ (n : ℕ). n + length gates) inputs_long

  pub settled_start : every (fits a.p.q) (stated a) ≡ true → Settled a a.bounds 0
  unfolding bounds_of
  settled_start h =
      record {
        within = omega arith;
        kept = refl;
        so_far = rw add-zero (sym (rw inputs_long at (run_inputs (gate_bound a.p) gates (stated a))));
        fit = rw add-zero h;
        passed = omega arith;
      }

  module _ {table : List ℕ} {g : ℕ} (s : Settled a table g) where
    -- the wire that gate g makes
    abbrev own : ℕ
    own = a.inputs + g

    -- the test of gate g is that of the bound of the wire that it makes
    over_next : g < length gates → get_or (over_all a) g false ≡ over_budget a.p.q (get_or (bounds_all a) own 0)
    over_next h =
        get_or_over_gates a.p gates (stated a) g h ∙ ap (λ (n : ℕ). over_budget a.p.q (get_or (bounds_all a) n 0)) (omega (arith, inputs_long))

    -- the operands of a gate that is not wrong have bounds that fit
    pub settled_fits : (i : ℕ) → i < own → 4 * get_or table i 0 < a.p.q
    settled_fits i h =
        let here : get_or (take own table) i 0 ≡ get_or table i 0 = get_or-take own table i 0 h in
        let long : length (take own table) ≡ own = length-take-le own table (omega (arith, s.within, s.kept)) in
        fits_below a.p.q (get_or table i 0) (ap (fits a.p.q) (sym here) ∙ every_get_or (fits a.p.q) (take own table) i 0 s.fit (omega arith))

    -- the bound of the wire that gate g makes, from the table
    wire_bound : (d : Gate) → g < length gates → get_or (bounds_all a) own 0 ≡ gate_bound a.p (get_or gates g d) (take own table)
    unfolding bounds_of
    wire_bound d h =
        let place : length (stated a) + g ≡ own = omega (arith, inputs_long) in
        rw place at (run_gate (gate_bound a.p) gates (stated a) g d 0 h) ∙ ap (gate_bound a.p (get_or gates g d)) (sym s.so_far)

    pub settled_bound : (d G : Gate) → get_or a.circuit.gates g d ≡ G → g < length a.circuit.gates → Below own G
        → get_or (bounds_all a) own 0
        ≡ (let B1 = get_or table G.left 0 in
        let B2 = get_or table G.right 0 in
        by_kind G.kind (XOR_bound B1 B2) (AND_bound a.p.n a.p.q a.p.l a.p.f B1 B2) (NOT_bound B1))
    unfolding gate_bound
    settled_bound d G e h b =
        wire_bound d h
        ∙ ap (λ (x : Gate). gate_bound a.p x (take own table)) e
        ∙ simp (get_or-take own table G.left 0 b.left_below, get_or-take own table G.right 0 b.right_below)

    -- gate g is over the budget
    pub settled_over : g < length a.circuit.gates → a.p.q ≤ 4 * get_or (bounds_all a) own 0 → g ≡ first_true (over_all a)
    settled_over h o = first_here _ g s.passed (over_next h ∙ above_over _ _ o)

    -- or it fits, and its bound is stored
    pub settled_step : (x : ℕ) → g < length a.circuit.gates → x ≡ get_or (bounds_all a) own 0 → 4 * x < a.p.q → Settled a (set table own x) (g + 1)
    settled_step x h e f =
        let inside : own < length table = omega (arith, s.kept) in
        let inside_bounds : own < length (bounds_all a) = omega (arith, bounds_long) in
        let inside_set : own < length (set table own x) = rw length-set inside in
        let next : a.inputs + (g + 1) ≡ suc own = omega arith in
        let more : take (suc own) (set table own x) ≡ take own table ++ (x ∷ []) = take-suc-set table own x inside in
        record {
          within = omega arith;
          kept = rw length-set s.kept;
          so_far = rw (next, more, s.so_far, e) (sym (take-suc _ own 0 inside_bounds));
          fit = rw (next, every_suc (fits a.p.q) (set table own x) own 0, take-set-le own table own x (omega arith), get_or-set_same) (and_both s.fit (below_fits a.p.q x f));
          passed = omega (arith, first_past _ g s.passed (rw length_over_gates h) (over_next h ∙ rw (← e) (below_over _ _ f)));
        }

    -- past the last gate the table is that of the bounds, and no gate is over the budget
    pub settled_end : length a.circuit.gates ≤ g → (g ≡ first_true (over_all a)) × (table ≡ bounds_all a)
    settled_end h = (
      omega (arith, s.within, s.passed, first_within (over_all a), length_over_gates a.p gates (stated a)),
      sym (take_all own table (omega (arith, s.kept))) ∙ s.so_far ∙ take_all own _ (omega (arith, bounds_long)),
    )
