-- `checks::is_wrong` is `wrong_gate`: where the kind is known and the left lies below `own`, the rest is the test of the right by kind.
use Rattle.std.proofs.Common.{◌≡◌, refl, sym, ◌∙◌, Bool, true, false, not, ◌&&◌, ◌||◌, ℕ, zero, suc, ◌≤◌, ◌<◌, eqb, leb, ltb, arith}
use Rattle.std.proofs.Math.Bool.{or-true, or-false}
use Rattle.std.proofs.lemmas.Bool.{ltb-true, ltb-false, leb-true, leb-false, lt-leb, le-leb, lt-ltb, le-ltb, ne_eqb}
use Rattle.whole.specs.Tests.{not_ltb}
use Rattle.circuit.specs.Circuits.{gate, by_kind, wrong_gate}
use Rattle.checks.proofs.is_wrong.Goals as goal

-- the test of the right, of a known kind and where `own` is above 0
right_wrong : (own kind right : ℕ) → 0 < own → kind ≤ 2
    → (leb own right || (eqb kind 2 && not (eqb right 0))) ≡ by_kind kind (not (ltb right own)) (not (ltb right own)) (not (eqb right 0))
unfolding by_kind
right_wrong own zero right h k = or-false (leb own right) ∙ sym (not_ltb right own)
right_wrong own (suc zero) right h k = or-false (leb own right) ∙ sym (not_ltb right own)
right_wrong own (suc (suc zero)) zero h k = rw (lt-leb own 0 h)
right_wrong own (suc (suc zero)) (suc r) h k = rw (ne_eqb (suc r) 0 (λ e. omega arith)) (or-true (leb own (suc r)))
right_wrong own (suc (suc (suc j))) right h k = absurd (omega arith)

gate_wrong : (own kind left right : ℕ)
    → (((ltb 2 kind || leb own left) || leb own right) || (eqb kind 2 && not (eqb right 0))) ≡ wrong_gate own (gate kind left right)
unfolding wrong_gate
gate_wrong own kind left right = by_kind_lem (ltb 2 kind) refl
  where
    by_left : (t : Bool) → kind ≤ 2 → leb own left ≡ t
        → ((t || leb own right) || (eqb kind 2 && not (eqb right 0)))
        ≡ (not (ltb left own) || by_kind kind (not (ltb right own)) (not (ltb right own)) (not (eqb right 0)))
    by_left true k e = rw (le-ltb left own (leb-true own left e))
    by_left false k e =
        let l : left < own = leb-false own left e in
        rw (lt-ltb left own l) (right_wrong own kind right (omega arith) k)

    by_kind_lem : (t : Bool) → ltb 2 kind ≡ t
        → (((t || leb own left) || leb own right) || (eqb kind 2 && not (eqb right 0))) ≡ wrong_gate own (gate kind left right)
    by_kind_lem true e = rw (lt-leb kind 2 (ltb-true 2 kind e))
    by_kind_lem false e = let k : kind ≤ 2 = ltb-false 2 kind e in rw (le-leb kind 2 k) (by_left (leb own left) k refl)

pub returns : goal.returns
returns c = gate_wrong _ _ _ _
