-- Tests, as Bool: what follows when a conjunction or a disjunction of two is true or false; the tests `lt_z`, `le_z` and `eq_z`
-- of whole numbers against the facts that they decide, both ways.
use Rattle.std.specs.Prelude.{◌≡◌, refl, Bool, true, false, not, ◌&&◌, ◌||◌, ℕ, T, eqb, leb, ltb, ℤ, pos, negsuc, ◌≤ℤ◌, ◌<ℤ◌}
use Rattle.std.proofs.Common.{sym, ap, ◌∙◌, subst, true≢false, lt→ltb, eqb-true, eq-eqb, leb-false, ltb-true, ltb-false, le-leb}
use Rattle.std.specs.Int.Signed.{lt_z, le_z, lt_z_yes, lt_z_no, le_z_yes}
use Rattle.std.proofs.lemmas.Bool.{lt-leb}

-- no test is both
pub clash {ℓ} : {X : Type ℓ} {t : Bool} → t ≡ true → t ≡ false → X
clash e f = absurd (true≢false (sym e ∙ f))

pub and_left : (a b : Bool) → (a && b) ≡ true → a ≡ true
and_left true b e = refl
and_left false b e = e

pub and_right : (a b : Bool) → (a && b) ≡ true → b ≡ true
and_right true b e = e
and_right false b e = clash e refl

pub and_both : {a b : Bool} → a ≡ true → b ≡ true → (a && b) ≡ true
and_both {a} {b} p q = cc

pub or_left : (a b : Bool) → (a || b) ≡ false → a ≡ false
or_left true b e = e
or_left false b e = refl

pub or_right : (a b : Bool) → (a || b) ≡ false → b ≡ false
or_right true b e = clash refl e
or_right false b e = e

pub or_neither : {a b : Bool} → a ≡ false → b ≡ false → (a || b) ≡ false
or_neither {a} {b} p q = cc

-- not below is at or above
pub not_ltb : (a b : ℕ) → not (ltb a b) ≡ leb b a
not_ltb a b = by_test (ltb a b) refl
  where
    by_test : (t : Bool) → ltb a b ≡ t → not t ≡ leb b a
    by_test true e = sym (lt-leb b a (ltb-true a b e))
    by_test false e = sym (le-leb b a (ltb-false a b e))

-- ---- whole numbers

unfoldable pub eq_z : ℤ → ℤ → Bool
eq_z (pos a) (pos b) = eqb a b
eq_z (pos a) (negsuc b) = false
eq_z (negsuc a) (pos b) = false
eq_z (negsuc a) (negsuc b) = eqb a b

pub eq_z_true : (x y : ℤ) → eq_z x y ≡ true → x ≡ y
unfolding eq_z
eq_z_true (pos a) (pos b) e = ap pos (eqb-true a b e)
eq_z_true (pos a) (negsuc b) e = clash e refl
eq_z_true (negsuc a) (pos b) e = clash e refl
eq_z_true (negsuc a) (negsuc b) e = ap negsuc (eqb-true a b e)

eq_z_self : (x : ℤ) → eq_z x x ≡ true
unfolding eq_z
eq_z_self (pos a) = eq-eqb a a refl
eq_z_self (negsuc a) = eq-eqb a a refl

pub eq_eq_z : (x y : ℤ) → x ≡ y → eq_z x y ≡ true
eq_eq_z x y e = subst (λ (z : ℤ). eq_z x z ≡ true) e (eq_z_self x)

of_true : (t : Bool) → T t → t ≡ true
of_true true h = refl
of_true false h = absurd h

pub lt_z_true : (x y : ℤ) → lt_z x y ≡ true → x <ℤ y
lt_z_true x y e = lt_z_yes (subst T (sym e) tt)

pub lt_z_false : (x y : ℤ) → lt_z x y ≡ false → y ≤ℤ x
lt_z_false x y e = lt_z_no (subst (λ (t : Bool). T (not t)) (sym e) tt)

pub le_z_true : (x y : ℤ) → le_z x y ≡ true → x ≤ℤ y
le_z_true x y e = le_z_yes (subst T (sym e) tt)

pub le_z_false : (x y : ℤ) → le_z x y ≡ false → y <ℤ x
le_z_false (pos a) (pos b) e = record { lt = lt→ltb b a (leb-false a b e) }
le_z_false (pos a) (negsuc b) e = record { lt = tt }
le_z_false (negsuc a) (pos b) e = clash refl e
le_z_false (negsuc a) (negsuc b) e = record { lt = lt→ltb a b (leb-false b a e) }

pub lt_lt_z : (x y : ℤ) → x <ℤ y → lt_z x y ≡ true
lt_lt_z x y h = of_true (lt_z x y) h.lt

pub le_le_z : (x y : ℤ) → x ≤ℤ y → le_z x y ≡ true
le_le_z x y h = of_true (le_z x y) h.le
