-- What it tells that a test of a call does not apply, and that it does: the facts that a call works by once its number is 0.
use Rattle.std.specs.Prelude.{◌≡◌, refl, Bool, true, false, not, List, ℕ, ◌*◌, ◌≤◌, ◌<◌, leb, ltb, eqb, ℤ, pos, nat_abs, get_or}
use Rattle.std.proofs.Common.{sym, ap, ◌∙◌, ltb-true, lt-ltb, le-ltb, leb-true, eqb-true, eq-eqb, ltb-false}
use Rattle.std.proofs.lemmas.Bool.{not-false, not-true}
use Rattle.whole.specs.Tests.{and_left, and_right, eq_z, eq_z_true}
use Rattle.whole.specs.Lists.{every, Each, every_each}
use Rattle.whole.specs.Inner.{sizes}
use Rattle.refusal.specs.declared.Params.{Params}
use Rattle.refusal.specs.Parameters.{in_range, InRange, in_range_lem}
use Rattle.scheme.specs.Arithmetic.{is_residue, is_key, fits}
use Rattle.scheme.specs.Calls.{bad_params, differs, bad_key, bad_bit, outside, exceeds, over_budget}

pub params_in_range : (p : Params) → bad_params p ≡ false → InRange p
unfolding bad_params
params_in_range p e = in_range_lem p (not-false (in_range p) e)

-- the same by code that has the answer t of `in_range`: its test is the first row's, and where it is passed over the parameters are in range
pub params_tested : (p : Params) {t b : Bool} → t ≡ in_range p → not t ≡ b → bad_params p ≡ b
unfolding bad_params
params_tested p e f = ap not (sym e) ∙ f

pub answered_range : (p : Params) {t : Bool} → t ≡ in_range p → not t ≡ false → InRange p
answered_range p e f = params_in_range p (params_tested p e f)

pub length_is : (a b : ℕ) → differs a b ≡ false → a ≡ b
unfolding differs
length_is a b e = eqb-true a b (not-false (eqb a b) e)

pub key_begins : (L : ℕ) (s : List ℤ) → bad_key L s ≡ false → get_or s 0 (pos 0) ≡ pos 1
unfolding bad_key is_key
key_begins L s e = eq_z_true (get_or s 0 (pos 0)) (pos 1) (and_left (eq_z (get_or s 0 (pos 0)) (pos 1)) (leb (sizes s) L) (not-false _ e))

pub key_within : (L : ℕ) (s : List ℤ) → bad_key L s ≡ false → sizes s ≤ L
unfolding bad_key is_key
key_within L s e = leb-true (sizes s) L (and_right (eq_z (get_or s 0 (pos 0)) (pos 1)) (leb (sizes s) L) (not-false _ e))

pub bit_within : (b : ℕ) → bad_bit b ≡ false → b ≤ 1
unfolding bad_bit
bit_within b e = leb-true b 1 (not-false (leb b 1) e)

pub entries_inside : (m : ℕ) (xs : List ℤ) → outside m xs ≡ false → every (is_residue m) xs ≡ true
unfolding outside
entries_inside m xs e = not-false (every (is_residue m) xs) e

pub errors_within : (limit : ℕ) (es : List ℤ) → exceeds limit es ≡ false → Each (λ e. nat_abs e ≤ limit) es
unfolding exceeds
errors_within limit es e = every_each (λ x. leb (nat_abs x) limit) es (λ x t. leb-true (nat_abs x) limit t) (not-false _ e)

pub bound_fits : (q B : ℕ) → over_budget q B ≡ false → 4 * B < q
unfolding over_budget fits
bound_fits q B e = ltb-true (4 * B) q (not-false (ltb (4 * B) q) e)

pub bound_over : (q B : ℕ) → over_budget q B ≡ true → q ≤ 4 * B
unfolding over_budget fits
bound_over q B e = ltb-false (4 * B) q (not-true (ltb (4 * B) q) e)

-- ---- the tests as a function finds them

pub params_is : (p : Params) → bad_params p ≡ not (in_range p)
unfolding bad_params
params_is p = refl

pub differs_is : (a b : ℕ) → differs a b ≡ not (eqb a b)
unfolding differs
differs_is a b = refl

pub lengths_same : (a b : ℕ) → a ≡ b → differs a b ≡ false
unfolding differs
lengths_same a b e = ap not (eq-eqb a b e)

pub fits_below : (q B : ℕ) → fits q B ≡ true → 4 * B < q
unfolding fits
fits_below q B e = ltb-true (4 * B) q e

pub below_fits : (q B : ℕ) → 4 * B < q → fits q B ≡ true
unfolding fits
below_fits q B h = lt-ltb (4 * B) q h

pub above_fits : (q B : ℕ) → q ≤ 4 * B → fits q B ≡ false
unfolding fits
above_fits q B h = le-ltb (4 * B) q h

pub below_over : (q B : ℕ) → 4 * B < q → over_budget q B ≡ false
unfolding over_budget
below_over q B h = ap not (below_fits q B h)

pub above_over : (q B : ℕ) → q ≤ 4 * B → over_budget q B ≡ true
unfolding over_budget
above_over q B h = ap not (above_fits q B h)
