-- The gate records of three lists of one length are the lists' entries side by side, the tests for 9 and for 10 are one for each gate, and a
-- gate that is not wrong has its operands below its own wire.
use Rattle.std.specs.Prelude.{◌≡◌, refl, Bool, not, ◌||◌, List, [], ◌∷◌, ℕ, zero, suc, ◌+◌, ◌<◌, leb, ltb, eqb, length, get_or}
use Rattle.std.proofs.Common.{sym, ap, ◌∙◌, add-zero, le_of_suc-le-suc, not-suc-le-zero, arith, ltb-true, eqb-true}
use Rattle.std.proofs.Math.Bool.{false}
use Rattle.std.proofs.Math.Nat.{suc_inj}
use Rattle.std.proofs.lemmas.Bool.{not-false}
use Rattle.whole.specs.Tests.{or_left, or_right, or_neither}
use Rattle.refusal.specs.First.{some_true, none_at}
use Rattle.scheme.specs.Calls.{differs}
use Rattle.scheme.specs.Passed.{length_is, lengths_same}
use Rattle.circuit.specs.declared.Gate.{Gate}
use Rattle.circuit.specs.Circuits.{gate, by_kind, wrong_gate, wrong_gates, records, uneven_lists, as_records, as_lists}

-- ---- the records

pub length_records : (ks ls rs : List ℕ) → length ls ≡ length ks → length rs ≡ length ks → length (records ks ls rs) ≡ length ks
unfolding records
length_records [] ls rs e f = refl
length_records (k ∷ ks) [] rs e f = e
length_records (k ∷ ks) (l ∷ ls) [] e f = f
length_records (k ∷ ks) (l ∷ ls) (r ∷ rs) e f = ap suc (length_records ks ls rs (suc_inj e) (suc_inj f))

-- gate i has the kind, the left and the right at i
pub get_or_records : (ks ls rs : List ℕ) (i : ℕ) (z : Gate) → length ls ≡ length ks → length rs ≡ length ks → i < length ks
    → get_or (records ks ls rs) i z ≡ gate (get_or ks i 0) (get_or ls i 0) (get_or rs i 0)
unfolding records
get_or_records [] ls rs i z e f h = absurd (not-suc-le-zero h)
get_or_records (k ∷ ks) [] rs i z e f h = absurd (omega arith)
get_or_records (k ∷ ks) (l ∷ ls) [] i z e f h = absurd (omega arith)
get_or_records (k ∷ ks) (l ∷ ls) (r ∷ rs) zero z e f h = refl
get_or_records (k ∷ ks) (l ∷ ls) (r ∷ rs) (suc i) z e f h = get_or_records ks ls rs i z (suc_inj e) (suc_inj f) (le_of_suc-le-suc h)

-- the three lists have one length
abbrev pub Even : List ℕ → List ℕ → List ℕ → Type 0
Even ks ls rs = (length ls ≡ length ks) × (length rs ≡ length ks)

pub even_lengths : (ks ls rs : List ℕ) → uneven_lists ks ls rs ≡ false → Even ks ls rs
unfolding uneven_lists
even_lengths ks ls rs e =
    let lefts : Bool = differs (length ls) (length ks) in
    let rights : Bool = differs (length rs) (length ks) in
    (length_is (length ls) (length ks) (or_left lefts rights e), length_is (length rs) (length ks) (or_right lefts rights e))

-- **three lists of one length are their records**
pub lists_records : (ks ls rs : List ℕ) → Even ks ls rs → as_lists ks ls rs ≡ as_records (records ks ls rs)
unfolding uneven_lists
lists_records ks ls rs e =
    let even : uneven_lists ks ls rs ≡ false = or_neither (lengths_same _ _ e.0) (lengths_same _ _ e.1) in
    let many : length (records ks ls rs) ≡ length ks = length_records ks ls rs e.0 e.1 in
    rw (even, many)

-- ---- the tests for 9

pub length_wrong_gates : (own : ℕ) (gs : List Gate) → length (wrong_gates own gs) ≡ length gs
unfolding wrong_gates
length_wrong_gates own [] = refl
length_wrong_gates own (g ∷ gs) = ap suc (length_wrong_gates (suc own) gs)

-- gate i makes wire own+i
pub get_or_wrong_gates : (own : ℕ) (gs : List Gate) (i : ℕ) (z : Gate) → i < length gs → get_or (wrong_gates own gs) i false ≡ wrong_gate (own + i) (get_or gs i z)
unfolding wrong_gates
get_or_wrong_gates own [] i z h = absurd (not-suc-le-zero h)
get_or_wrong_gates own (g ∷ gs) zero z h = rw add-zero
get_or_wrong_gates own (g ∷ gs) (suc i) z h = get_or_wrong_gates (suc own) gs i z (le_of_suc-le-suc h) ∙ ap (λ (n : ℕ). wrong_gate n (get_or gs i z)) (omega arith)

-- the test of gate i of three lists of one length
pub get_or_wrong_records : (own : ℕ) (ks ls rs : List ℕ) (i : ℕ) → length ls ≡ length ks → length rs ≡ length ks → i < length ks
    → get_or (wrong_gates own (records ks ls rs)) i false ≡ wrong_gate (own + i) (gate (get_or ks i 0) (get_or ls i 0) (get_or rs i 0))
get_or_wrong_records own ks ls rs i e f h =
    get_or_wrong_gates own (records ks ls rs) i (gate 0 0 0) (rw length_records h) ∙ rw get_or_records

-- ---- a gate that is not wrong

pub record Below (own : ℕ) (g : Gate) : Type 0 where
  pub left_below : g.left < own
  pub right_below : g.right < own

pub gate_below : (own : ℕ) (g : Gate) → wrong_gate own g ≡ false → Below own g
unfolding wrong_gate by_kind
gate_below own g e = record { left_below = left; right_below = right g.kind (or_right (odd || high) last e) }
  where
    odd : Bool
    odd = not (leb g.kind 2)

    high : Bool
    high = not (ltb g.left own)

    last : Bool
    last = by_kind g.kind (not (ltb g.right own)) (not (ltb g.right own)) (not (eqb g.right 0))

    left : g.left < own
    left = ltb-true g.left own (not-false (ltb g.left own) (or_right odd high (or_left (odd || high) last e)))

    -- NOT has right 0, which is below since left is
    right : (k : ℕ) → by_kind k (not (ltb g.right own)) (not (ltb g.right own)) (not (eqb g.right 0)) ≡ false → g.right < own
    right zero f = ltb-true g.right own (not-false (ltb g.right own) f)
    right (suc zero) f = ltb-true g.right own (not-false (ltb g.right own) f)
    right (suc (suc k)) f = omega (arith, left, eqb-true g.right 0 (not-false (eqb g.right 0) f))

-- so have all gates of three lists of one length, where none is wrong
pub gates_below : (inputs own : ℕ) (ks ls rs : List ℕ) (i : ℕ) → own ≡ inputs + i → length ls ≡ length ks → length rs ≡ length ks → i < length ks
    → some_true (wrong_gates inputs (records ks ls rs)) ≡ false → Below own (gate (get_or ks i 0) (get_or ls i 0) (get_or rs i 0))
gates_below inputs own ks ls rs i wire e f h none =
    gate_below own (gate (get_or ks i 0) (get_or ls i 0) (get_or rs i 0))
    (rw wire (sym (get_or_wrong_records inputs ks ls rs i e f h) ∙ none_at (wrong_gates inputs (records ks ls rs)) i none))

-- ---- by kind

-- neither XOR nor AND
pub kind_neither : {A : Type 0} (k : ℕ) (x a n : A) → (k ≡ 0 → ⊥) → (k ≡ 1 → ⊥) → by_kind k x a n ≡ n
unfolding by_kind
kind_neither zero x a n h g = absurd (h refl)
kind_neither (suc zero) x a n h g = absurd (g refl)
kind_neither (suc (suc k)) x a n h g = refl
