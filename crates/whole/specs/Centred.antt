-- The centred residue: [x]q is the number in −q/2 to q/2−1 that differs from x by a multiple of q.
use Rattle.std.specs.Prelude.{◌≡◌, refl, Bool, true, false, cond, [], ◌∷◌, ℕ, ◌*◌, ◌<◌, ℤ, pos, neg_ℤ, ◌+ℤ◌, ◌-ℤ◌, ◌*ℤ◌, ◌≤ℤ◌, ◌<ℤ◌}
use Rattle.std.proofs.Common.{sym, ap, ap₂, ◌∙◌}
use Rattle.std.proofs.Math.IntN.{+ℤ_idr, zero-*ℤ}
use Rattle.std.specs.Int.Signed.{shr_z, lt_z}
use Rattle.whole.specs.Tests.{lt_z_true, lt_z_false}
use Rattle.whole.specs.Ring.{by_ring, quote}
use Rattle.whole.specs.Split.{zarith, add_is, sub_is, mul_is, up_neg, dn_neg}
use Rattle.whole.specs.Floor.{Floor, floor_is, floor_unique, next_multiple}

-- what is left of x after taking off whole multiples of q: a number in 0 to q−1
unfoldable pub rest : ℕ → ℤ → ℤ
rest q x = x -ℤ shr_z x q *ℤ pos q

-- [x]q: the rest where it lies below q/2, and otherwise the rest less q
unfoldable pub centred : ℕ → ℤ → ℤ
centred q x = cond (lt_z (pos 2 *ℤ rest q x) (pos q)) (rest q x) (rest q x -ℤ pos q)

-- r is in the range −q/2 to q/2−1, and x differs from it by a multiple of q
pub record Centred (q : ℕ) (x r : ℤ) : Type 0 where
  pub low : neg_ℤ (pos q) ≤ℤ (pos 2 *ℤ r)
  pub high : (pos 2 *ℤ r) <ℤ pos q
  pub turns : ℤ
  pub off : x ≡ r +ℤ turns *ℤ pos q

rest_range : (q : ℕ) (x : ℤ) → 0 < q → (pos 0 ≤ℤ rest q x) × (rest q x <ℤ pos q)
unfolding rest
rest_range q x h =
    let k : ℤ = shr_z x q in
    let f : Floor x q k = floor_is x q h in
    (omega (zarith, f.low, sub_is x (k *ℤ pos q)), omega (zarith, f.high, sub_is x (k *ℤ pos q), add_is (k *ℤ pos q) (pos q)))

rest_off : (q : ℕ) (x : ℤ) → x ≡ rest q x +ℤ shr_z x q *ℤ pos q
unfolding rest
rest_off q x =
    let m : ℤ = shr_z x q *ℤ pos q in
    omega (zarith, sub_is x m, add_is (x -ℤ m) m)

-- the two cases, by whether the rest r is below q/2
centred_cases : (q : ℕ) (x r k : ℤ) → pos 0 ≤ℤ r → r <ℤ pos q → x ≡ r +ℤ k *ℤ pos q → (t : Bool) → lt_z (pos 2 *ℤ r) (pos q) ≡ t → Centred q x (cond t r (r -ℤ pos q))
centred_cases q x r k lo hi e true c =
    record {
      low = omega (zarith, mul_is (pos 2) r, up_neg (pos q), dn_neg (pos q));
      high = lt_z_true (pos 2 *ℤ r) (pos q) c;
      turns = k;
      off = e;
    }
centred_cases q x r k lo hi e false c =
    let g : pos q ≤ℤ (pos 2 *ℤ r) = lt_z_false (pos 2 *ℤ r) (pos q) c in
    record {
      low = omega (zarith, mul_is (pos 2) r, sub_is r (pos q), mul_is (pos 2) (r -ℤ pos q), up_neg (pos q), dn_neg (pos q));
      high = omega (zarith, mul_is (pos 2) r, sub_is r (pos q), mul_is (pos 2) (r -ℤ pos q));
      turns = k +ℤ pos 1;
      off = e ∙ omega (zarith, sub_is r (pos q), next_multiple q k, add_is r (k *ℤ pos q), add_is (k *ℤ pos q) (pos q), add_is (r -ℤ pos q) ((k +ℤ pos 1) *ℤ pos q));
    }

pub centred_is : (q : ℕ) (x : ℤ) → 0 < q → Centred q x (centred q x)
unfolding centred
centred_is q x h =
    centred_cases q x (rest q x) (shr_z x q) (rest_range q x h).0 (rest_range q x h).1 (rest_off q x)
    (lt_z (pos 2 *ℤ rest q x) (pos q)) refl

-- ---- there is one such number

turns_floor : {q : ℕ} {x r : ℤ} (c : Centred q x r) → Floor (pos 2 *ℤ x +ℤ pos q) (2 * q) c.turns
turns_floor {q} {x} {r} c =
    let k : ℤ = c.turns in
    let e : x ≡ r +ℤ k *ℤ pos q = c.off in
    record {
      low = omega (zarith, c.low, mul_is (pos 2) r, mul_is (pos 2) x, mul_is k (pos q), mul_is k (pos (2 * q)), add_is r (k *ℤ pos q), add_is (pos 2 *ℤ x) (pos q), up_neg (pos q), dn_neg (pos q));
      high = omega (zarith, c.high, mul_is (pos 2) r, mul_is (pos 2) x, mul_is k (pos q), mul_is k (pos (2 * q)), add_is r (k *ℤ pos q), add_is (pos 2 *ℤ x) (pos q), add_is (k *ℤ pos (2 * q)) (pos (2 * q)));
    }

off_unique : (r r' m : ℤ) → r +ℤ m ≡ r' +ℤ m → r ≡ r'
off_unique r r' m e = omega (zarith, add_is r m, add_is r' m)

pub centred_unique : {q : ℕ} {x r r' : ℤ} → Centred q x r → Centred q x r' → r ≡ r'
centred_unique {q} {x} {r} {r'} c d =
    off_unique r r' (d.turns *ℤ pos q)
    (ap (λ (k : ℤ). r +ℤ k *ℤ pos q) (sym (floor_unique (turns_floor c) (turns_floor d))) ∙ sym c.off ∙ d.off)

-- ---- numbers that differ by a multiple of q

-- x is y and a multiple of q
pub record Congruent (q : ℕ) (x y : ℤ) : Type 0 where
  pub turns : ℤ
  pub off : x ≡ y +ℤ turns *ℤ pos q

-- a number and itself
pub congruent_same : (q : ℕ) (x : ℤ) → Congruent q x x
congruent_same q x = record { turns = pos 0; off = sym (ap (λ (m : ℤ). x +ℤ m) (zero-*ℤ (pos q)) ∙ +ℤ_idr x) }

-- two sums of a multiple and a number, where the parts are so
pub congruent_step : {q : ℕ} {y y' r r' : ℤ} (x : ℤ) → Congruent q y y' → Congruent q r r' → Congruent q (x *ℤ y +ℤ r) (x *ℤ y' +ℤ r')
congruent_step {q} {y} {y'} {r} {r'} x a b =
    record {
      turns = x *ℤ a.turns +ℤ b.turns;
      off = ap₂ (λ m n. x *ℤ m +ℤ n) a.off b.off ∙ step x y' r' a.turns b.turns (pos q);
    }
  where
    step : (x y r t u q : ℤ) → x *ℤ (y +ℤ t *ℤ q) +ℤ (r +ℤ u *ℤ q) ≡ x *ℤ y +ℤ r +ℤ (x *ℤ t +ℤ u) *ℤ q
    step x y r t u q = by_ring (x ∷ y ∷ r ∷ t ∷ u ∷ q ∷ []) (search quote depth 100 fits 100000) tt
