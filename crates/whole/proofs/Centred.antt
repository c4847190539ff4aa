-- Laws about what `specs/Centred` defines that rest on a definition which a must-fail edit turns.
use Rattle.std.specs.Prelude.{◌≡◌, refl, Bool, true, false, ℕ, ◌*◌, ◌≤◌, ◌<◌, ltb, ℤ, pos, neg_ℤ, ◌+ℤ◌, ◌*ℤ◌, nat_abs, ◌≤ℤ◌, ◌<ℤ◌}
use Rattle.std.proofs.Common.{sym, ap, ◌∙◌, arith, le_of_eq, ltb-true, ltb-false}
use Rattle.std.proofs.Math.IntN.{+ℤ_assoc}
use Rattle.whole.specs.Laws.{*ℤ_distr}
use Rattle.whole.specs.Split.{zarith, add_is, mul_is, up_neg, dn_neg, size_is, apart}
use Rattle.whole.specs.Centred.{centred, Centred, centred_is, centred_unique, Congruent, congruent_same}

-- ---- there is one such number

-- a number that meets the description of [x]q is [x]q
pub centred_eq : {q : ℕ} {x r : ℤ} → 0 < q → Centred q x r → centred q x ≡ r
centred_eq {q} {x} h c = centred_unique (centred_is q x h) c

-- ---- numbers that differ by a multiple of q

-- x and [x]q
pub centred_congruent : (q : ℕ) (x : ℤ) → 0 < q → Congruent q x (centred q x)
centred_congruent q x h = let c : Centred q x (centred q x) = centred_is q x h in record { turns = c.turns; off = c.off }

-- ---- laws

turn_twice : (q : ℕ) (r t k : ℤ) → r +ℤ t *ℤ pos q +ℤ k *ℤ pos q ≡ r +ℤ (t +ℤ k) *ℤ pos q
turn_twice q r t k = +ℤ_assoc r (t *ℤ pos q) (k *ℤ pos q) ∙ ap (λ (m : ℤ). r +ℤ m) (sym (*ℤ_distr t k (pos q)))

-- [x + kq] = [x]
pub centred_turn : (q : ℕ) (x k : ℤ) → 0 < q → centred q (x +ℤ k *ℤ pos q) ≡ centred q x
centred_turn q x k h =
    let c : Centred q x (centred q x) = centred_is q x h in
    let t : ℤ = c.turns in
    centred_eq h
    (record {
      low = c.low;
      high = c.high;
      turns = t +ℤ k;
      off = ap (λ (y : ℤ). y +ℤ k *ℤ pos q) c.off ∙ turn_twice q (centred q x) t k;
    })

-- [x + [y]] = [x + y]: a summand may be reduced first
pub centred_add : (q : ℕ) (x y : ℤ) → 0 < q → centred q (x +ℤ centred q y) ≡ centred q (x +ℤ y)
centred_add q x y h =
    let c : Centred q y (centred q y) = centred_is q y h in
    let t : ℤ = c.turns in
    sym
    (ap (λ (z : ℤ). centred q (x +ℤ z)) c.off
    ∙ ap (centred q) (sym (+ℤ_assoc x (centred q y) (t *ℤ pos q)))
    ∙ centred_turn q (x +ℤ centred q y) t h)

-- [x] = x where 2|x| < q, and wherever x is in the range
pub centred_id : (q : ℕ) (x : ℤ) → 0 < q → neg_ℤ (pos q) ≤ℤ (pos 2 *ℤ x) → (pos 2 *ℤ x) <ℤ pos q → centred q x ≡ x
centred_id q x h lo hi = let s : Congruent q x x = congruent_same q x in centred_eq h (record { low = lo; high = hi; turns = s.turns; off = s.off })

pub centred_small : (q : ℕ) (x : ℤ) → 2 * nat_abs x < q → centred q x ≡ x
centred_small q x h =
    centred_id q x (omega arith) (omega (zarith, size_is x, mul_is (pos 2) x, up_neg (pos q), dn_neg (pos q))) (omega (zarith, size_is x, mul_is (pos 2) x))

-- [q/2] = −q/2
pub centred_middle : (q h : ℕ) → 0 < q → q ≡ 2 * h → centred q (pos h) ≡ neg_ℤ (pos h)
centred_middle q h p even =
    let r : ℤ = neg_ℤ (pos h) in
    let q' : ℤ = pos 1 *ℤ pos q in
    centred_eq p
    (record {
      low = omega (zarith, mul_is (pos 2) r, up_neg (pos h), dn_neg (pos h), up_neg (pos q), dn_neg (pos q));
      high = omega (zarith, mul_is (pos 2) r, up_neg (pos h), dn_neg (pos h));
      turns = pos 1;
      off = omega (zarith, add_is r q', up_neg (pos h), dn_neg (pos h));
    })

-- 2|[x]| is at most q
pub centred_half : (q : ℕ) (x : ℤ) → 0 < q → 2 * nat_abs (centred q x) ≤ q
centred_half q x h =
    let c : Centred q x (centred q x) = centred_is q x h in
    omega (zarith, c.low, c.high, size_is (centred q x), apart (centred q x), mul_is (pos 2) (centred q x), up_neg (pos q), dn_neg (pos q))

-- |[x]| is at most |x|
pub centred_le : (q : ℕ) (x : ℤ) → 0 < q → nat_abs (centred q x) ≤ nat_abs x
centred_le q x h = by_size (ltb (2 * nat_abs x) q) refl
  where
    by_size : (t : Bool) → ltb (2 * nat_abs x) q ≡ t → nat_abs (centred q x) ≤ nat_abs x
    by_size true e = le_of_eq (ap nat_abs (centred_small q x (ltb-true (2 * nat_abs x) q e)))
    by_size false e = omega (arith, centred_half q x h, ltb-false (2 * nat_abs x) q e)
