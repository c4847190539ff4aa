-- Fact T, the tensor of two ciphertexts: <s⊗s, tensor> = b1·b2·q/2 + e up to a multiple of q, and the whole number e is at most the first
-- floor of the AND bound. Any row s will do: only its sum of sizes matters. Of rounding only how near it stays is used.
use Rattle.std.specs.Prelude.{◌≡◌, List, map, ℕ, ◌+◌, ◌*◌, ◌/◌, ◌≤◌, ◌<◌, ℤ, pos, ◌+ℤ◌, ◌*ℤ◌, nat_abs}
use Rattle.std.proofs.Common.{sym, ap, mul-le-mul, mul-le-mul_left, le-div_iff_mul-le, arith}
use Rattle.whole.specs.Laws.{*ℤ_assoc}
use Rattle.whole.specs.Size.{size_add, size_mul}
use Rattle.whole.specs.Round.{round}
use Rattle.whole.specs.Centred.{centred}
use Rattle.whole.proofs.Centred.{centred_half}
use Rattle.whole.specs.Lists.{grid, map_grid, Each, each_map, each_always}
use Rattle.whole.specs.Inner.{inner}
use Rattle.scheme.specs.Arithmetic.{half, tensor_entry, tensor}
use Rattle.noise.specs.Noise.{Written}

-- the whole number 2k+b of <s,c> = k·q + b·q/2 + e: how many times q/2 stands in it
abbrev pub halves : {q : ℕ} {s c : List ℤ} {b : ℕ} → Written q s c b → ℤ
halves {b = b} w = pos 2 *ℤ w.k +ℤ pos b

-- ---- what the tensor rounds

-- all products 2·cu·dv
abbrev pub doubles : List ℤ → List ℤ → List ℤ
doubles c d = map (λ z. pos 2 *ℤ z) (grid ◌*ℤ◌ c d)

-- the tensor is these, divided by q, rounded and reduced
pub tensor_rounds : (q : ℕ) (c d : List ℤ) → tensor q c d ≡ map (λ z. centred q (round z q)) (doubles c d)
unfolding tensor tensor_entry
tensor_rounds q c d = simp (tensor, tensor_entry, map_grid, *ℤ_assoc)

-- so no entry of it is above q/2 in size
pub tensor_size : (q : ℕ) (c d : List ℤ) → 0 < q → Each (λ x. nat_abs x ≤ q / 2) (tensor q c d)
tensor_size q c d h =
    rw tensor_rounds (each_map (λ z. centred q (round z q)) (each_always (λ z. omega (arith, centred_half q (round z q) h)) (doubles c d)))

-- ---- the noise

-- <s⊗s, tensor> = turns·q + b1·b2·q/2 + e with q·e = q·(K1·e2 + K2·e1) + 2·e1·e2 + rounding, where K1 and K2 are the two 2k+b, and
-- twice what rounding leaves is at most q·L²
pub record TensorNoise (L : ℕ) {q : ℕ} {s c d : List ℤ} {b1 b2 : ℕ} (w1 : Written q s c b1) (w2 : Written q s d b2) : Type 0 where
  pub turns : ℤ
  pub e : ℤ
  pub rounding : ℤ
  pub sum : inner (grid ◌*ℤ◌ s s) (tensor q c d) ≡ turns *ℤ pos q +ℤ pos (b1 * b2) *ℤ half q +ℤ e
  pub parts : pos q *ℤ e ≡ pos q *ℤ (halves w1 *ℤ w2.e +ℤ halves w2 *ℤ w1.e) +ℤ pos 2 *ℤ w1.e *ℤ w2.e +ℤ rounding
  pub small : 2 * nat_abs rounding ≤ q * (L * L)

-- ---- its size

-- |K1·e2 + K2·e1| ≤ L·(B1 + B2)
cross_size : (L B1 B2 : ℕ) (K1 e1 K2 e2 : ℤ) → nat_abs e1 ≤ B1 → nat_abs e2 ≤ B2 → nat_abs K1 ≤ L → nat_abs K2 ≤ L
    → nat_abs (K1 *ℤ e2 +ℤ K2 *ℤ e1) ≤ L * (B1 + B2)
cross_size L B1 B2 K1 e1 K2 e2 small1 small2 near1 near2 =
    omega (arith, size_add (K1 *ℤ e2) (K2 *ℤ e1), size_mul K1 e2, size_mul K2 e1, mul-le-mul near1 small2, mul-le-mul near2 small1)

-- |2·e1·e2| ≤ 2·B1·B2
pair_size : (B1 B2 : ℕ) (e1 e2 : ℤ) → nat_abs e1 ≤ B1 → nat_abs e2 ≤ B2 → nat_abs (pos 2 *ℤ e1 *ℤ e2) ≤ 2 * (B1 * B2)
pair_size B1 B2 e1 e2 small1 small2 = simp size_mul (omega (arith, mul-le-mul small1 small2))

-- q·|e| is at most q·|x| + |y| + |r| where q·e = q·x + y + r
parts_size : (q : ℕ) (e x y r : ℤ) → pos q *ℤ e ≡ pos q *ℤ x +ℤ y +ℤ r → q * nat_abs e ≤ q * nat_abs x + nat_abs y + nat_abs r
parts_size q e x y r parts =
    omega (arith, sym (size_mul (pos q) e), ap nat_abs parts, size_add (pos q *ℤ x +ℤ y) r, size_add (pos q *ℤ x) y, size_mul (pos q) x)

-- so e is at most the first floor of the AND bound, where |e1| ≤ B1, |e2| ≤ B2 and neither 2k+b is above L in size
pub tensor_bound : {q L : ℕ} {s c d : List ℤ} {b1 b2 : ℕ} {w1 : Written q s c b1} {w2 : Written q s d b2} (t : TensorNoise L w1 w2) (B1 B2 : ℕ) → 0 < q
    → nat_abs w1.e ≤ B1 → nat_abs w2.e ≤ B2 → nat_abs (halves w1) ≤ L → nat_abs (halves w2) ≤ L
    → nat_abs t.e ≤ (2 * q * L * (B1 + B2) + 4 * B1 * B2 + q * (L * L)) / (2 * q)
tensor_bound {q} {L} {w1 = w1} {w2 = w2} t B1 B2 h small1 small2 near1 near2 =
    let x : ℤ = halves w1 *ℤ w2.e +ℤ halves w2 *ℤ w1.e in
    (le-div_iff_mul-le {k = 2 * q} (omega arith)).1
    (omega (
      arith,
      parts_size q t.e x (pos 2 *ℤ w1.e *ℤ w2.e) t.rounding t.parts,
      mul-le-mul_left q (cross_size L B1 B2 (halves w1) w1.e (halves w2) w2.e small1 small2 near1 near2),
      pair_size B1 B2 w1.e w2.e small1 small2,
      t.small,
    ))
