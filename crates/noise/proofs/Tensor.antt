-- Laws about what `specs/Tensor` defines that rest on a definition which a must-fail edit turns.
use Rattle.std.specs.Prelude.{◌≡◌, List, [], ◌∷◌, ℕ, ◌*◌, ◌/◌, ◌≤◌, ◌<◌, length, ℤ, pos, ◌+ℤ◌, ◌-ℤ◌, ◌*ℤ◌}
use Rattle.std.proofs.Common.{ap, ap₂, ◌∙◌, mul-le-mul, mul-le-mul_right, arith}
use Rattle.whole.specs.Ring.{by_ring, quote, from_eq}
use Rattle.whole.specs.Lists.{grid}
use Rattle.whole.specs.Inner.{inner, sizes, inner_scale, inner_grid, sizes_grid}
use Rattle.scheme.specs.Arithmetic.{half, tensor}
use Rattle.noise.specs.Noise.{Written}
use Rattle.noise.specs.Reduced.{Rounded, rounded}
use Rattle.noise.specs.Tensor.{halves, doubles, tensor_rounds, TensorNoise}

-- ---- what the tensor rounds

-- the inner product of s⊗s with the 2·cu·dv is 2·<s,c>·<s,d>
inner_doubles : (s c d : List ℤ) → length s ≡ length d → inner (grid ◌*ℤ◌ s s) (doubles c d) ≡ pos 2 *ℤ (inner s c *ℤ inner s d)
inner_doubles s c d same = inner_scale (pos 2) (grid ◌*ℤ◌ s s) (grid ◌*ℤ◌ c d) ∙ ap (λ z. pos 2 *ℤ z) (inner_grid s c s d same)

-- so q·<s⊗s, tensor> is that, but for what rounding leaves and a multiple of q²
inner_tensor : (q : ℕ) (s c d : List ℤ) → length s ≡ length d → (r : Rounded q (grid ◌*ℤ◌ s s) (doubles c d))
    → pos q *ℤ inner (grid ◌*ℤ◌ s s) (tensor q c d) ≡ pos 2 *ℤ (inner s c *ℤ inner s d) +ℤ r.off -ℤ pos q *ℤ (pos q *ℤ r.turns)
inner_tensor q s c d same r =
    ap (λ (t : List ℤ). pos q *ℤ inner (grid ◌*ℤ◌ s s) t) (tensor_rounds q c d)
    ∙ r.sum
    ∙ ap (λ z. z +ℤ r.off -ℤ pos q *ℤ (pos q *ℤ r.turns)) (inner_doubles s c d same)

-- ---- the product multiplied out

-- with q = 2h
multiplied : (q h k1 b1 e1 k2 b2 e2 : ℤ) → q ≡ pos 2 *ℤ h
    → pos 2 *ℤ ((k1 *ℤ q +ℤ b1 *ℤ h +ℤ e1) *ℤ (k2 *ℤ q +ℤ b2 *ℤ h +ℤ e2))
    ≡ q *ℤ ((pos 2 *ℤ k1 *ℤ k2 +ℤ k1 *ℤ b2 +ℤ k2 *ℤ b1) *ℤ q +ℤ b1 *ℤ b2 *ℤ h)
    +ℤ (q *ℤ ((pos 2 *ℤ k1 +ℤ b1) *ℤ e2 +ℤ (pos 2 *ℤ k2 +ℤ b2) *ℤ e1) +ℤ pos 2 *ℤ e1 *ℤ e2)
multiplied q h k1 b1 e1 k2 b2 e2 even = rw even (by_ring (h ∷ k1 ∷ b1 ∷ e1 ∷ k2 ∷ b2 ∷ e2 ∷ []) (search quote depth 100 fits 100000) tt)

-- of two ciphertexts: 2·<s,c>·<s,d> = q·((2·k1·k2 + k1·b2 + k2·b1)·q + b1·b2·q/2) + q·(K1·e2 + K2·e1) + 2·e1·e2
product : {q : ℕ} {s c d : List ℤ} {b1 b2 : ℕ} (w1 : Written q s c b1) (w2 : Written q s d b2) → q ≡ 2 * (q / 2)
    → pos 2 *ℤ (inner s c *ℤ inner s d)
    ≡ pos q *ℤ ((pos 2 *ℤ w1.k *ℤ w2.k +ℤ w1.k *ℤ pos b2 +ℤ w2.k *ℤ pos b1) *ℤ pos q +ℤ pos (b1 * b2) *ℤ half q)
    +ℤ (pos q *ℤ (halves w1 *ℤ w2.e +ℤ halves w2 *ℤ w1.e) +ℤ pos 2 *ℤ w1.e *ℤ w2.e)
product {q} {b1 = b1} {b2 = b2} w1 w2 even =
    ap₂ (λ x y. pos 2 *ℤ (x *ℤ y)) w1.sum w2.sum
    ∙ multiplied (pos q) (half q) w1.k (pos b1) w1.e w2.k (pos b2) w2.e (ap pos even)

-- ---- the noise

-- so it is where the sizes of s sum to at most L and d is as long as s, for every even q
pub tensor_noise : (q L : ℕ) (s c d : List ℤ) (b1 b2 : ℕ) → 0 < q → q ≡ 2 * (q / 2) → length s ≡ length d → sizes s ≤ L
    → (w1 : Written q s c b1) (w2 : Written q s d b2) → TensorNoise L w1 w2
tensor_noise q L s c d b1 b2 h even same key w1 w2 =
    let t : ℤ = inner (grid ◌*ℤ◌ s s) (tensor q c d) in
    let k : ℤ = pos 2 *ℤ w1.k *ℤ w2.k +ℤ w1.k *ℤ pos b2 +ℤ w2.k *ℤ pos b1 in
    let bits : ℤ = pos (b1 * b2) *ℤ half q in
    let cross : ℤ = pos q *ℤ (halves w1 *ℤ w2.e +ℤ halves w2 *ℤ w1.e) +ℤ pos 2 *ℤ w1.e *ℤ w2.e in
    let r : Rounded q (grid ◌*ℤ◌ s s) (doubles c d) = rounded q h (grid ◌*ℤ◌ s s) (doubles c d) in
    let m : ℤ = r.turns in
    record {
      turns = k -ℤ m;
      e = t -ℤ (k -ℤ m) *ℤ pos q -ℤ bits;
      rounding = r.off;
      sum = by_ring (t ∷ k ∷ m ∷ pos q ∷ bits ∷ []) (search quote depth 100 fits 100000) tt;
      parts = from_eq (pos 1)
          (inner_tensor q s c d same r ∙ ap (λ z. z +ℤ r.off -ℤ pos q *ℤ (pos q *ℤ m)) (product w1 w2 even))
          (by_ring (t ∷ k ∷ m ∷ pos q ∷ bits ∷ r.off ∷ cross ∷ []) (search quote depth 100 fits 100000) tt);
      small = omega (arith, rw sizes_grid at r.small, mul-le-mul_right q (mul-le-mul key key));
    }
