-- The true noise of a ciphertext: <s,c> written as k·q + b·q/2 + e, what bounds the noise, and the size of 2k+b.
-- Everything here holds for any key row s; only its sum of sizes matters.
use Rattle.std.specs.Prelude.{◌≡◌, refl, List, [], ◌∷◌, ℕ, suc, ◌+◌, ◌*◌, ◌/◌, ◌%◌, ◌≤◌, ◌<◌, ℤ, pos, neg_ℤ, ◌+ℤ◌, ◌-ℤ◌, ◌*ℤ◌, nat_abs}
use Rattle.std.proofs.Common.{sym, ap, ◌∙◌, div-add-mod', mul-le-mul_right, lt_of_mul-lt-mul_right, le_of_suc-le-suc, arith}
use Rattle.whole.specs.Ring.{by_ring, from_eq, quote}
use Rattle.whole.specs.Split.{zarith, add_is, sub_is}
use Rattle.whole.specs.Size.{size_sub, size_mul}
use Rattle.whole.specs.Centred.{Centred, Congruent, congruent_same, centred, centred_is}
use Rattle.whole.proofs.Centred.{centred_turn, centred_le}
use Rattle.whole.specs.Lists.{Each}
use Rattle.whole.specs.Inner.{inner, sizes, inner_size}
use Rattle.scheme.specs.Arithmetic.{half, noise}

-- <s,c> written as k·q + b·q/2 + e, with |e| the true noise for b
pub record Written (q : ℕ) (s c : List ℤ) (b : ℕ) : Type 0 where
  pub k : ℤ
  pub e : ℤ
  pub sum : inner s c ≡ k *ℤ pos q +ℤ pos b *ℤ half q +ℤ e
  pub size : nat_abs e ≡ noise q s c b

-- every ciphertext can be written so, for any b
pub written : (q : ℕ) (s c : List ℤ) (b : ℕ) → 0 < q → Written q s c b
unfolding noise
written q s c b h =
    let x : ℤ = inner s c -ℤ pos b *ℤ half q in
    let r : Centred q x (centred q x) = centred_is q x h in
    record { k = r.turns; e = centred q x; sum = sorted (inner s c) (pos b *ℤ half q) (r.turns *ℤ pos q) (centred q x) r.off; size = refl }
  where
    sorted : (x b m e : ℤ) → x -ℤ b ≡ e +ℤ m → x ≡ m +ℤ b +ℤ e
    sorted x b m e h = from_eq (pos 1) h (by_ring (x ∷ b ∷ m ∷ e ∷ []) (search quote depth 100 fits 100000) tt)

-- a ciphertext whose <s,c> is z but for a multiple of q: whatever z leaves beside a multiple of q and b·q/2 bounds its noise for b
pub noise_reduced : (q : ℕ) (s c : List ℤ) (b : ℕ) (k e : ℤ) {z : ℤ} → 0 < q → Congruent q z (inner s c) → z ≡ k *ℤ pos q +ℤ pos b *ℤ half q +ℤ e
    → noise q s c b ≤ nat_abs e
unfolding noise
noise_reduced q s c b k e h r sum =
    rw (sorted (inner s c) (pos b *ℤ half q) k r.turns (pos q) e (sym r.off ∙ sum), centred_turn q e (k -ℤ r.turns) h) (centred_le q e h)
  where
    sorted : (x b k t q e : ℤ) → x +ℤ t *ℤ q ≡ k *ℤ q +ℤ b +ℤ e → x -ℤ b ≡ e +ℤ (k -ℤ t) *ℤ q
    sorted x b k t q e h = from_eq (pos 1) h (by_ring (x ∷ b ∷ k ∷ t ∷ q ∷ e ∷ []) (search quote depth 100 fits 100000) tt)

-- so whatever <s,c> itself leaves does
pub noise_le : (q : ℕ) (s c : List ℤ) (b : ℕ) (k e : ℤ) → 0 < q → inner s c ≡ k *ℤ pos q +ℤ pos b *ℤ half q +ℤ e → noise q s c b ≤ nat_abs e
noise_le q s c b k e h sum = noise_reduced q s c b k e h (congruent_same q (inner s c)) sum

-- the noise for a number b is the noise for its parity: twice q/2 is q
pub noise_parity : (q : ℕ) (s c : List ℤ) (b : ℕ) → 0 < q → q ≡ 2 * (q / 2) → noise q s c (b % 2) ≡ noise q s c b
unfolding noise
noise_parity q s c b h even =
    let x : ℤ = inner s c in
    let y : ℤ = x -ℤ pos b *ℤ half q in
    let turn : ℤ = pos (b / 2) *ℤ pos q in
    ap (λ z. nat_abs (centred q z)) (omega (zarith, parts (q / 2) even, sub_is x (pos b *ℤ half q), sub_is x (pos (b % 2) *ℤ half q), add_is y turn))
    ∙ ap nat_abs (centred_turn q y (pos (b / 2)) h)
  where
    parts : (m : ℕ) → q ≡ 2 * m → b * m ≡ b % 2 * m + b / 2 * q
    parts m e = omega (arith, ap (λ n. n * m) (div-add-mod' b 2), ap (λ n. b / 2 * n) e)

-- where the true noise is under q/4, 2k+b is at most L in size
pub size_fact : (q L : ℕ) (s c : List ℤ) (b : ℕ) → 0 < q → q ≡ 2 * (q / 2) → sizes s ≤ L → Each (λ x. nat_abs x ≤ q / 2) c → 4 * noise q s c b < q
    → (w : Written q s c b) → nat_abs (pos 2 *ℤ w.k +ℤ pos b) ≤ L
size_fact q L s c b h even key range quiet w =
    let m : ℕ = q / 2 in
    let K : ℤ = pos 2 *ℤ w.k +ℤ pos b in
    let whole : K *ℤ half q ≡ inner s c -ℤ w.e = halves w.k (pos b) (half q) (pos q) w.e (inner s c) (ap pos even) w.sum in
    let wide : nat_abs K * m ≤ nat_abs (inner s c) + nat_abs w.e = omega (arith, size_mul K (half q), ap nat_abs whole, size_sub (inner s c) w.e) in
    let most : sizes s * m ≤ L * m = mul-le-mul_right m key in
    let below : nat_abs K * m < suc L * m = omega (arith, inner_size s range) in
    le_of_suc-le-suc (lt_of_mul-lt-mul_right m below)
  where
    halves : (k b h q e x : ℤ) → q ≡ pos 2 *ℤ h → x ≡ k *ℤ q +ℤ b *ℤ h +ℤ e → (pos 2 *ℤ k +ℤ b) *ℤ h ≡ x -ℤ e
    halves k b h q e x even sum =
        from_eq (neg_ℤ (pos 1)) (sum ∙ ap (λ n. k *ℤ n +ℤ b *ℤ h +ℤ e) even) (by_ring (k ∷ b ∷ h ∷ e ∷ x ∷ []) (search quote depth 100 fits 100000) tt)
