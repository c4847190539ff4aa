-- Laws about what `specs/Gates` defines that rest on a definition which a must-fail edit turns.
use Rattle.std.specs.Prelude.{◌≡◌, ℕ, zero, suc, ◌+◌, ◌*◌, ◌/◌, ◌%◌, ◌-◌, ◌≤◌, ◌<◌, ℤ, pos, ◌+ℤ◌, ◌*ℤ◌, nat_abs, length, get_or, drop}
use Rattle.std.proofs.Common.{sym, ap, ap₂, ◌∙◌, not-suc-le-zero, arith, lt-ltb, le-ltb}
use mathlib.Core.List.{List, [], ◌∷◌, zip_with}
use Rattle.whole.specs.Ring.{by_ring, from_eq, quote}
use Rattle.whole.specs.Split.{zarith, sub_is}
use Rattle.whole.specs.Size.{size_add}
use Rattle.whole.specs.Centred.{centred, Congruent}
use Rattle.whole.specs.Inner.{inner, inner_zip_add}
use Rattle.whole.proofs.Inner.{inner_centred}
use Rattle.scheme.specs.Arithmetic.{half, decrypt, noise, XOR, XOR_bound, NOT, NOT_bound}
use Rattle.scheme.specs.Wording.{XOR_sum}
use Rattle.noise.specs.Noise.{Written, written, noise_reduced, noise_parity}
use Rattle.noise.proofs.Noise.{noise_both}
use Rattle.noise.specs.Gates.{key_inner, key_reduced}

-- ---- XOR

-- its noise for b1 xor b2 is at most the sum of the two bounds
pub xor_noise : (q : ℕ) (s c d : List ℤ) (b1 b2 : ℕ) {B1 B2 : ℕ} → 0 < q → q ≡ 2 * (q / 2) → length c ≡ length d
    → noise q s c b1 ≤ B1 → noise q s d b2 ≤ B2 → noise q s (XOR q c d) ((b1 + b2) % 2) ≤ XOR_bound B1 B2
unfolding XOR_bound
xor_noise q s c d b1 b2 h even same n1 n2 =
    let v : Written q s c b1 = written q s c b1 h in
    let w : Written q s d b2 = written q s d b2 h in
    let reduced : Congruent q (inner s (zip_with ◌+ℤ◌ c d)) (inner s (XOR q c d)) = rw XOR_sum at (inner_centred q s (zip_with ◌+ℤ◌ c d) h) in
    omega (
      arith,
      noise_parity q s (XOR q c d) (b1 + b2) h even,
      noise_reduced q s (XOR q c d) (b1 + b2) (v.k +ℤ w.k) (v.e +ℤ w.e) h reduced (sum v w),
      size_add v.e w.e,
    )
  where
    sorted : (k l q a b h e f : ℤ) → (k *ℤ q +ℤ a *ℤ h +ℤ e) +ℤ (l *ℤ q +ℤ b *ℤ h +ℤ f) ≡ (k +ℤ l) *ℤ q +ℤ (a +ℤ b) *ℤ h +ℤ (e +ℤ f)
    sorted k l q a b h e f = by_ring (k ∷ l ∷ q ∷ a ∷ b ∷ h ∷ e ∷ f ∷ []) (search quote depth 100 fits 100000) tt

    sum : (v : Written q s c b1) (w : Written q s d b2) → inner s (zip_with ◌+ℤ◌ c d) ≡ (v.k +ℤ w.k) *ℤ pos q +ℤ pos (b1 + b2) *ℤ half q +ℤ (v.e +ℤ w.e)
    sum v w = inner_zip_add s c d same ∙ ap₂ ◌+ℤ◌ v.sum w.sum ∙ sorted v.k w.k (pos q) (pos b1) (pos b2) (half q) v.e w.e

-- ---- NOT

-- the noise of NOT for the other bit is at most the same bound
pub not_noise : (q : ℕ) (s c : List ℤ) (b : ℕ) {B : ℕ} → 0 < q → q ≡ 2 * (q / 2) → get_or s 0 (pos 0) ≡ pos 1 → 0 < length c → b ≤ 1
    → noise q s c b ≤ B → noise q s (NOT q c) (1 - b) ≤ NOT_bound B
unfolding NOT NOT_bound
not_noise q s [] b h even one some bit n = absurd (not-suc-le-zero some)
not_noise q s (x ∷ c) b h even one some bit n =
    let w : Written q s (x ∷ c) b = written q s (x ∷ c) b h in
    let out : List ℤ = centred q (x +ℤ half q) ∷ c in
    let other : (b + 1) % 2 ≡ 1 - b = omega arith in
    rw (← other, noise_parity q s out (b + 1) h even)
    (omega (arith, noise_reduced q s out (b + 1) w.k w.e h (key_reduced q s c (x +ℤ half q) h one) (sum w)))
  where
    sorted : (x i m b h e : ℤ) → x +ℤ i ≡ m +ℤ b *ℤ h +ℤ e → x +ℤ h +ℤ i ≡ m +ℤ (b +ℤ pos 1) *ℤ h +ℤ e
    sorted x i m b h e sum = from_eq (pos 1) sum (by_ring (x ∷ i ∷ m ∷ b ∷ h ∷ e ∷ []) (search quote depth 100 fits 100000) tt)

    sum : (w : Written q s (x ∷ c) b) → x +ℤ half q +ℤ inner (drop 1 s) c ≡ w.k *ℤ pos q +ℤ pos (b + 1) *ℤ half q +ℤ w.e
    sum w = sorted x (inner (drop 1 s) c) (w.k *ℤ pos q) (pos b) (half q) w.e (sym (key_inner s c x one) ∙ w.sum)

-- ---- decryption

-- |d| is the noise for the bit 0
noise_zero : (q : ℕ) (s c : List ℤ) → noise q s c 0 ≡ nat_abs (centred q (inner s c))
unfolding noise
noise_zero q s c = ap (λ z. nat_abs (centred q z)) (omega (zarith, sub_is (inner s c) (pos 0 *ℤ half q)))

-- decryption gives the bit back where four times the noise is below q
pub decrypt_right : (q : ℕ) (s c : List ℤ) (b : ℕ) → 0 < q → q ≡ 2 * (q / 2) → b ≤ 1 → 4 * noise q s c b < q → decrypt q s c ≡ b
unfolding decrypt
decrypt_right q s c zero h even bit quiet = rw (← noise_zero, le-ltb q (4 * noise q s c 0) (omega arith))
decrypt_right q s c (suc zero) h even bit quiet = rw (← noise_zero, lt-ltb q (4 * noise q s c 0) (omega (arith, noise_both q s c h even)))
decrypt_right q s c (suc (suc b)) h even bit quiet = absurd (omega arith)
