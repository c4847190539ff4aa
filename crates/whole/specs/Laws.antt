-- The ring laws of ℤ that `lib.IntN` leaves out: signs and distributivity of the product, its associativity, cancellation. An identity of several steps is `Ring`'s.
-- Assumes nothing.
use Rattle.std.specs.Prelude.{◌≡◌, ◌≢◌, ℕ, zero, suc, ◌*◌, ℤ, pos, negsuc, neg_ℤ, ◌+ℤ◌, ◌-ℤ◌, ◌*ℤ◌}
use Rattle.std.proofs.Common.{sym, ap, ◌∙◌, arith}
use Rattle.std.proofs.Math.IntN.{suc_ℤ, pred_ℤ, +ℤ_idl, +ℤ_assoc, +ℤ_comm, +ℤ_invr, suc_ℤ-+ℤ, pred_ℤ-+ℤ, +ℤ-neg_ℤ_cancel, -ℤ-+ℤ_cancel, neg_ℤ-neg_ℤ, zero-*ℤ, *ℤ-zero, *ℤ-negsuc, *ℤ_comm, suc_ℤ-*ℤ, pred_ℤ-*ℤ}

-- induction over ℤ, by a step up and a step down from any integer
induct : (P : ℤ → Type 0) → P (pos 0) → ((x : ℤ) → P x → P (suc_ℤ x)) → ((x : ℤ) → P x → P (pred_ℤ x)) → (x : ℤ) → P x
induct P base up down (pos zero) = base
induct P base up down (pos (suc n)) = up (pos n) (induct P base up down (pos n))
induct P base up down (negsuc zero) = down (pos 0) base
induct P base up down (negsuc (suc n)) = down (negsuc n) (induct P base up down (negsuc n))

-- ---- Sums

pub +ℤ_left_comm : (x y z : ℤ) → x +ℤ (y +ℤ z) ≡ y +ℤ (x +ℤ z)
+ℤ_left_comm x y z = sym (+ℤ_assoc x y z) ∙ ap (λ s. s +ℤ z) (+ℤ_comm x y) ∙ +ℤ_assoc y x z

-- sorts the summands of a sum and brackets it to the right, for `simp`
pub ruleset sum_sort = (+ℤ_assoc, +ℤ_comm, +ℤ_left_comm)

pub +ℤ_cancelr : (z : ℤ) {x y : ℤ} → x +ℤ z ≡ y +ℤ z → x ≡ y
+ℤ_cancelr z {x} {y} h = sym (+ℤ-neg_ℤ_cancel x z) ∙ ap (λ s. s -ℤ z) h ∙ +ℤ-neg_ℤ_cancel y z

-- an equation as a difference that is 0, both ways
pub sub_zero→eq : {x y : ℤ} → x -ℤ y ≡ pos 0 → x ≡ y
sub_zero→eq {x} {y} h = sym (-ℤ-+ℤ_cancel x y) ∙ ap (λ z. z +ℤ y) h ∙ +ℤ_idl y

pub eq→sub_zero : {x y : ℤ} → x ≡ y → x -ℤ y ≡ pos 0
eq→sub_zero {y = y} h = rw h (+ℤ_invr y)

-- ---- Products

pub one-*ℤ : (x : ℤ) → pos 1 *ℤ x ≡ x
one-*ℤ x = suc_ℤ-*ℤ (pos 0) x ∙ simp (zero-*ℤ, +ℤ_idl)

-- a sign moves out of either factor
pub *ℤ-neg_ℤ : (x y : ℤ) → x *ℤ neg_ℤ y ≡ neg_ℤ (x *ℤ y)
*ℤ-neg_ℤ x (pos zero) = rw *ℤ-zero
*ℤ-neg_ℤ x (pos (suc n)) = *ℤ-negsuc x n
*ℤ-neg_ℤ x (negsuc n) = rw (*ℤ-negsuc, neg_ℤ-neg_ℤ)

pub neg_ℤ-*ℤ : (x y : ℤ) → neg_ℤ x *ℤ y ≡ neg_ℤ (x *ℤ y)
neg_ℤ-*ℤ x y = *ℤ_comm (neg_ℤ x) y ∙ *ℤ-neg_ℤ y x ∙ ap neg_ℤ (*ℤ_comm y x)

pub *ℤ_distr : (x y z : ℤ) → (x +ℤ y) *ℤ z ≡ x *ℤ z +ℤ y *ℤ z
*ℤ_distr x y z =
    induct (λ x. (x +ℤ y) *ℤ z ≡ x *ℤ z +ℤ y *ℤ z)
    (simp (+ℤ_idl, zero-*ℤ))
    (λ x h. simp (suc_ℤ-+ℤ, suc_ℤ-*ℤ, h) (simp sum_sort))
    (λ x h. simp (pred_ℤ-+ℤ, pred_ℤ-*ℤ, h) (simp sum_sort))
    x

pub *ℤ_distl : (x y z : ℤ) → x *ℤ (y +ℤ z) ≡ x *ℤ y +ℤ x *ℤ z
*ℤ_distl x y z = *ℤ_comm x (y +ℤ z) ∙ *ℤ_distr y z x ∙ simp *ℤ_comm

pub *ℤ_assoc : (x y z : ℤ) → (x *ℤ y) *ℤ z ≡ x *ℤ (y *ℤ z)
*ℤ_assoc x y z =
    induct (λ x. (x *ℤ y) *ℤ z ≡ x *ℤ (y *ℤ z))
    (simp zero-*ℤ)
    (λ x h. simp (suc_ℤ-*ℤ, *ℤ_distr, h))
    (λ x h. simp (pred_ℤ-*ℤ, *ℤ_distr, neg_ℤ-*ℤ, h))
    x

pub *ℤ_left_comm : (x y z : ℤ) → x *ℤ (y *ℤ z) ≡ y *ℤ (x *ℤ z)
*ℤ_left_comm x y z = sym (*ℤ_assoc x y z) ∙ ap (λ s. s *ℤ z) (*ℤ_comm x y) ∙ *ℤ_assoc y x z

-- a negation is 0 only of 0
neg_zero : (n : ℕ) → neg_ℤ (pos n) ≡ pos 0 → n ≡ 0
neg_zero zero h = cc
neg_zero (suc n) h = cc

-- a product is 0 only if a factor is
pub *ℤ_factor : (k x : ℤ) → k ≢ pos 0 → k *ℤ x ≡ pos 0 → x ≡ pos 0
*ℤ_factor (pos zero) x ne h = absurd (ne (cc))
*ℤ_factor (pos (suc m)) (pos n) ne h = let e : suc m * n ≡ 0 = cc in ap pos (omega arith)
*ℤ_factor (pos (suc m)) (negsuc n) ne h = let e : suc m * suc n ≡ 0 = neg_zero (suc m * suc n) h in absurd (omega arith)
*ℤ_factor (negsuc m) (pos n) ne h = let e : suc m * n ≡ 0 = neg_zero (suc m * n) h in ap pos (omega arith)
*ℤ_factor (negsuc m) (negsuc n) ne h = let e : suc m * suc n ≡ 0 = cc in absurd (omega arith)

pub *ℤ_cancell : (k : ℤ) {x y : ℤ} → k ≢ pos 0 → k *ℤ x ≡ k *ℤ y → x ≡ y
*ℤ_cancell k {x} {y} ne h = sub_zero→eq (*ℤ_factor k (x -ℤ y) ne (*ℤ_distl k x (neg_ℤ y) ∙ rw *ℤ-neg_ℤ (eq→sub_zero h)))
