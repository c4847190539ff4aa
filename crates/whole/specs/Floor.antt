-- Division rounded down, by a natural: the library's `shr_z x b`. It is the one k with k·b ≤ x < (k+1)·b.
use Rattle.std.specs.Prelude.{◌≡◌, ℕ, zero, suc, ◌+◌, ◌*◌, ◌/◌, ◌%◌, ◌≤◌, ◌<◌, ℤ, pos, negsuc, ◌+ℤ◌, ◌*ℤ◌, ◌≤ℤ◌, ◌<ℤ◌}
use Rattle.std.proofs.Common.{ap, ◌∙◌, arith, div-mul-le_self, le-div_iff_mul-le, zero-lt-suc, div-add-mod', mod-lt, add-mul, lt_of_mul-lt-mul_right, mul-le-mul_right, suc-mul}
use Rattle.std.proofs.Math.Nat.{div-zero}
use Rattle.std.proofs.Math.IntN.{+ℤ_one, suc_ℤ-*ℤ}
use Rattle.std.specs.Int.Signed.{shr_z}
use Rattle.whole.specs.Split.{up, dn, zarith, add_is, mul_is, le_in, lt_in, le_out, lt_out}

-- the order of multiples is the order of their factors
pub times_lt : (b : ℕ) (k j : ℤ) → (k *ℤ pos b) <ℤ (j *ℤ pos b) → k <ℤ j
times_lt b k j h =
    lt_out k j
    (lt_of_mul-lt-mul_right b
    (omega (arith, lt_in (k *ℤ pos b) (j *ℤ pos b) h, mul_is k (pos b), mul_is j (pos b), add-mul (up k) (dn j) b, add-mul (up j) (dn k) b)))

pub times_le : (b : ℕ) (k j : ℤ) → k ≤ℤ j → (k *ℤ pos b) ≤ℤ (j *ℤ pos b)
times_le b k j h =
    let g : (up k + dn j) * b ≤ (up j + dn k) * b = mul-le-mul_right b (le_in k j h) in
    omega (zarith, mul_is k (pos b), mul_is j (pos b), add-mul (up k) (dn j) b, add-mul (up j) (dn k) b)

-- more divided by the same is no less
pub div_mono : (b : ℕ) {m n : ℕ} → m ≤ n → m / b ≤ n / b
div_mono zero {m} {n} h = omega (arith, div-zero m)
div_mono (suc b) {m} {n} h = (le-div_iff_mul-le (zero-lt-suc b)).1 (omega (arith, div-mul-le_self m (suc b)))

-- k is x/b rounded down
pub record Floor (x : ℤ) (b : ℕ) (k : ℤ) : Type 0 where
  pub low : (k *ℤ pos b) ≤ℤ x
  pub high : x <ℤ (k *ℤ pos b +ℤ pos b)

pub floor_is : (x : ℤ) (b : ℕ) → 0 < b → Floor x b (shr_z x b)
floor_is (pos a) b h =
    record {
      low = omega (zarith, div-add-mod' a b);
      high = omega (zarith, div-add-mod' a b, mod-lt a h);
    }
floor_is (negsuc a) b h =
    let k : ℤ = negsuc (a / b) in
    let e : a / b * b + a % b ≡ a = div-add-mod' a b in
    let m : a % b < b = mod-lt a h in
    let s : suc (a / b) * b ≡ a / b * b + b = suc-mul (a / b) b in
    record {
      low = le_out (k *ℤ pos b) (negsuc a) (omega (arith, mul_is k (pos b)));
      high = lt_out (negsuc a) (k *ℤ pos b +ℤ pos b) (omega (arith, mul_is k (pos b), add_is (k *ℤ pos b) (pos b)));
    }

pub next_multiple : (b : ℕ) (k : ℤ) → (k +ℤ pos 1) *ℤ pos b ≡ k *ℤ pos b +ℤ pos b
next_multiple b k = ap (λ (m : ℤ). m *ℤ pos b) (+ℤ_one k) ∙ suc_ℤ-*ℤ k (pos b)

-- a number whose multiple is not above x is not above x/b rounded down
pub floor_most : {x : ℤ} {b : ℕ} {k : ℤ} → Floor x b k → (j : ℤ) → (j *ℤ pos b) ≤ℤ x → j ≤ℤ k
floor_most {x} {b} {k} f j l =
    let g : j <ℤ (k +ℤ pos 1) = times_lt b j (k +ℤ pos 1) (rw next_multiple (omega (zarith, f.high))) in
    omega (zarith, add_is k (pos 1))

pub floor_unique : {x : ℤ} {b : ℕ} {k j : ℤ} → Floor x b k → Floor x b j → k ≡ j
floor_unique {x} {b} {k} {j} f g = omega (zarith, floor_most g k f.low, floor_most f j g.low)
