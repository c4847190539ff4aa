-- Division as the machine does it, cut toward 0: the library's `quot_z` and `rem_z`, against division rounded down.
use Rattle.std.specs.Prelude.{◌≡◌, ℕ, suc, ◌*◌, ◌/◌, ◌%◌, ◌≤◌, ◌<◌, ℤ, pos, negsuc, neg_ℤ, ◌+ℤ◌, ◌-ℤ◌, ◌*ℤ◌, nat_abs, ◌≤ℤ◌, ◌<ℤ◌}
use Rattle.std.proofs.Common.{sym, ap, ◌∙◌, div-add-mod', mod-lt, div-le_self, div-mul-le_self, arith}
use Rattle.std.proofs.Math.IntN.{neg_ℤ-+ℤ, -ℤ-+ℤ_cancel}
use Rattle.std.specs.Int.Signed.{quot_z, rem_z}
use Rattle.whole.specs.Laws.{neg_ℤ-*ℤ}
use Rattle.whole.specs.Split.{zarith, add_is, size_is}
use Rattle.whole.specs.Size.{size_neg}
use Rattle.whole.specs.Floor.{Floor, next_multiple}

-- x is its quotient times m, and its remainder
pub quot_rem : (x : ℤ) (m : ℕ) → x ≡ quot_z x (pos m) *ℤ pos m +ℤ rem_z x (pos m)
quot_rem (pos a) m = ap pos (sym (div-add-mod' a m))
quot_rem (negsuc a) m =
    sym (ap (λ (z : ℤ). z +ℤ neg_ℤ (pos (suc a % m))) (neg_ℤ-*ℤ (pos (suc a / m)) (pos m))
    ∙ sym (neg_ℤ-+ℤ (pos (suc a / m * m)) (pos (suc a % m)))
    ∙ ap (λ (n : ℕ). neg_ℤ (pos n)) (div-add-mod' (suc a) m))

-- the remainder is below m in size
pub rem_size : (x : ℤ) (m : ℕ) → 0 < m → nat_abs (rem_z x (pos m)) < m
rem_size (pos a) m h = mod-lt a h
rem_size (negsuc a) m h = omega (arith, mod-lt (suc a) h, size_neg (pos (suc a % m)))

-- the quotient is no larger than x
pub quot_size : (x : ℤ) (m : ℕ) → nat_abs (quot_z x (pos m)) ≤ nat_abs x
quot_size (pos a) m = div-le_self a m
quot_size (negsuc a) m = omega (arith, div-le_self (suc a) m, size_neg (pos (suc a / m)))

-- and its multiple is not either
pub quot_times_size : (x : ℤ) (m : ℕ) → nat_abs (quot_z x (pos m)) * m ≤ nat_abs x
quot_times_size (pos a) m = div-mul-le_self a m
quot_times_size (negsuc a) m = rw size_neg (div-mul-le_self (suc a) m)

-- where the remainder is not negative, the quotient is x/m rounded down
pub quot_floor : (x : ℤ) (m : ℕ) → 0 < m → pos 0 ≤ℤ rem_z x (pos m) → Floor x m (quot_z x (pos m))
quot_floor x m h le =
    let k : ℤ = quot_z x (pos m) in
    let r : ℤ = rem_z x (pos m) in
    record {
      low = omega (zarith, quot_rem x m, add_is (k *ℤ pos m) r);
      high = omega (zarith, quot_rem x m, rem_size x m h, size_is r, add_is (k *ℤ pos m) r, add_is (k *ℤ pos m) (pos m));
    }

-- and where it is negative, one less is
pub quot_floor_less : (x : ℤ) (m : ℕ) → 0 < m → rem_z x (pos m) <ℤ pos 0 → Floor x m (quot_z x (pos m) -ℤ pos 1)
quot_floor_less x m h lt =
    let k : ℤ = quot_z x (pos m) in
    let r : ℤ = rem_z x (pos m) in
    let l : ℤ = k -ℤ pos 1 in
    let step : k *ℤ pos m ≡ l *ℤ pos m +ℤ pos m = ap (λ (z : ℤ). z *ℤ pos m) (sym (-ℤ-+ℤ_cancel k (pos 1))) ∙ next_multiple m l in
    record {
      low = omega (zarith, quot_rem x m, rem_size x m h, size_is r, add_is (k *ℤ pos m) r, add_is (l *ℤ pos m) (pos m));
      high = omega (zarith, quot_rem x m, add_is (k *ℤ pos m) r, add_is (l *ℤ pos m) (pos m));
    }
