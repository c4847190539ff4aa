-- Sums of products in a signed word of 64 bits: the invariant of a loop that adds one product after the other (`Summed`), and what one of its turns leaves to
-- be shown (`Turn`). Leans on whole's bounds on the size of an inner product. Assumes nothing.
use Rattle.std.proofs.Common.{◌≡◌, ℕ, ◌+◌, ◌*◌, ◌<◌, ◌≤◌, List, length, get_or, take, ℤ, pos, ◌+ℤ◌, ◌*ℤ◌, nat_abs, refl, ◌∙◌, add-one, arith, to_z-of_z, w64, SFits}
use Rattle.whole.specs.Size.{size_add}
use Rattle.whole.specs.Machine.{word, fits64}
use Rattle.whole.specs.Inner.{inner, inner_every, inner_suc, inner_turn, sizes}
use Rattle.scheme.specs.Loans.{UpTo}

-- the invariant of a loop that sums products: the first i are summed
pub record Summed (s c : List ℤ) (sum : ℤ) (i : ℕ) : Type 0 where
  pub within : i ≤ length s
  pub so_far : sum ≡ inner (take i s) (take i c)

pub sum_start : (s c : List ℤ) → Summed s c (pos 0) 0
unfolding inner
sum_start s c = record { within = omega arith; so_far = refl }

pub sum_end : {s c : List ℤ} {sum : ℤ} {i : ℕ} → Summed s c sum i → length s ≤ i → length c ≤ i → sum ≡ inner s c
sum_end {s} {c} {sum} {i} f h k = f.so_far ∙ inner_every s c i h k

-- the next product, x·y, is added: it fits a word, the new sum does, and that is the sum of the first i+1
pub record Turn (s c : List ℤ) (i : ℕ) (sum x y : ℤ) : Type 0 where
  pub product : SFits w64 (x *ℤ y)
  pub total : SFits w64 (sum +ℤ word w64 (x *ℤ y))
  pub next : Summed s c (word w64 (sum +ℤ word w64 (x *ℤ y))) (i + 1)

pub turn : {m : ℕ} {s c : List ℤ} {i : ℕ} {sum x y : ℤ} → Summed s c sum i → sizes s * m < 9223372036854775808 → UpTo m c → i < length s → i < length c
    → x ≡ get_or s i (pos 0) → y ≡ get_or c i (pos 0) → Turn s c i sum x y
turn {m} {s} {c} {i} {sum} {x} {y} f small e h k x-is y-is =
    let bound : nat_abs sum + nat_abs (x *ℤ y) ≤ sizes s * m = simp (f.so_far, x-is, y-is) (inner_turn s e i k) in
    let p : SFits w64 (x *ℤ y) = fits64 (x *ℤ y) (omega arith) in
    let t : SFits w64 (sum +ℤ x *ℤ y) = fits64 (sum +ℤ x *ℤ y) (omega (arith, size_add sum (x *ℤ y))) in
    record {
      product = p;
      total = simp (to_z-of_z, p) t;
      next = record { within = omega arith; so_far = simp (to_z-of_z, p, t) (simp (f.so_far, x-is, y-is, add-one, inner_suc)) };
    }
