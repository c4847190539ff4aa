-- A sum that can pass a word, in two words: the invariant of a loop that adds 16 products after 16 (`Held`), what one of its turns adds, and
-- where the chunks lie. Leans on whole's bounds on the size of an inner product. Assumes nothing.
use Rattle.std.proofs.Common.{◌≡◌, refl, sym, ap, ◌∙◌, List, [], ◌∷◌, ℕ, zero, suc, ◌+◌, ◌*◌, ◌-◌, ◌/◌, ◌≤◌, ◌<◌, arith, length, get_or, take, drop, length-drop, take_all, ℤ, pos, ◌+ℤ◌, ◌*ℤ◌, nat_abs}
use Rattle.std.specs.Simd.{first_chunks}
use Rattle.whole.specs.Lists.{cut, get_or_cut}
use Rattle.whole.specs.Inner.{inner, inner_part}

-- hi·2^20 + lo is the sum of the first j products, and the two are at most b·2^38 and b·2^16 in size
pub record Held (t row : List ℤ) (j b : ℕ) (hi lo : ℤ) : Type 0 where
  pub exact : hi *ℤ pos 1048576 +ℤ lo ≡ inner (take j t) (take j row)
  pub high : nat_abs hi ≤ b * 274877906944
  pub low : nat_abs lo ≤ b * 65536

-- the same of two numbers that equal these, however they are told
pub held_same : {t row : List ℤ} {j b : ℕ} {hi lo up down : ℤ} → Held t row j b hi lo → up ≡ hi → down ≡ lo → Held t row j b up down
held_same held h l = rw (h, l) held

-- the products from j up to e, at most 16, added
pub chunk_more : {t row : List ℤ} (j e : ℕ) {hi lo x up down : ℤ} → length t ≡ length row → j ≤ e → Held t row j j hi lo
    → x ≡ inner (take (e - j) (drop j t)) (take (e - j) (drop j row))
    → up *ℤ pos 1048576 +ℤ down ≡ (hi *ℤ pos 1048576 +ℤ lo) +ℤ x → nat_abs up ≤ nat_abs hi + 4398046511104 → nat_abs down ≤ nat_abs lo + 1048576
    → Held t row e (j + 16) up down
chunk_more {t} {row} j e same from held x-is sum high low =
    record {
      exact = sum ∙ rw (held.exact, x-is) (sym (inner_part t row j e from same));
      high = omega (arith, held.high);
      low = omega (arith, held.low);
    }

-- ---- the chunks of 16 entries, as `as_chunks` gives them

first_cut : (n k : ℕ) (xs : List ℤ) → first_chunks n k xs ≡ cut n k xs
unfolding cut
first_cut n zero xs = refl
first_cut n (suc k) xs = ap (λ (r : List (List ℤ)). take n xs ∷ r) (first_cut n k (drop n xs))

-- chunk k is what lies from 16·k up to 16 further on
pub chunk_at : (xs : List ℤ) {chunks : List (List ℤ)} (k : ℕ) → chunks ≡ first_chunks 16 (length xs / 16) xs → k < length xs / 16
    → get_or chunks k [] ≡ take (k * 16 + 16 - k * 16) (drop (k * 16) xs)
chunk_at xs k e h =
    let n : k * 16 + 16 - k * 16 ≡ 16 = omega arith in
    rw (n, e, first_cut) (get_or_cut 16 (length xs / 16) xs k [] h)

-- what is left is all after the last
pub rest_at : (xs : List ℤ) {rest : List ℤ} (k : ℕ) → rest ≡ drop (length xs / 16 * 16) xs → k ≡ length xs / 16 → rest ≡ take (length xs - k * 16) (drop (k * 16) xs)
rest_at xs k e f = e ∙ rw (← f) (sym (take_all (length xs - k * 16) (drop (k * 16) xs) (omega (arith, length-drop (k * 16) xs))))
