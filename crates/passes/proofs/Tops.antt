-- The test of `range::all_below` by top bits, bit 63 of a word. Modulo 2^64, x + h has no top bit and x − h has it exactly where x is
-- a residue of 2·h (`tops`); and the numbers that a pass keeps, the bitwise or of all x + h and the bitwise and of all x − h, say so of every entry
-- that it passed (`Parted`).
use Rattle.std.proofs.Common.{◌≡◌, ℕ, zero, suc, ◌+◌, ◌*◌, ◌/◌, ◌%◌, ◌<◌, ◌≤◌, Bool, true, false, ◌&&◌, ltb, leb, List, length, get_or, take, ℤ, pos, negsuc, neg_ℤ, sym, refl, ◌∙◌, ap₂, add-one, arith, take_all, w64, of_z, ltb-false, ltb-true, le-ltb, lt-ltb, le-leb, leb-false, leb-true}
use mathlib.Core.Bool.{and-true, and-false}
use lib.Bits.{bit_and, bit_or, or_lt, and_le_l, and_le_r, or_add_and, and_shr}
use lib.Dec.{leb-zero, leb-suc-zero, leb-suc-suc}
use lib.Signed.{mag, le_z, lt_z}
use borrow.Author.Tests.{lt-leb}
use Rattle.whole.specs.Tests.{and_both}
use Rattle.whole.specs.Lists.{every, every_suc}
use Rattle.scheme.specs.Arithmetic.{is_residue}

-- 2^63: a word has the top bit from here on
abbrev top : ℕ
top = 9223372036854775808

-- 2^64: a word is below it
abbrev words : ℕ
words = 18446744073709551616

-- −h ≤ x < h is one comparison of naturals
range_mag : (h : ℕ) (x : ℤ) → (le_z (neg_ℤ (pos h)) x && lt_z x (pos h)) ≡ ltb (mag x) h
range_mag zero (pos n) = rw leb-zero
range_mag (suc h) (pos n) = refl
range_mag zero (negsuc n) = sym (leb-suc-zero n)
range_mag (suc h) (negsuc n) = and-true (leb n h) ∙ sym (leb-suc-suc n h)

-- so a residue of 2·h is told by one
residue_mag : (h : ℕ) (x : ℤ) → is_residue (2 * h) x ≡ ltb (mag x) h
unfolding is_residue
residue_mag h x = let e : 2 * h / 2 ≡ h = omega arith in rw e (range_mag h x)

-- y has no top bit, and z has it
abbrev pub low_high : ℕ → ℕ → Bool
low_high y z = ltb y top && leb top z

-- it is t, for any test t that gives both when it holds, and that not both hold when it fails
low_high_is : (t : Bool) (y z : ℕ) → (t ≡ true → (y < top) × (top ≤ z)) → (t ≡ false → y < top → z < top)
    → low_high y z ≡ t
low_high_is true y z holds fails = and_both (lt-ltb y top (holds refl).0) (le-leb top z (holds refl).1)
low_high_is false y z holds fails = by_low (ltb y top) refl
  where
    by_low : (b : Bool) → ltb y top ≡ b → (b && leb top z) ≡ false
    by_low true e = lt-leb top z (fails refl (ltb-true y top e))
    by_low false e = refl

-- y is x + h and z is x − h, each modulo 2^64
tops_mag : (h y z : ℕ) (x : ℤ) → 0 < h → h ≤ 4611686018427387904 → mag x < top → z < words
    → y ≡ (of_z w64 x + h) % words → (z + 2 * h) % words ≡ y → low_high y z ≡ ltb (mag x) h
tops_mag h y z (pos n) low high fits zfits ey ez =
    low_high_is (ltb n h) y z (λ e. (omega (arith, ltb-true n h e), omega (arith, ltb-true n h e))) (λ e g. omega (arith, ltb-false n h e))
tops_mag h y z (negsuc n) low high fits zfits ey ez =
    low_high_is (ltb n h) y z (λ e. (omega (arith, ltb-true n h e), omega (arith, ltb-true n h e))) (λ e g. omega (arith, ltb-false n h e))

pub tops : (h y z : ℕ) (x : ℤ) → 0 < h → h ≤ 4611686018427387904 → mag x < top → z < words
    → y ≡ (of_z w64 x + h) % words → (z + 2 * h) % words ≡ y → low_high y z ≡ is_residue (2 * h) x
tops h y z x low high fits zfits ey ez = tops_mag h y z x low high fits zfits ey ez ∙ sym (residue_mag h x)

-- a bitwise or has no top bit where neither of the two has one, and a bitwise and has it where both have
or_top : (a b : ℕ) → ltb (bit_or a b) top ≡ (ltb a top && ltb b top)
or_top a b = by_tests (ltb a top) (ltb b top) refl refl
  where
    by_tests : (s t : Bool) → ltb a top ≡ s → ltb b top ≡ t → ltb (bit_or a b) top ≡ (s && t)
    by_tests true true e f = lt-ltb (bit_or a b) top (or_lt 63 a b (ltb-true a top e) (ltb-true b top f))
    by_tests true false e f = le-ltb (bit_or a b) top (omega (arith, or_add_and a b, and_le_l a b, ltb-false b top f))
    by_tests false t e f = le-ltb (bit_or a b) top (omega (arith, or_add_and a b, and_le_r a b, ltb-false a top e))

both_tops : (a b : ℕ) → a < words → b < words → top ≤ a → top ≤ b → top ≤ bit_and a b
both_tops a b fa fb ha hb =
    let p : a / top ≡ 1 = omega arith in
    let q : b / top ≡ 1 = omega arith in
    let r : bit_and a b / top ≡ 1 = and_shr a b 63 ∙ ap₂ bit_and p q in
    omega arith

and_top : (a b : ℕ) → a < words → b < words
    → leb top (bit_and a b) ≡ (leb top a && leb top b)
and_top a b fa fb = by_tests (leb top a) (leb top b) refl refl
  where
    by_tests : (s t : Bool) → leb top a ≡ s → leb top b ≡ t → leb top (bit_and a b) ≡ (s && t)
    by_tests true true e f = le-leb top (bit_and a b) (both_tops a b fa fb (leb-true top a e) (leb-true top b f))
    by_tests true false e f = lt-leb top (bit_and a b) (omega (arith, and_le_r a b, leb-false top b f))
    by_tests false t e f = lt-leb top (bit_and a b) (omega (arith, and_le_l a b, leb-false top a e))

and_crossed : (a b c d : Bool) → ((a && c) && (b && d)) ≡ ((a && b) && (c && d))
and_crossed true true c d = refl
and_crossed true false c d = and-false c
and_crossed false b c d = refl

-- the invariant of the pass, over the test p: of the two numbers kept the one has no top bit and the other has it exactly where each of the first i entries passes
pub record Parted (p : ℤ → Bool) (xs : List ℤ) (some each i : ℕ) : Type 0 where
  pub within : i ≤ length xs
  pub fits : each < words
  pub so_far : low_high some each ≡ every p (take i xs)

pub parted_start : (p : ℤ → Bool) (xs : List ℤ) → Parted p xs 0 18446744073709551615 0
unfolding every
parted_start p xs = record { within = omega arith; fits = omega arith; so_far = refl }

-- the next entry's numbers are `low_high` where it passes
pub parted_step : {p : ℤ → Bool} {xs : List ℤ} {some each i : ℕ} → Parted p xs some each i → (y z : ℕ) → z < words → i < length xs
    → low_high y z ≡ p (get_or xs i (pos 0)) → Parted p xs (bit_or some y) (bit_and each z) (i + 1)
parted_step {p} {xs} {some} {each} {i} f y z l h e =
    record {
      within = omega arith;
      fits = omega (arith, f.fits, and_le_l each z);
      so_far =
          ap₂ ◌&&◌ (or_top some y) (and_top each z f.fits l)
          ∙ and_crossed (ltb some top) (leb top each) (ltb y top) (leb top z)
          ∙ rw (add-one, every_suc p xs i (pos 0)) (ap₂ ◌&&◌ f.so_far e);
    }

pub parted_end : {p : ℤ → Bool} {xs : List ℤ} {some each i : ℕ} → Parted p xs some each i → length xs ≤ i → low_high some each ≡ every p xs
parted_end f h = f.so_far ∙ rw take_all
