-- `switchingkey::row_zero_entry` returns [q·su·sv − <s',mask column j> + error]Q for j = u·n+v. No step wraps: q·su·sv is at most 2^44 in size for any u and v, since no entry of
-- the key is larger than the sum of its sizes (`entry_size`), and the inner product, which is `inner_column`'s of s without s0, at most 2^51 (`inner_size`).
-- Assumes nothing.
use Rattle.std.proofs.Common.{◌≡◌, ap, ap₂, ◌∙◌, List, ℕ, ◌*◌, ◌-◌, ◌≤◌, ◌<◌, le_trans, mul-le-mul, arith, rules, ℤ, pos, ◌+ℤ◌, ◌-ℤ◌, ◌*ℤ◌, nat_abs, length, get_or, take, drop, length-drop, take_all, w32, w64, SFits, to_z, to_z-of_z}
use Rattle.std.proofs.Math.Facts.{to_z_pos}
use Rattle.whole.specs.Centred.{centred}
use Rattle.whole.specs.Size.{size_add, size_sub, size_mul}
use Rattle.whole.specs.Machine.{word, word_is, widened, fits64}
use Rattle.whole.specs.Inner.{inner, inner_size, sizes, sizes_drop, entry_size, each_column_cut}
use Rattle.scheme.specs.Arithmetic.{mask_column}
use Rattle.scheme.specs.Loans.{Modulus, UpTo}
use Rattle.switchingkey.specs.Ready.{RowZeroEntryReady}
use Rattle.switchingkey.proofs.row_zero_entry.Goals as goal

-- <s',mask column j>
column_size : (s masks : List ℤ) (j : ℕ) → sizes s ≤ 4096 → length masks ≡ (length s - 1) * (length s * length s) → UpTo 549755813888 masks → j < length s * length s
    → nat_abs (inner (drop 1 s) (mask_column (length s) masks j)) ≤ 2251799813685248
unfolding mask_column
column_size s masks j h l e b =
    omega (arith, inner_size (drop 1 s) (each_column_cut (length s * length s) (length s - 1) j (omega arith) b e), sizes_drop s 1)

-- s without s0, as it is lent to `inner_column`
rest : (s : List ℤ) → take (length s - 1) (drop 1 s) ≡ drop 1 s
rest s = take_all (length s - 1) (drop 1 s) (omega (arith, length-drop 1 s))

-- at any places u and v of the key, and as the machine has them
module _ {q : ℕ} {s masks : List ℤ} {error : ℤ} {j : ℕ} (m : Modulus q) (r : RowZeroEntryReady q s masks error j) (u v : ℕ) where
  abbrev entry : ℕ → ℤ
  entry k = get_or s k (pos 0)

  entry_small : (k : ℕ) → nat_abs (entry k) ≤ 4096
  entry_small k = le_trans (entry_size s k) r.row.key_small

  -- q·su
  first_small : nat_abs (pos q *ℤ entry u) ≤ 4294967296
  first_small = omega (arith, size_mul (pos q) (entry u), mul-le-mul m.high (entry_small u))

  first_fits : SFits w64 (pos q *ℤ entry u)
  first_fits = fits64 _ (omega (arith, first_small))

  abbrev machine_first : ℤ
  machine_first = to_z w64 q *ℤ word w64 (word w32 (entry u))

  first_is : SFits w32 (entry u) → machine_first ≡ pos q *ℤ entry u
  first_is f = ap₂ ◌*ℤ◌ (to_z_pos w64 {n = q} (omega (arith, m.high))) (widened f)

  machine_first_fits : SFits w32 (entry u) → SFits w64 machine_first
  machine_first_fits f = rw (first_is f) first_fits

  -- q·su·sv
  abbrev product : ℤ
  product = pos q *ℤ entry u *ℤ entry v

  product_small : nat_abs product ≤ 17592186044416
  product_small = omega (arith, size_mul (pos q *ℤ entry u) (entry v), mul-le-mul first_small (entry_small v))

  product_fits : SFits w64 product
  product_fits = fits64 _ (omega (arith, product_small))

  abbrev machine_product : ℤ
  machine_product = word w64 machine_first *ℤ word w64 (word w32 (entry v))

  product_is : SFits w32 (entry u) → SFits w32 (entry v) → machine_product ≡ product
  product_is f g = ap₂ ◌*ℤ◌ (word_is (first_is f) first_fits) (widened g)

  machine_product_fits : SFits w32 (entry u) → SFits w32 (entry v) → SFits w64 machine_product
  machine_product_fits f g = rw (product_is f g) product_fits

  -- less the inner product
  abbrev column_of : ℤ
  column_of = inner (drop 1 s) (mask_column (length s) masks j)

  column_small : nat_abs column_of ≤ 2251799813685248
  column_small = column_size s masks j r.row.key_small r.row.masks_long r.row.masks_small r.column

  abbrev less : ℤ
  less = product -ℤ column_of

  less_small : nat_abs less ≤ 2269391999729664
  less_small = omega (arith, size_sub product column_of, product_small, column_small)

  less_fits : SFits w64 less
  less_fits = fits64 _ (omega (arith, less_small))

  -- and the error
  total_fits : SFits w64 (less +ℤ error)
  total_fits = fits64 _ (omega (arith, size_add less error, less_small, r.error_small))

  module _ {x : ℤ} (f : SFits w32 (entry u)) (g : SFits w32 (entry v)) (x-is : x ≡ column_of) where
    abbrev machine_less : ℤ
    machine_less = word w64 machine_product -ℤ word w64 x

    less_is : machine_less ≡ less
    less_is = ap₂ ◌-ℤ◌ (word_is (product_is f g) product_fits) (word_is x-is (fits64 column_of (omega (arith, column_small))))

    machine_less_fits : SFits w64 machine_less
    machine_less_fits = rw less_is less_fits

    total_is : SFits w64 error → word w64 machine_less +ℤ word w64 error ≡ less +ℤ error
    total_is h = ap₂ ◌+ℤ◌ (word_is less_is less_fits) (to_z-of_z h)

    machine_total_fits : SFits w64 error → SFits w64 (word w64 machine_less +ℤ word w64 error)
    machine_total_fits h = rw (total_is h) total_fits

pub overflow_mul-product : goal.overflow_mul-product
overflow_mul-product c = rw c.get.ensures.value (machine_first_fits c.get.ensures.modulus c.requires _ 0 (search rules))

pub overflow_mul-product-2 : goal.overflow_mul-product-2
overflow_mul-product-2 c = rw c.get.ensures.value (machine_product_fits c.get.ensures.modulus c.requires _ _ (search rules) (search rules))

pub inner_column-requires : goal.inner_column-requires
inner_column-requires c =
    let p = c.requires in
    let s = c.args.s.now in
    simp (rest, length-drop) (p.row.masks_long, p.column, omega (arith, sizes_drop s 1, p.row.key_small), p.row.masks_small)

pub overflow_sub-product : goal.overflow_sub-product
unfolding mask_column
overflow_sub-product c = rw c.get.ensures.value (machine_less_fits c.get.ensures.modulus c.requires _ _ (search rules) (search rules) (c.inner_column.ensures ∙ simp (rest, length-drop)))

pub overflow_add-product : goal.overflow_add-product
unfolding mask_column
overflow_add-product c = rw c.get.ensures.value (machine_total_fits c.get.ensures.modulus c.requires _ _ (search rules) (search rules) (c.inner_column.ensures ∙ simp (rest, length-drop)) c.ranges.error)

pub returns : goal.returns
unfolding mask_column
returns c =
    (rw c.get.ensures.value at c.of.ensures)
    ∙ ap (centred _)
    (word_is (total_is c.get.ensures.modulus c.requires _ _ (search rules) (search rules) (c.inner_column.ensures ∙ simp (rest, length-drop)) c.ranges.error) (total_fits c.get.ensures.modulus c.requires _ _))
