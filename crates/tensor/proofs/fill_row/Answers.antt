-- `fill_row` writes the tensor's row for x. A turn stores the residue of the whole part of the line's point over d_v, which is entry v of the row (`line_rounds`).
-- That each step is safe holds of any base up to 2^41 beside q, and of 42 binary places or more (`whole_small`). Assumes nothing.
use Rattle.std.proofs.Common.{◌≡◌, true, ◌+◌, ◌*◌, ◌/◌, ◌≤◌, ℕ, get_or, sym, ap, ◌∙◌, arith, rules, w64, SFits, ℤ, pos, ◌+ℤ◌, ◌*ℤ◌, nat_abs, to_z, to_z-of_z}
use Rattle.std.proofs.Math.Nat.{mul-le-mul}
use Rattle.std.proofs.Math.Dec.{lit≤}
use Rattle.std.proofs.Math.Facts.{to_z_pos}
use Rattle.std.specs.Int.Signed.{shr_z}
use Rattle.whole.specs.Size.{size_add, size_mul}
use Rattle.whole.specs.Floor.{Floor, floor_is}
use Rattle.whole.specs.Centred.{centred}
use Rattle.whole.specs.Machine.{fits64, word}
use Rattle.whole.specs.Lists.{every_get_or, get_or_map, fill_step}
use Rattle.scheme.specs.Arithmetic.{is_residue, tensor_entry}
use Rattle.scheme.specs.Wording.{residue_size}
use Rattle.scheme.specs.Loans.{Modulus}
use Rattle.tensor.specs.Lines.{reciprocal_of}
use Rattle.tensor.proofs.Lines.{gap, line_rounds, whole_small, scaled_size, shifted_size, shifted_slope}
use Rattle.tensor.proofs.fill_row.Goals as goal

-- what the row is lent: a modulus, a residue x and the reciprocal r, in words
record Lent (q : ℕ) (x r : ℤ) : Type 0 where
  modulus : Modulus q
  residue : is_residue q x ≡ true
  reciprocal : r ≡ pos (reciprocal_of q)
  x_fits : SFits w64 x
  r_fits : SFits w64 r

lends : {q : ℕ} {x r : ℤ} → Modulus q → is_residue q x ≡ true → r ≡ pos (reciprocal_of q) → SFits w64 x → SFits w64 r → Lent q x r
lends m rx e f g = record { modulus = m; residue = rx; reciprocal = e; x_fits = f; r_fits = g }

-- what the code's words hold before the loop
module _ {q : ℕ} {x r : ℤ} (lent : Lent q x r) where
  abbrev product : ℤ
  product = x *ℤ pos (reciprocal_of q)

  abbrev slope : ℤ
  slope = shr_z product 1048576

  floor : Floor product 1048576 slope
  floor = floor_is product 1048576 (omega arith)

  reciprocal_back : word w64 r ≡ pos (reciprocal_of q)
  reciprocal_back = to_z-of_z lent.r_fits ∙ lent.reciprocal

  product_fits : SFits w64 product
  product_fits = fits64 _ (omega (arith, scaled_size q x lent.modulus lent.residue))

  slope_small : nat_abs slope ≤ 4398046511104
  slope_small = shifted_size q x lent.modulus lent.residue slope floor

  abbrev machine_slope : ℤ
  machine_slope = word w64 (shr_z (word w64 (word w64 x *ℤ word w64 r)) 1048576)

  slope_back : machine_slope ≡ slope
  slope_back = rw (to_z-of_z lent.x_fits, reciprocal_back, to_z-of_z product_fits) (to_z-of_z (fits64 slope (omega (arith, slope_small))))

  q_back : to_z w64 q ≡ pos q
  q_back = to_z_pos w64 (omega (arith, lent.modulus.high))

  -- in a turn
  module _ (y : ℤ) (y_fits : SFits w64 y) (y_residue : is_residue q y ≡ true) where
    y_back : word w64 y ≡ y
    y_back = to_z-of_z y_fits

    product_small : nat_abs (slope *ℤ y) ≤ 4398046511104 * (q / 2)
    product_small = rw size_mul (mul-le-mul slope_small (residue_size q y y_residue))

    product_fit : SFits w64 (slope *ℤ y)
    product_fit = fits64 _ (omega (arith, product_small, lent.modulus.high))

    machine_product_fit : SFits w64 (machine_slope *ℤ word w64 y)
    machine_product_fit = rw (slope_back, y_back) product_fit

    -- the line's point over y for a base b, and as the machine has it
    module _ (b : ℕ) (l : b ≤ 2199023255552) where
      abbrev point : ℤ
      point = slope *ℤ y +ℤ (pos b +ℤ pos q)

      point_fit : SFits w64 point
      point_fit = fits64 _ (omega (arith, product_small, size_add (slope *ℤ y) (pos b +ℤ pos q), lent.modulus.high))

      abbrev machine_point : ℤ
      machine_point = word w64 (machine_slope *ℤ word w64 y) +ℤ word w64 (pos b +ℤ to_z w64 q)

      base_back : word w64 (pos b +ℤ to_z w64 q) ≡ pos b +ℤ pos q
      base_back = rw q_back (to_z-of_z (fits64 (pos b +ℤ pos q) (omega (arith, lent.modulus.high))))

      point_back : machine_point ≡ point
      point_back = rw (slope_back, y_back, base_back, to_z-of_z product_fit)

      machine_fit : SFits w64 machine_point
      machine_fit = rw point_back point_fit

      -- its whole part, after the binary places that K says
      module _ (K : ℕ) (g : 4398046511104 ≤ K) where
        small : nat_abs (shr_z point K) ≤ q / 2
        small = whole_small (q / 2) (b + q) K (slope *ℤ y) (shr_z point K) product_small (omega (arith, lent.modulus.high)) g (floor_is point K (omega arith))

        whole_back : word w64 (shr_z (word w64 machine_point) K) ≡ shr_z point K
        whole_back = rw (point_back, to_z-of_z point_fit) (to_z-of_z (fits64 (shr_z point K) (omega (arith, small, lent.modulus.high))))

        machine_small : nat_abs (word w64 (shr_z (word w64 machine_point) K)) ≤ q / 2
        machine_small = rw whole_back small

    -- with the half of rounding in the base, and 42 places, it has the residue that is the row's entry
    entry : centred q (shr_z (slope *ℤ y +ℤ (pos 2199023255552 +ℤ pos q)) 4398046511104) ≡ tensor_entry q x y
    unfolding tensor_entry
    entry =
        let g : nat_abs (gap q x slope) ≤ q = shifted_slope q x lent.modulus lent.residue slope floor in
        ap (centred q) (sym (line_rounds q x slope lent.modulus lent.residue g y y_residue _ (floor_is _ 4398046511104 (omega arith))))

pub overflow_mul-slope : goal.overflow_mul-slope
overflow_mul-slope c =
    let lent = lends c.get.ensures.modulus c.requires.0 c.requires.1 c.ranges.x c.ranges.reciprocal in
    rw (to_z-of_z c.ranges.x, reciprocal_back lent) (product_fits lent)

pub overflow_mul-slope-in-loop-v : goal.overflow_mul-slope-in-loop-v
overflow_mul-slope-in-loop-v c =
    let lent = lends c.get.ensures.modulus c.requires.0 c.requires.1 c.ranges.x c.ranges.reciprocal in
    let y : ℤ = get_or c.args.d.now c.loop-v.v (pos 0) in
    let y_fits : SFits w64 y = search rules in
    machine_product_fit lent y y_fits (every_get_or _ _ _ (pos 0) c.requires.2 c.loop-v-test.true)

pub overflow_add-slope : goal.overflow_add-slope
overflow_add-slope c =
    let lent = lends c.get.ensures.modulus c.requires.0 c.requires.1 c.ranges.x c.ranges.reciprocal in
    let y : ℤ = get_or c.args.d.now c.loop-v.v (pos 0) in
    let y_fits : SFits w64 y = search rules in
    rw c.get.ensures.value (search (machine_fit lent y y_fits (every_get_or _ _ _ (pos 0) c.requires.2 c.loop-v-test.true), lit≤))

pub up_to_half-requires : goal.up_to_half-requires
up_to_half-requires c =
    let lent = lends c.get.ensures.modulus c.requires.0 c.requires.1 c.ranges.x c.ranges.reciprocal in
    let y : ℤ = get_or c.args.d.now c.loop-v.v (pos 0) in
    let y_fits : SFits w64 y = search rules in
    rw c.get.ensures.value (search (machine_small lent y y_fits (every_get_or _ _ _ (pos 0) c.requires.2 c.loop-v-test.true), lit≤))

pub loop-v-preserved : goal.loop-v-preserved
loop-v-preserved c =
    let lent = lends c.get.ensures.modulus c.requires.0 c.requires.1 c.ranges.x c.ranges.reciprocal in
    let y : ℤ = get_or c.args.d.now c.loop-v.v (pos 0) in
    let y_fits : SFits w64 y = search rules in
    let y_residue : is_residue c.args.q y ≡ true = every_get_or _ _ _ (pos 0) c.requires.2 c.loop-v-test.true in
    let f = tensor_entry c.args.q (word w64 c.args.x) in
    let read : SFits w64 c.value.result = search rules in
    fill_step c.loop-v.invariant _ (pos 0) (omega arith)
    (to_z-of_z read
    ∙ c.value.ensures
    ∙ rw c.get.ensures.value at c.up_to_half.ensures
    ∙ ap (centred c.args.q) (whole_back lent y y_fits y_residue 2199023255552 (omega arith) 4398046511104 (omega arith))
    ∙ entry lent y y_fits y_residue
    ∙ rw (get_or_map f c.args.d.now c.loop-v.v (pos 0) (pos 0) c.loop-v-test.true, to_z-of_z c.ranges.x))
