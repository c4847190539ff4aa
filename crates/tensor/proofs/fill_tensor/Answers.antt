-- `fill_tensor` writes the tensor of c and d, row after row. A turn lends the part of one row to `fill_row`, which gives it back as row u. Assumes nothing.
use Rattle.std.proofs.Common.{◌≡◌, map, ◌+◌, ◌*◌, ◌-◌, ◌/◌, ◌++◌, ◌≤◌, ◌<◌, ℕ, List, length, get_or, take, drop, sym, ap, ◌∙◌, add-one, suc-mul, arith, rules, w64, SFits, ℤ, pos, to_z, of_z, to_z-of_z}
use Rattle.std.proofs.Math.Nat.{mul-le-mul, add-sub_cancel_left, div-le_self, zero-mul}
use Rattle.std.proofs.Math.Facts.{to_z_pos}
use Rattle.std.specs.Int.Signed.{quot_z}
use borrow.Rule.Slice.PartMut.{mid_len}
use Rattle.whole.specs.Machine.{fits64}
use Rattle.whole.specs.Lists.{every_get_or, length_grid, grid_row, row_ends, Filled, fill_start, fill_part, fill_end}
use Rattle.scheme.specs.Arithmetic.{tensor_entry, tensor}
use Rattle.scheme.specs.Loans.{Modulus}
use Rattle.scheme.specs.Wording.{tensor_residues}
use Rattle.tensor.specs.Lines.{reciprocal_of}
use Rattle.tensor.proofs.fill_tensor.Goals as goal

-- the tensor has a row of `length d` entries for each entry of c, and row u is what `fill_row` writes
tensor_length : (q : ℕ) (c d : List ℤ) → length (tensor q c d) ≡ length c * length d
unfolding tensor
tensor_length q c d = length_grid (tensor_entry q) c d

tensor_row : (q : ℕ) (c d : List ℤ) (u : ℕ) → u < length c → take (length d) (drop (u * length d) (tensor q c d)) ≡ map (tensor_entry q (get_or c u (pos 0))) d
unfolding tensor
tensor_row q c d u h = grid_row (tensor_entry q) c d u (pos 0) h

-- the part that a turn lends, and what it leaves, at the place of row u, however that place is worked out
row_length : (out : List ℤ) (n u : ℕ) {row : ℕ} → row ≡ u → u * n + n ≤ length out → length (take (row * n + n - row * n) (drop (row * n) out)) ≡ n
row_length out n u place inside = rw place (mid_len (u * n) (u * n + n) out inside ∙ add-sub_cancel_left (u * n) n)

row_filled : {target found out new : List ℤ} (n u : ℕ) {row : ℕ} → row ≡ u → Filled target found out (u * n) → u * n + n ≤ length found → new ≡ take n (drop (u * n) target)
    → Filled target found (take (row * n) out ++ (new ++ drop (row * n + n - row * n) (drop (row * n) out))) ((u + 1) * n)
row_filled n u place filled inside written =
    let next : (u + 1) * n ≡ u * n + n = rw add-one (suc-mul u n) in
    rw (place, add-sub_cancel_left (u * n) n, next) (fill_part n filled inside written)

-- 2^62 divided by q/2 fits
reciprocal_back : (q : ℕ) → Modulus q → to_z w64 (of_z w64 (quot_z (pos 4611686018427387904) (to_z w64 (q / 2)))) ≡ pos (reciprocal_of q)
reciprocal_back q m =
    let half : to_z w64 (q / 2) ≡ pos (q / 2) = to_z_pos w64 (omega (arith, m.high)) in
    rw half (to_z-of_z (fits64 (pos (reciprocal_of q)) (omega (arith, div-le_self 4611686018427387904 (q / 2)))))

pub loop-u-init : goal.loop-u-init
loop-u-init c = rw zero-mul (fill_start _ _ (rw (tensor_length, c.requires.2)))

pub fill_row-requires : goal.fill_row-requires
fill_row-requires c =
    let x_fits : SFits w64 (get_or c.args.c.now c.loop-u.u (pos 0)) = search rules in (
      rw (to_z-of_z x_fits) (every_get_or _ _ _ (pos 0) c.requires.0 c.loop-u-test.true),
      rw c.get.ensures.value (reciprocal_back _ c.get.ensures.modulus),
      c.requires.1,
      row_length _ _ c.loop-u.u (omega arith) (omega (arith, row_ends (length c.args.d.now) (length c.args.c.now) c.loop-u.u c.loop-u-test.true)),
    )

pub loop-u-preserved : goal.loop-u-preserved
loop-u-preserved c =
    let q : ℕ = c.args.q in
    let d = c.args.d.now in
    let e = c.args.c.now in
    let n : ℕ = length d in
    let u : ℕ = c.loop-u.u in
    let x_fits : SFits w64 (get_or e u (pos 0)) = search rules in
    let inside : u * n + n ≤ length c.args.out.now = omega (arith, row_ends n (length e) u c.loop-u-test.true) in
    row_filled n u (omega arith) c.loop-u.invariant inside
    (c.fill_row.ensures
    ∙ ap (λ (x : ℤ). map (tensor_entry q x) d) (to_z-of_z x_fits)
    ∙ sym (tensor_row q e d u c.loop-u-test.true))

-- every entry is a residue
pub returns-clause-residues : goal.returns-clause-residues
returns-clause-residues c =
    let m = c.get.ensures.modulus in
    let all : length c.args.out.now ≤ c.loop-u.u * length c.args.d.now = rw c.requires.2 (mul-le-mul (omega arith) (omega arith)) in
    rw (fill_end c.loop-u.invariant all) (tensor_residues _ _ _ m.positive m.even)
