-- Where a definition is not at once the sentence of document 01, a fact that shows that it is: the range of a residue, the
-- places u·n+v of the tensor and i·n²+j of the switching key, and that what XOR, NOT and AND make is n residues again.
use Rattle.std.specs.Prelude.{◌≡◌, refl, true, ℕ, ◌+◌, ◌*◌, ◌/◌, ◌-◌, ◌≤◌, ◌<◌, ℤ, pos, neg_ℤ, ◌+ℤ◌, ◌-ℤ◌, ◌*ℤ◌, nat_abs, ◌≤ℤ◌, ◌<ℤ◌, length, get_or, drop}
use Rattle.std.proofs.Common.{sym, ap, ◌∙◌, mul_assoc, arith, drop_at}
use mathlib.Core.List.{List, [], ◌∷◌, map, zip_with}
use Rattle.std.specs.Int.Signed.{le_z, lt_z}
use Rattle.std.proofs.Math.ListN.{get_or-append}
use Rattle.std.proofs.lemmas.List.{length-map}
use Rattle.std.proofs.Math.Arith.{digits_lt, digits_div, digits_mod}
use Rattle.whole.specs.Tests.{and_left, and_right, and_both, le_z_true, lt_z_true, le_le_z, lt_lt_z}
use Rattle.whole.specs.Split.{zarith, mul_is, up_neg, dn_neg, size_is, apart}
use Rattle.whole.specs.Centred.{Centred, centred, centred_is}
use Rattle.whole.proofs.Centred.{centred_id}
use Rattle.whole.specs.Round.{round}
use Rattle.whole.specs.Lists.{every, every_map, each_every, each_map, each_always, length_zip_with, map_zip_with, grid, map_grid, length_grid, get_or_grid, get_or_map, cut, length_cut, get_or_cut_entry, tabulate, length_tabulate, get_or_tabulate}
use Rattle.whole.specs.Inner.{inner, column}
use Rattle.scheme.specs.Arithmetic.{half, is_residue, XOR_bound, NOT_bound, tensor_entry, tensor, key_rows, mask_column, row_zero_entry, switching_key, XOR, NOT, switch_entry, switch, AND}

-- ---- residues

pub residue_low : (q : ℕ) (x : ℤ) → is_residue q x ≡ true → neg_ℤ (half q) ≤ℤ x
unfolding is_residue
residue_low q x r = le_z_true (neg_ℤ (half q)) x (and_left (le_z (neg_ℤ (half q)) x) (lt_z x (half q)) r)

pub residue_high : (q : ℕ) (x : ℤ) → is_residue q x ≡ true → x <ℤ half q
unfolding is_residue
residue_high q x r = lt_z_true x (half q) (and_right (le_z (neg_ℤ (half q)) x) (lt_z x (half q)) r)

pub range_residue : (q : ℕ) (x : ℤ) → neg_ℤ (half q) ≤ℤ x → x <ℤ half q → is_residue q x ≡ true
unfolding is_residue
range_residue q x low high = and_both (le_le_z (neg_ℤ (half q)) x low) (lt_lt_z x (half q) high)

pub residue_size : (q : ℕ) (x : ℤ) → is_residue q x ≡ true → nat_abs x ≤ q / 2
residue_size q x r =
    let low : neg_ℤ (half q) ≤ℤ x = residue_low q x r in
    let high : x <ℤ half q = residue_high q x r in
    omega (zarith, up_neg (half q), dn_neg (half q), size_is x, apart x)

-- [x]q lies in −q/2 to q/2−1, for every even q
pub centred_residue : (q : ℕ) (x : ℤ) → 0 < q → q ≡ 2 * (q / 2) → is_residue q (centred q x) ≡ true
centred_residue q x h even =
    let c : Centred q x (centred q x) = centred_is q x h in
    let r : ℤ = centred q x in
    range_residue q r
    (omega (zarith, c.low, mul_is (pos 2) r, up_neg (pos q), dn_neg (pos q), up_neg (half q), dn_neg (half q)))
    (omega (zarith, c.high, mul_is (pos 2) r))

-- and a number of that range is its own residue
pub residue_centred : (q : ℕ) (x : ℤ) → 0 < q → q ≡ 2 * (q / 2) → is_residue q x ≡ true → centred q x ≡ x
residue_centred q x h even r =
    let low : neg_ℤ (half q) ≤ℤ x = residue_low q x r in
    let high : x <ℤ half q = residue_high q x r in
    centred_id q x h
    (omega (zarith, mul_is (pos 2) x, up_neg (pos q), dn_neg (pos q), up_neg (half q), dn_neg (half q)))
    (omega (zarith, mul_is (pos 2) x))

-- the square of an even number is even
pub even_square : (q : ℕ) → q ≡ 2 * (q / 2) → q * q ≡ 2 * (q * q / 2)
even_square q even =
    let e : q * q ≡ 2 * (q / 2 * q) = ap (λ k. k * q) even ∙ mul_assoc 2 (q / 2) q in
    omega arith

-- ---- bounds

-- XOR's is the sum of the two, NOT's is unchanged
pub XOR_bound_is : (B1 B2 : ℕ) → XOR_bound B1 B2 ≡ B1 + B2
unfolding XOR_bound
XOR_bound_is B1 B2 = refl

pub NOT_bound_is : (B : ℕ) → NOT_bound B ≡ B
unfolding NOT_bound
NOT_bound_is B = refl

-- ---- places

-- entry u·n+v of the tensor
pub tensor_entry_lem : (n q : ℕ) (c d : List ℤ) (u v : ℕ) (z : ℤ) → length c ≡ n → length d ≡ n → u < n → v < n
    → get_or (tensor q c d) (u * n + v) z ≡ tensor_entry q (get_or c u z) (get_or d v z)
unfolding tensor
tensor_entry_lem n q c d u v z lc ld hu hv =
    ap (λ (k : ℕ). get_or (tensor q c d) (u * k + v) z) (sym ld)
    ∙ get_or_grid (tensor_entry q) c d u v z z z (omega arith) (omega arith)

-- the tensor has one entry for each pair, and each is a residue
pub length_tensor : (q : ℕ) (c d : List ℤ) → length (tensor q c d) ≡ length c * length d
unfolding tensor
length_tensor q c d = length_grid (tensor_entry q) c d

pub tensor_residues : (q : ℕ) (c d : List ℤ) → 0 < q → q ≡ 2 * (q / 2) → every (is_residue q) (tensor q c d) ≡ true
unfolding tensor tensor_entry
tensor_residues q c d h even =
    rw (← map_grid (centred q) (λ x y. round (pos 2 *ℤ x *ℤ y) q) c d)
    (every_map (is_residue q) (centred q) (grid (λ x y. round (pos 2 *ℤ x *ℤ y) q) c d) (λ x. centred_residue q x h even))

-- row i column j of a switching key lies at i·n²+j
pub key_entry : (n : ℕ) (W : List ℤ) (i j : ℕ) (z : ℤ) → i < n → j < n * n → get_or (get_or (key_rows n W) i []) j z ≡ get_or W (i * (n * n) + j) z
unfolding key_rows
key_entry n W i j z hi hj = get_or_cut_entry (n * n) n W i j [] z hi hj

-- mask row i lies at (i−1)·n²: the first of a mask column is of mask row 1
pub mask_entry : (n : ℕ) (masks : List ℤ) (i j : ℕ) → i < n - 1 → j < n * n → get_or (mask_column n masks j) i (pos 0) ≡ get_or masks (i * (n * n) + j) (pos 0)
unfolding mask_column column
mask_entry n masks i j hi hj =
    get_or_map (λ row. get_or row j (pos 0)) (cut (n * n) (n - 1) masks) i [] (pos 0) (rw length_cut hi)
    ∙ get_or_cut_entry (n * n) (n - 1) masks i j [] (pos 0) hi hj

-- row 0, column u·n+v
pub key_row_zero : (n q : ℕ) (s masks f : List ℤ) (u v : ℕ) (z : ℤ) → u < n → v < n
    → get_or (switching_key n q s masks f) (u * n + v) z
    ≡ centred (q * q) (pos q *ℤ get_or s u (pos 0) *ℤ get_or s v (pos 0) -ℤ inner (drop 1 s) (mask_column n masks (u * n + v)) +ℤ get_or f (u * n + v) (pos 0))
unfolding switching_key row_zero_entry
key_row_zero n q s masks f u v z hu hv =
    let j : ℕ = u * n + v in
    let inside : j < n * n = digits_lt hu hv in
    get_or-append (tabulate (n * n) (row_zero_entry n q s masks f)) masks z j (rw length_tabulate inside)
    ∙ get_or_tabulate (n * n) (row_zero_entry n q s masks f) j z inside
    ∙ simp (digits_div u hv, digits_mod u hv)

-- the rows below are the masks
pub key_masks : (n q : ℕ) (s masks f : List ℤ) → drop (n * n) (switching_key n q s masks f) ≡ masks
unfolding switching_key
key_masks n q s masks f = drop_at (tabulate (n * n) (row_zero_entry n q s masks f)) masks (n * n) (length_tabulate (n * n) (row_zero_entry n q s masks f))

-- ---- what a gate makes is a ciphertext again: of the right length, and of residues

-- XOR is the sum of the two ciphertexts, reduced entry by entry
pub XOR_sum : (q : ℕ) (c d : List ℤ) → map (centred q) (zip_with ◌+ℤ◌ c d) ≡ XOR q c d
unfolding XOR
XOR_sum q c d = map_zip_with (centred q) ◌+ℤ◌ c d

-- it is as long as the two
pub length_XOR : (q : ℕ) (c d : List ℤ) → length c ≡ length d → length (XOR q c d) ≡ length c
unfolding XOR
length_XOR q c d same = length_zip_with (λ x y. centred q (x +ℤ y)) c d same

-- its entries are residues, whatever those of the two are
pub xor_residues : (q : ℕ) (c d : List ℤ) → 0 < q → q ≡ 2 * (q / 2) → every (is_residue q) (XOR q c d) ≡ true
xor_residues q c d h even = rw XOR_sum at (every_map (is_residue q) (centred q) (zip_with ◌+ℤ◌ c d) (λ x. centred_residue q x h even))

-- NOT is as long as the ciphertext
pub length_NOT : (q : ℕ) (c : List ℤ) → length (NOT q c) ≡ length c
unfolding NOT
length_NOT q [] = refl
length_NOT q (x ∷ c) = refl

-- its entries are residues where those of the ciphertext are
pub not_residues : (q : ℕ) (c : List ℤ) → 0 < q → q ≡ 2 * (q / 2) → every (is_residue q) c ≡ true → every (is_residue q) (NOT q c) ≡ true
unfolding NOT every
not_residues q [] h even r = r
not_residues q (x ∷ c) h even r = and_both (centred_residue q (x +ℤ half q) h even) (and_right (is_residue q x) (every (is_residue q) c) r)

-- AND has n entries
pub length_AND : (n q : ℕ) (W c d : List ℤ) → length (AND n q W c d) ≡ n
unfolding AND switch key_rows
length_AND n q W c d = length-map (key_rows n W) (switch_entry q (tensor q c d)) ∙ length_cut (n * n) n W

-- and each is a residue
pub and_residues : (n q : ℕ) (W c d : List ℤ) → 0 < q → q ≡ 2 * (q / 2) → every (is_residue q) (AND n q W c d) ≡ true
unfolding AND switch switch_entry
and_residues n q W c d h even =
    each_every (each_map (switch_entry q (tensor q c d)) (each_always (λ row. centred_residue q (round (inner (tensor q c d) row) q) h even) (key_rows n W)))
