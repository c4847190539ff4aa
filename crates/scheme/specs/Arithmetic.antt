-- Document 01, *Arithmetic*, in its order. [x]q is `centred q x`, round(a/b) is `round a b`, <s,c> is `inner s c` and the sum of
-- sizes is `sizes s`, all of the crate `whole`. Ciphertexts, keys and masks are lists of whole numbers, and a lent matrix lies
-- row by row. q stands for the modulus, Q for q².
use Rattle.std.specs.Prelude.{Bool, ◌&&◌, cond, ℕ, ◌+◌, ◌*◌, ◌/◌, ◌%◌, ◌-◌, leb, ltb, ℤ, pos, neg_ℤ, ◌+ℤ◌, ◌-ℤ◌, ◌*ℤ◌, nat_abs, get_or, drop}
use mathlib.Core.List.{List, [], ◌∷◌, ◌++◌, map, zip_with}
use Rattle.std.specs.Int.Signed.{le_z, lt_z}
use Rattle.whole.specs.Tests.{eq_z}
use Rattle.whole.specs.Round.{round}
use Rattle.whole.specs.Centred.{centred}
use Rattle.whole.specs.Lists.{tabulate, grid, cut}
use Rattle.whole.specs.Inner.{inner, sizes, column}

-- q/2; every modulus is even
abbrev pub half : ℕ → ℤ
half q = pos (q / 2)

-- x lies in −q/2 to q/2−1
unfoldable pub is_residue : ℕ → ℤ → Bool
is_residue q x = le_z (neg_ℤ (half q)) x && lt_z x (half q)

-- **Key**: s0 = 1, and the sum of |si| is at most L
unfoldable pub is_key : ℕ → List ℤ → Bool
is_key L s = eq_z (get_or s 0 (pos 0)) (pos 1) && leb (sizes s) L

-- **Encrypt** the bit b with mask a and error e: entry 0 is [b·q/2 − <s',a> + e]q, where s' is s without s0; the rest is a
unfoldable pub encrypt : ℕ → List ℤ → ℕ → List ℤ → ℤ → List ℤ
encrypt q s b a e = centred q (pos b *ℤ half q -ℤ inner (drop 1 s) a +ℤ e) ∷ a

-- **Decrypt**: d = [<s,c>]q; 1 if 4|d| > q, else 0
unfoldable pub decrypt : ℕ → List ℤ → List ℤ → ℕ
decrypt q s c = cond (ltb q (4 * nat_abs (centred q (inner s c)))) 1 0

-- **True noise** of c for bit b: |[<s,c> − b·q/2]q|
unfoldable pub noise : ℕ → List ℤ → List ℤ → ℕ → ℕ
noise q s c b = nat_abs (centred q (inner s c -ℤ pos b *ℤ half q))

-- **XOR**: entry by entry [c+d]q, bound B1+B2
unfoldable pub XOR : ℕ → List ℤ → List ℤ → List ℤ
XOR q c d = zip_with (λ x y. centred q (x +ℤ y)) c d

unfoldable pub XOR_bound : ℕ → ℕ → ℕ
XOR_bound B1 B2 = B1 + B2

-- **NOT**: q/2 added to entry 0 and reduced; bound unchanged
unfoldable pub NOT : ℕ → List ℤ → List ℤ
NOT q [] = []
NOT q (x ∷ c) = centred q (x +ℤ half q) ∷ c

unfoldable pub NOT_bound : ℕ → ℕ
NOT_bound B = B

-- **Tensor**: entry u·n+v is [round(2·cu·dv/q)]q
unfoldable pub tensor_entry : ℕ → ℤ → ℤ → ℤ
tensor_entry q x y = centred q (round (pos 2 *ℤ x *ℤ y) q)

unfoldable pub tensor : ℕ → List ℤ → List ℤ → List ℤ
tensor q c d = grid (tensor_entry q) c d

-- **Switching key**: n rows of n² entries, row i column j at i·n²+j
unfoldable pub key_rows : ℕ → List ℤ → List (List ℤ)
key_rows n W = cut (n * n) n W

-- the lent masks are rows 1 to n−1: mask row i lies at (i−1)·n²
unfoldable pub mask_column : ℕ → List ℤ → ℕ → List ℤ
mask_column n masks j = column j (cut (n * n) (n - 1) masks)

-- row 0, column j = u·n+v: [q·su·sv − <s',mask column j> + fj]Q
unfoldable pub row_zero_entry : ℕ → ℕ → List ℤ → List ℤ → List ℤ → ℕ → ℤ
row_zero_entry n q s masks f j =
    centred (q * q)
    (pos q *ℤ get_or s (j / n) (pos 0) *ℤ get_or s (j % n) (pos 0)
    -ℤ inner (drop 1 s) (mask_column n masks j)
    +ℤ get_or f j (pos 0))

unfoldable pub switching_key : ℕ → ℕ → List ℤ → List ℤ → List ℤ → List ℤ
switching_key n q s masks f = tabulate (n * n) (row_zero_entry n q s masks f) ++ masks

-- **Switch**: entry i is [round(S/q)]q, where S is the whole sum over j of tensor entry j times row i column j
unfoldable pub switch_entry : ℕ → List ℤ → List ℤ → ℤ
switch_entry q t row = centred q (round (inner t row) q)

unfoldable pub switch : ℕ → ℕ → List ℤ → List ℤ → List ℤ
switch n q W t = map (switch_entry q t) (key_rows n W)

-- **AND**: tensor, then switch
unfoldable pub AND : ℕ → ℕ → List ℤ → List ℤ → List ℤ → List ℤ
AND n q W c d = switch n q W (tensor q c d)

-- bound of AND, with division rounded down
unfoldable pub AND_bound : ℕ → ℕ → ℕ → ℕ → ℕ → ℕ → ℕ
AND_bound n q L F B1 B2 =
    (2 * q * L * (B1 + B2) + 4 * B1 * B2 + q * (L * L)) / (2 * q)
    + (n * n * F + L) / 2

-- a bound fits the budget when four times it is less than q
unfoldable pub fits : ℕ → ℕ → Bool
fits q B = ltb (4 * B) q
