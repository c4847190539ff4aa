-- Lists of whole numbers: the inner product <s,c>, the sum of the products entry by entry, and the sum of the sizes of a list.
-- The inner product ends with the shorter list, as if it went on in zeros: most laws ask nothing of the lengths.
use Rattle.std.specs.Prelude.{◌≡◌, ℕ, zero, suc, ◌+◌, ◌*◌, ◌≤◌, ◌<◌, ◌-◌, length, get_or, take, drop, ℤ, pos, ◌*ℤ◌, nat_abs, ◌-ℤ◌}
use Rattle.std.proofs.Math.Path.{refl, ap, ap₂}
use Rattle.std.proofs.Common.{sym, ◌∙◌, mul-zero, mul-add, add-mul, mul-le-mul_left, le_of_suc-le-suc, not-suc-le-zero, suc-mul, mul_assoc, mul-le-mul_right, arith, length-take, take-append-drop, take_all, take-add}
use mathlib.Core.List.{List, [], ◌∷◌, ◌++◌, map, map-map, flat_map, zip_with, zip}
use Rattle.std.proofs.Math.Nat.{suc_inj}
use Rattle.std.proofs.lemmas.List.{length-map}
use Rattle.std.proofs.Math.Seq.{take-nil}
use Rattle.std.proofs.Math.IntN.{◌+ℤ◌, +ℤ_idl, +ℤ_assoc, +ℤ_comm, zero-*ℤ, *ℤ-zero, *ℤ_comm}
use Rattle.whole.specs.Size.{size_add, size_mul}
use Rattle.whole.specs.Laws.{sum_sort, *ℤ_distl, *ℤ_distr, *ℤ_assoc, *ℤ_left_comm}
use Rattle.whole.specs.Lists.{tabulate, map_tabulate, Each, nil, cons, zip_with_zip, zip_with_first, zip_with_second, grid, get_or_map, each_get_or, get_or_each, each_take, cut, length_cut, row_ends, get_or_cut_entry}
use Rattle.whole.specs.Ring.{by_ring, quote}

-- <s,c> = s₀·c₀ + s₁·c₁ + ..
unfoldable pub inner : List ℤ → List ℤ → ℤ
inner [] c = pos 0
inner (x ∷ s) [] = pos 0
inner (x ∷ s) (y ∷ c) = x *ℤ y +ℤ inner s c

-- s₀ + s₁ + ..
unfoldable pub sum : List ℤ → ℤ
sum [] = pos 0
sum (x ∷ s) = x +ℤ sum s

-- |s₀| + |s₁| + ..
unfoldable pub sizes : List ℤ → ℕ
sizes [] = 0
sizes (x ∷ s) = nat_abs x + sizes s

-- entry j of each row, and 0 for a row that has none
unfoldable pub column : ℕ → List (List ℤ) → List ℤ
column j rows = map (λ row. get_or row j (pos 0)) rows

-- ---- the inner product

-- it is the sum of the products
pub inner_sum : (s c : List ℤ) → inner s c ≡ sum (zip_with ◌*ℤ◌ s c)
unfolding inner sum zip_with
inner_sum [] c = refl
inner_sum (x ∷ s) [] = refl
inner_sum (x ∷ s) (y ∷ c) = ap (λ z. x *ℤ y +ℤ z) (inner_sum s c)

-- <s,c> = <c,s>
pub inner_comm : (s c : List ℤ) → inner s c ≡ inner c s
unfolding inner
inner_comm [] [] = refl
inner_comm [] (y ∷ c) = refl
inner_comm (x ∷ s) [] = refl
inner_comm (x ∷ s) (y ∷ c) = ap₂ ◌+ℤ◌ (*ℤ_comm x y) (inner_comm s c)

-- with the empty list on the right it is 0
pub inner_nil : (s : List ℤ) → inner s [] ≡ pos 0
unfolding inner
inner_nil [] = refl
inner_nil (x ∷ s) = refl

-- of lists joined at the same place
pub inner_append : (s c s' c' : List ℤ) → length s ≡ length c → inner (s ++ s') (c ++ c') ≡ inner s c +ℤ inner s' c'
unfolding inner
inner_append [] [] s' c' e = sym (+ℤ_idl (inner s' c'))
inner_append [] (y ∷ c) s' c' e = absurd (omega arith)
inner_append (x ∷ s) [] s' c' e = absurd (omega arith)
inner_append (x ∷ s) (y ∷ c) s' c' e = ap (λ z. x *ℤ y +ℤ z) (inner_append s c s' c' (suc_inj e)) ∙ sym (+ℤ_assoc (x *ℤ y) (inner s c) (inner s' c'))

-- one more entry
pub inner_suc : (s c : List ℤ) (i : ℕ) → inner (take (suc i) s) (take (suc i) c) ≡ inner (take i s) (take i c) +ℤ get_or s i (pos 0) *ℤ get_or c i (pos 0)
unfolding inner
inner_suc [] c i = simp (take-nil, zero-*ℤ)
inner_suc (x ∷ s) [] i = simp (take-nil, inner_nil, *ℤ-zero)
inner_suc (x ∷ s) (y ∷ c) zero = +ℤ_comm (x *ℤ y) (pos 0)
inner_suc (x ∷ s) (y ∷ c) (suc i) =
    ap (λ z. x *ℤ y +ℤ z) (inner_suc s c i) ∙ sym (+ℤ_assoc (x *ℤ y) (inner (take i s) (take i c)) (get_or s i (pos 0) *ℤ get_or c i (pos 0)))

-- the first entry apart; s may be empty
pub inner_cons : (s c : List ℤ) (y : ℤ) → inner s (y ∷ c) ≡ get_or s 0 (pos 0) *ℤ y +ℤ inner (drop 1 s) c
unfolding inner
inner_cons [] c y = sym (ap (λ z. z +ℤ pos 0) (zero-*ℤ y))
inner_cons (x ∷ s) c y = refl

-- all entries
pub inner_every : (s c : List ℤ) (i : ℕ) → length s ≤ i → length c ≤ i → inner (take i s) (take i c) ≡ inner s c
inner_every s c i h g = rw (take_all i s, take_all i c)

-- the entries up to e, of which the first i were taken already
pub inner_part : (s c : List ℤ) (i e : ℕ) → i ≤ e → length s ≡ length c
    → inner (take e s) (take e c) ≡ inner (take i s) (take i c) +ℤ inner (take (e - i) (drop i s)) (take (e - i) (drop i c))
inner_part s c i e h same =
    let n : ℕ = e - i in
    let split : e ≡ i + n = omega arith in
    ap (λ k. inner (take k s) (take k c)) split
    ∙ ap₂ inner (take-add i n s) (take-add i n c)
    ∙ inner_append (take i s) (take i c) (take n (drop i s)) (take n (drop i c)) (omega (arith, length-take i s, length-take i c))

-- ---- multiples and sums

-- one entry of a multiple
scale_step : (k x y r : ℤ) → x *ℤ (k *ℤ y) +ℤ k *ℤ r ≡ k *ℤ (x *ℤ y +ℤ r)
scale_step k x y r = simp (*ℤ_distl, *ℤ_left_comm x k y)

-- <s, k·c> = k·<s,c>
pub inner_scale : (k : ℤ) (s c : List ℤ) → inner s (map (λ y. k *ℤ y) c) ≡ k *ℤ inner s c
unfolding inner
inner_scale k [] c = sym (*ℤ-zero k)
inner_scale k (x ∷ s) [] = sym (*ℤ-zero k)
inner_scale k (x ∷ s) (y ∷ c) = ap (λ z. x *ℤ (k *ℤ y) +ℤ z) (inner_scale k s c) ∙ scale_step k x y (inner s c)

-- <k·s, c> = k·<s,c>
pub inner_scale_left : (k : ℤ) (s c : List ℤ) → inner (map (λ x. k *ℤ x) s) c ≡ k *ℤ inner s c
inner_scale_left k s c = inner_comm (map (λ x. k *ℤ x) s) c ∙ inner_scale k c s ∙ ap (λ z. k *ℤ z) (inner_comm c s)

-- one entry of a sum
add_step : (x a b q r : ℤ) → x *ℤ (a +ℤ b) +ℤ (q +ℤ r) ≡ (x *ℤ a +ℤ q) +ℤ (x *ℤ b +ℤ r)
add_step x a b q r = simp *ℤ_distl (simp sum_sort)

-- one entry of a difference
sub_step : (x a b q r : ℤ) → x *ℤ (a -ℤ b) +ℤ (q -ℤ r) ≡ (x *ℤ a +ℤ q) -ℤ (x *ℤ b +ℤ r)
sub_step x a b q r = by_ring (x ∷ a ∷ b ∷ q ∷ r ∷ []) (search quote depth 100 fits 100000) tt

-- of maps over one list: zeros, a multiple, a sum, a difference
module _ {ℓ} {A : Type ℓ} where
  pub inner_map_zero : (s : List ℤ) (ps : List A) → inner s (map (λ p. pos 0) ps) ≡ pos 0
  unfolding inner
  inner_map_zero [] ps = refl
  inner_map_zero (x ∷ s) [] = refl
  inner_map_zero (x ∷ s) (p ∷ ps) = ap₂ ◌+ℤ◌ (*ℤ-zero x) (inner_map_zero s ps)

  pub inner_map_scale : (k : ℤ) (f : A → ℤ) (s : List ℤ) (ps : List A) → inner s (map (λ p. k *ℤ f p) ps) ≡ k *ℤ inner s (map f ps)
  inner_map_scale k f s ps = ap (inner s) (sym (map-map (λ y. k *ℤ y) f ps)) ∙ inner_scale k s (map f ps)

  pub inner_map_add : (f g : A → ℤ) (s : List ℤ) (ps : List A) → inner s (map (λ p. f p +ℤ g p) ps) ≡ inner s (map f ps) +ℤ inner s (map g ps)
  unfolding inner
  inner_map_add f g [] ps = refl
  inner_map_add f g (x ∷ s) [] = refl
  inner_map_add f g (x ∷ s) (p ∷ ps) =
      ap (λ z. x *ℤ (f p +ℤ g p) +ℤ z) (inner_map_add f g s ps) ∙ add_step x (f p) (g p) (inner s (map f ps)) (inner s (map g ps))

  pub inner_map_sub : (f g : A → ℤ) (s : List ℤ) (ps : List A) → inner s (map (λ p. f p -ℤ g p) ps) ≡ inner s (map f ps) -ℤ inner s (map g ps)
  unfolding inner
  inner_map_sub f g [] ps = refl
  inner_map_sub f g (x ∷ s) [] = refl
  inner_map_sub f g (x ∷ s) (p ∷ ps) =
      ap (λ z. x *ℤ (f p -ℤ g p) +ℤ z) (inner_map_sub f g s ps) ∙ sub_step x (f p) (g p) (inner s (map f ps)) (inner s (map g ps))

-- of two lists taken entry by entry: a sum
pub inner_zip_with_add {ℓ κ} : {A : Type ℓ} {B : Type κ} (f g : A → B → ℤ) (s : List ℤ) (c : List A) (d : List B)
    → inner s (zip_with (λ x y. f x y +ℤ g x y) c d) ≡ inner s (zip_with f c d) +ℤ inner s (zip_with g c d)
inner_zip_with_add f g s c d = simp zip_with_zip (inner_map_add (λ p. f p.0 p.1) (λ p. g p.0 p.1) s (zip c d))

-- <s, c + d> = <s,c> + <s,d>
pub inner_zip_add : (s c d : List ℤ) → length c ≡ length d → inner s (zip_with ◌+ℤ◌ c d) ≡ inner s c +ℤ inner s d
inner_zip_add s c d e = inner_zip_with_add (λ x y. x) (λ x y. y) s c d ∙ rw (zip_with_first c d, zip_with_second c d)

-- ---- all products of two lists

-- <x·t, y·d> = x·y·<t,d>
scale_both : (x y : ℤ) (t d : List ℤ) → inner (map (λ a. x *ℤ a) t) (map (λ b. y *ℤ b) d) ≡ x *ℤ y *ℤ inner t d
scale_both x y t d = inner_scale_left x t (map (λ b. y *ℤ b) d) ∙ ap (λ z. x *ℤ z) (inner_scale y t d) ∙ sym (*ℤ_assoc x y (inner t d))

-- <s⊗t, c⊗d> = <s,c>·<t,d>
pub inner_grid : (s c t d : List ℤ) → length t ≡ length d → inner (grid ◌*ℤ◌ s t) (grid ◌*ℤ◌ c d) ≡ inner s c *ℤ inner t d
unfolding inner grid flat_map
inner_grid [] c t d e = sym (zero-*ℤ (inner t d))
inner_grid (x ∷ s) [] t d e = inner_nil (grid ◌*ℤ◌ (x ∷ s) t) ∙ sym (zero-*ℤ (inner t d))
inner_grid (x ∷ s) (y ∷ c) t d e =
    inner_append (map (λ a. x *ℤ a) t) (map (λ b. y *ℤ b) d) (grid ◌*ℤ◌ s t) (grid ◌*ℤ◌ c d) (simp length-map e)
    ∙ ap₂ ◌+ℤ◌ (scale_both x y t d) (inner_grid s c t d e)
    ∙ sym (*ℤ_distr (x *ℤ y) (inner s c) (inner t d))

-- ---- sizes

-- of lists joined
pub sizes_append : (s t : List ℤ) → sizes (s ++ t) ≡ sizes s + sizes t
unfolding sizes
sizes_append [] t = omega arith
sizes_append (x ∷ s) t = omega (arith, sizes_append s t)

-- one more entry
pub sizes_suc : (s : List ℤ) (i : ℕ) → sizes (take (suc i) s) ≡ sizes (take i s) + nat_abs (get_or s i (pos 0))
unfolding sizes
sizes_suc [] i = simp take-nil
sizes_suc (x ∷ s) zero = omega arith
sizes_suc (x ∷ s) (suc i) = omega (arith, sizes_suc s i)

-- the first entries have no more than all
pub sizes_take : (s : List ℤ) (i : ℕ) → sizes (take i s) ≤ sizes s
sizes_take s i = omega (arith, sizes_append (take i s) (drop i s), ap sizes (take-append-drop i s))

-- and so have the last
pub sizes_drop : (s : List ℤ) (i : ℕ) → sizes (drop i s) ≤ sizes s
sizes_drop s i = omega (arith, sizes_append (take i s) (drop i s), ap sizes (take-append-drop i s))

-- no entry is larger than all sizes together
pub entry_size : (s : List ℤ) (i : ℕ) → nat_abs (get_or s i (pos 0)) ≤ sizes s
entry_size s i = omega (arith, sizes_suc s i, sizes_take s (suc i))

-- at most m for each entry where none is above m
pub sizes_most : {m : ℕ} {s : List ℤ} → Each (λ x. nat_abs x ≤ m) s → sizes s ≤ length s * m
unfolding sizes
sizes_most nil = omega arith
sizes_most {m} (cons {x = x} {xs = s} h e) = omega (arith, sizes_most e, suc-mul (length s) m)

-- of a multiple
pub sizes_scale : (k : ℤ) (s : List ℤ) → sizes (map (λ x. k *ℤ x) s) ≡ nat_abs k * sizes s
unfolding sizes
sizes_scale k [] = sym (mul-zero (nat_abs k))
sizes_scale k (x ∷ s) = omega (arith, size_mul k x, sizes_scale k s, mul-add (nat_abs k) (nat_abs x) (sizes s))

-- of all products of two lists
pub sizes_grid : (s t : List ℤ) → sizes (grid ◌*ℤ◌ s t) ≡ sizes s * sizes t
unfolding sizes grid flat_map
sizes_grid [] t = omega arith
sizes_grid (x ∷ s) t =
    omega (arith, sizes_append (map (λ y. x *ℤ y) t) (grid ◌*ℤ◌ s t), sizes_scale x t, sizes_grid s t, add-mul (nat_abs x) (sizes s) (sizes t))

-- of entries that are at most m in size
pub sizes_each : {m : ℕ} {c : List ℤ} → Each (λ y. nat_abs y ≤ m) c → sizes c ≤ length c * m
unfolding sizes
sizes_each nil = omega arith
sizes_each {m} (cons {xs = c} h e) = omega (arith, sizes_each e, suc-mul (length c) m)

-- one entry of a bound
size_step : (x y r : ℤ) (n m : ℕ) → nat_abs y ≤ m → nat_abs r ≤ n * m → nat_abs (x *ℤ y +ℤ r) ≤ (nat_abs x + n) * m
size_step x y r n m h k = omega (arith, size_add (x *ℤ y) r, size_mul x y, mul-le-mul_left (nat_abs x) h, add-mul (nat_abs x) n m)

-- |<s,c>| is at most (|s₀| + |s₁| + ..)·m where no |cᵢ| is above m
pub inner_size : {m : ℕ} (s : List ℤ) {c : List ℤ} → Each (λ y. nat_abs y ≤ m) c → nat_abs (inner s c) ≤ sizes s * m
unfolding inner sizes
inner_size [] e = omega arith
inner_size (x ∷ s) nil = omega arith
inner_size {m} (x ∷ s) (cons {x = y} {xs = c} h e) = size_step x y (inner s c) (sizes s) m h (inner_size s e)

-- and where no |sᵢ| is above k either, at most k·m for each entry of s
pub inner_most : {k m : ℕ} {s c : List ℤ} → Each (λ x. nat_abs x ≤ k) s → Each (λ y. nat_abs y ≤ m) c → nat_abs (inner s c) ≤ length s * (k * m)
inner_most {k} {m} {s} d e =
    omega (arith, inner_size s e, mul-le-mul_right m (sizes_most d), mul_assoc (length s) k m)

-- the first i entries and one more: what a sum that grows by one product at a time stays within
pub inner_turn : {m : ℕ} (s : List ℤ) {c : List ℤ} → Each (λ y. nat_abs y ≤ m) c → (i : ℕ) → i < length c
    → nat_abs (inner (take i s) (take i c)) + nat_abs (get_or s i (pos 0) *ℤ get_or c i (pos 0)) ≤ sizes s * m
inner_turn {m} s {c} e i h =
    let x : ℤ = get_or s i (pos 0) in
    let y : ℤ = get_or c i (pos 0) in
    omega (
      arith,
      inner_size (take i s) (each_take i e),
      size_mul x y,
      mul-le-mul_left (nat_abs x) (each_get_or e i (pos 0) h),
      add-mul (sizes (take i s)) (nat_abs x) m,
      sizes_suc s i,
      mul-le-mul_right m (sizes_take s (suc i)),
      ap (λ n. n * m) (sizes_suc s i),
    )

-- ---- tables

-- one entry for each row
pub length_column : (j : ℕ) (rows : List (List ℤ)) → length (column j rows) ≡ length rows
unfolding column
length_column j rows = length-map rows (λ row. get_or row j (pos 0))

-- of a list in k rows of n entries: entry i of column j lies at i·n+j
pub get_or_column_cut : (n k : ℕ) (xs : List ℤ) (i j : ℕ) → i < k → j < n → get_or (column j (cut n k xs)) i (pos 0) ≡ get_or xs (i * n + j) (pos 0)
unfolding column
get_or_column_cut n k xs i j h g =
    get_or_map (λ row. get_or row j (pos 0)) (cut n k xs) i [] (pos 0) (rw length_cut h) ∙ get_or_cut_entry n k xs i j [] (pos 0) h g

-- and a column has k entries, each of which is one of the list
pub length_column_cut : (n k : ℕ) (xs : List ℤ) (j : ℕ) → length (column j (cut n k xs)) ≡ k
length_column_cut n k xs j = length_column j (cut n k xs) ∙ length_cut n k xs

pub each_column_cut : {P : ℤ → Type 0} (n k : ℕ) {xs : List ℤ} (j : ℕ) → k * n ≤ length xs → j < n → Each P xs → Each P (column j (cut n k xs))
each_column_cut {P} n k {xs} j h g e =
    get_or_each (pos 0)
    (λ i l.
    let b : i < k = rw length_column_cut at l in
    rw (get_or_column_cut n k xs i j b g) (each_get_or e (i * n + j) (pos 0) (omega (arith, row_ends n k i b))))

-- a sum of sums is the same in either order
pub inner_swap {ℓ κ} : {A : Type ℓ} {B : Type κ} (f : A → B → ℤ) (s t : List ℤ) (ps : List A) (qs : List B)
    → inner s (map (λ p. inner t (map (f p) qs)) ps) ≡ inner t (map (λ q. inner s (map (λ p. f p q) ps)) qs)
unfolding inner
inner_swap f [] t ps qs = sym (inner_map_zero t qs)
inner_swap f (x ∷ s) t [] qs = sym (inner_map_zero t qs)
inner_swap f (x ∷ s) t (p ∷ ps) qs =
    ap₂ ◌+ℤ◌ (sym (inner_map_scale x (f p) t qs)) (inner_swap f s t ps qs)
    ∙ sym (inner_map_add (λ q. x *ℤ f p q) (λ q. inner s (map (λ p. f p q) ps)) t qs)

-- <t,c> reads n entries of c, and 0 for those that it has not, where t has no more
pub inner_tabulate : (n : ℕ) (t c : List ℤ) → length t ≤ n → inner t (tabulate n (λ j. get_or c j (pos 0))) ≡ inner t c
unfolding inner tabulate
inner_tabulate n [] c h = refl
inner_tabulate zero (x ∷ t) c h = absurd (not-suc-le-zero h)
inner_tabulate (suc n) (x ∷ t) [] h = ap₂ ◌+ℤ◌ (*ℤ-zero x) (inner_tabulate n t [] (le_of_suc-le-suc h) ∙ inner_nil t)
inner_tabulate (suc n) (x ∷ t) (y ∷ c) h = ap (λ z. x *ℤ y +ℤ z) (inner_tabulate n t c (le_of_suc-le-suc h))

-- the sum of a table by rows is its sum by columns: <s, the <t,row> of the rows> = <t, the <s,column> of the first n columns>
pub rows_columns : (n : ℕ) (s t : List ℤ) (rows : List (List ℤ)) → length t ≤ n
    → inner s (map (inner t) rows) ≡ inner t (tabulate n (λ j. inner s (column j rows)))
unfolding column
rows_columns n s t rows h = simp (map_tabulate, inner_tabulate) at (inner_swap (λ row j. get_or row j (pos 0)) s t rows (tabulate n (λ j. j)))
