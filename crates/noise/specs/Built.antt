-- What it means that a list W is a switching key built for s with errors within F, and that this is exactly what the maker
-- writes: from s, any masks that are residues of q², and any errors fj of size at most F.
use Rattle.std.specs.Prelude.{◌≡◌, refl, true, false, take, ◌+ℤ◌, ◌-ℤ◌, ◌*ℤ◌, nat_abs}
use Rattle.std.proofs.Math.Path.{sym}
use Rattle.std.proofs.Common.{ap, ap₂, ◌∙◌, add-mul, mul-le-mul, le_trans, not-suc-le-zero, arith, get_or-take}
use mathlib.Core.List.{List, [], ◌∷◌, ◌++◌}
use Prim.Native.Nat.{ℕ, zero, suc, ◌+◌, ◌*◌, ◌/◌, ◌%◌, ◌-◌, ◌≤◌, ◌<◌}
use Rattle.std.proofs.Math.ListN.{length, get_or, drop, length-append, length-drop, take-append-drop, get_or-append}
use Rattle.std.proofs.Math.IntN.{ℤ, pos}
use Rattle.whole.specs.Tests.{and_both, or_left, or_right}
use Rattle.whole.specs.Laws.{one-*ℤ}
use Rattle.whole.specs.Ring.{by_ring, quote}
use Rattle.whole.specs.Centred.{centred}
use Rattle.whole.proofs.Centred.{centred_le, centred_add}
use Rattle.whole.specs.Lists.{tabulate, length_tabulate, get_or_tabulate, tabulate_cong, tabulate_take, Each, each_get_or, each_tabulate, every, every_append, every_get_or, every_drop, each_every, cut}
use Rattle.whole.specs.Inner.{inner, column}
use Rattle.refusal.specs.Answer.{Answer}
use Rattle.refusal.specs.First.{first_of, Clear, first_row, first_none}
use Rattle.refusal.specs.Order.{position_in, order, position, in_order}
use Rattle.refusal.proofs.Order.{first_clear}
use Rattle.scheme.specs.Arithmetic.{is_residue, key_rows, mask_column, row_zero_entry, switching_key}
use Rattle.scheme.specs.Calls.{differs, key_check_loans, key_check_rows, key_check_answer, MakeKeyLoans, make_key_rows, make_key_answer, MakeKeyPromise}
use Rattle.scheme.specs.Wording.{even_square, centred_residue, residue_centred, key_masks}

-- the error of column j = u·n+v under s: what <s, column j> is beside q·su·sv, as a residue of q²
abbrev pub column_error : ℕ → ℕ → List ℤ → List ℤ → ℕ → ℤ
column_error n q s W j = centred (q * q) (inner s (column j (key_rows n W)) -ℤ pos q *ℤ get_or s (j / n) (pos 0) *ℤ get_or s (j % n) (pos 0))

-- W is a switching key built for s with errors within F: n rows of n² residues of q², whose n² columns have errors of at most F under s
pub record BuiltFor (n q F : ℕ) (s W : List ℤ) : Type 0 where
  pub long : length W ≡ n * (n * n)
  pub residues : every (is_residue (q * q)) W ≡ true
  pub errors : (j : ℕ) → j < n * n → nat_abs (column_error n q s W j) ≤ F

-- the maker writes W: from s, n−1 rows of masks that are residues of q², and n² errors of at most F
pub record MadeFor (n q F : ℕ) (s W : List ℤ) : Type 0 where
  pub masks : List ℤ
  pub masks_long : length masks ≡ (n - 1) * (n * n)
  pub masks_residues : every (is_residue (q * q)) masks ≡ true
  pub f : List ℤ
  pub f_long : length f ≡ n * n
  pub f_small : Each (λ x. nat_abs x ≤ F) f
  pub made : W ≡ switching_key n q s masks f

-- ---- numbers

-- n rows of k entries: the first, and the n−1 below it
rows_below : (n k : ℕ) → 0 < n → n * k ≡ k + (n - 1) * k
rows_below n k h =
    let e : n ≡ n - 1 + 1 = omega arith in
    omega (arith, ap (λ m. m * k) e, add-mul (n - 1) 1 k)

-- ---- one column

-- as s0 is 1, <s, column j> is the entry of row 0 and <s', the mask column j>
key_column : (n : ℕ) (s W : List ℤ) (j : ℕ) → 0 < n → get_or s 0 (pos 0) ≡ pos 1 → j < n * n
    → inner s (column j (key_rows n W)) ≡ get_or W j (pos 0) +ℤ inner (drop 1 s) (mask_column n (drop (n * n) W) j)
unfolding key_rows mask_column column cut inner
key_column zero s W j h one inside = absurd (not-suc-le-zero h)
key_column (suc m) [] W j h one inside = absurd (omega (arith, ap nat_abs one))
key_column (suc m) (x ∷ s) W j h one inside =
    let N : ℕ = suc m * suc m in
    let below : suc m - 1 ≡ m = omega arith in
    ap₂ ◌+ℤ◌
    (ap (λ z. z *ℤ get_or (take N W) j (pos 0)) one ∙ one-*ℤ (get_or (take N W) j (pos 0)) ∙ get_or-take N W j (pos 0) inside)
    (ap (λ (k : ℕ). inner s (column j (cut N k (drop N W)))) (sym below))

-- from the error of a column back to its entry of row 0: [y − i + [w + i − y]] = [w]
from_error : (Q : ℕ) (w i y : ℤ) → 0 < Q → centred Q (y -ℤ i +ℤ centred Q (w +ℤ i -ℤ y)) ≡ centred Q w
from_error Q w i y h =
    centred_add Q (y -ℤ i) (w +ℤ i -ℤ y) h ∙ ap (centred Q) (by_ring (w ∷ i ∷ y ∷ []) (search quote depth 100 fits 100000) tt)

-- and from that entry to the error: [[y − i + f] + i − y] = [f]
to_error : (Q : ℕ) (f i y : ℤ) → 0 < Q → centred Q (centred Q (y -ℤ i +ℤ f) +ℤ i -ℤ y) ≡ centred Q f
to_error Q f i y h =
    ap (centred Q) (by_ring (centred Q (y -ℤ i +ℤ f) ∷ i ∷ y ∷ []) (search quote depth 100 fits 100000) tt)
    ∙ centred_add Q (i -ℤ y) (y -ℤ i +ℤ f) h
    ∙ ap (centred Q) (by_ring (f ∷ i ∷ y ∷ []) (search quote depth 100 fits 100000) tt)

-- ---- the two are the same, for every n above 0, every even q, every F, and every row s that begins with 1

-- row 0 of what the maker writes
made_row_zero : (n q : ℕ) (s masks f : List ℤ) (j : ℕ) → j < n * n → get_or (switching_key n q s masks f) j (pos 0) ≡ row_zero_entry n q s masks f j
unfolding switching_key
made_row_zero n q s masks f j inside =
    get_or-append (tabulate (n * n) (row_zero_entry n q s masks f)) masks (pos 0) j (rw length_tabulate inside)
    ∙ get_or_tabulate (n * n) (row_zero_entry n q s masks f) j (pos 0) inside

module _ (n q : ℕ) (s : List ℤ) (some : 0 < n) (h : 0 < q) (even : q ≡ 2 * (q / 2)) (one : get_or s 0 (pos 0) ≡ pos 1) where
  -- row 0 of W is what the maker writes from the other rows of W and the errors of its columns
  row_zero : (W : List ℤ) (j : ℕ) → j < n * n → is_residue (q * q) (get_or W j (pos 0)) ≡ true
      → row_zero_entry n q s (drop (n * n) W) (tabulate (n * n) (column_error n q s W)) j ≡ get_or W j (pos 0)
  unfolding row_zero_entry
  row_zero W j inside residue =
      let y : ℤ = pos q *ℤ get_or s (j / n) (pos 0) *ℤ get_or s (j % n) (pos 0) in
      let i : ℤ = inner (drop 1 s) (mask_column n (drop (n * n) W) j) in
      rw (get_or_tabulate (n * n) (column_error n q s W) j (pos 0), key_column n s W j)
      (from_error (q * q) (get_or W j (pos 0)) i y (mul-le-mul h h) ∙ residue_centred (q * q) (get_or W j (pos 0)) (mul-le-mul h h) (even_square q even) residue)

  -- the errors of what the maker writes are those that it was lent, as residues
  made_error : (masks f : List ℤ) (j : ℕ) → j < n * n → column_error n q s (switching_key n q s masks f) j ≡ centred (q * q) (get_or f j (pos 0))
  unfolding row_zero_entry
  made_error masks f j inside =
      let y : ℤ = pos q *ℤ get_or s (j / n) (pos 0) *ℤ get_or s (j % n) (pos 0) in
      let i : ℤ = inner (drop 1 s) (mask_column n masks j) in
      rw (key_column n s (switching_key n q s masks f) j, made_row_zero n q s masks f j, key_masks n q s masks f)
      (to_error (q * q) (get_or f j (pos 0)) i y (mul-le-mul h h))

  -- a key that is built for s is one that the maker writes ..
  pub built→made : (F : ℕ) (W : List ℤ) → BuiltFor n q F s W → MadeFor n q F s W
  unfolding switching_key
  built→made F W b =
      let N : ℕ = n * n in
      let err : ℕ → ℤ = column_error n q s W in
      let enough : N ≤ length W = omega (arith, b.long, rows_below n N some) in
      record {
        masks = drop N W;
        masks_long = omega (arith, length-drop N W, b.long, rows_below n N some);
        masks_residues = every_drop (is_residue (q * q)) N W b.residues;
        f = tabulate N err;
        f_long = length_tabulate N err;
        f_small = each_tabulate N err b.errors;
        made = sym
            (ap (λ (r : List ℤ). r ++ drop N W)
            (tabulate_cong N (row_zero_entry n q s (drop N W) (tabulate N err)) (λ j. get_or W j (pos 0))
            (λ j inside. row_zero W j inside (every_get_or (is_residue (q * q)) W j (pos 0) b.residues (omega arith)))
            ∙ tabulate_take N W (pos 0) enough)
            ∙ take-append-drop N W);
      }

  -- .. and the other way round
  pub made→built : (F : ℕ) (W : List ℤ) → MadeFor n q F s W → BuiltFor n q F s W
  unfolding switching_key row_zero_entry
  made→built F W m =
      let N : ℕ = n * n in
      let masks : List ℤ = m.masks in
      let row : ℕ → ℤ = row_zero_entry n q s masks m.f in
      record {
        long = rw m.made (omega (arith, length-append (tabulate N row) masks, length_tabulate N row, m.masks_long, rows_below n N some));
        residues = rw m.made
            (every_append (is_residue (q * q)) (tabulate N row) masks
            ∙ and_both (each_every (each_tabulate N row (λ j inside. centred_residue (q * q) _ (mul-le-mul h h) (even_square q even)))) m.masks_residues);
        errors = λ j inside.
            rw (m.made, made_error masks m.f j)
            (le_trans (centred_le (q * q) (get_or m.f j (pos 0)) (mul-le-mul h h)) (each_get_or m.f_small j (pos 0) (rw m.f_long inside)));
      }

-- ---- through the call: where the maker answers 0, what it left is built for the key that it was lent

-- and that key passes the key check
pub maker_key : {a : MakeKeyLoans} {r : Answer} {W : List ℤ} → MakeKeyPromise a r W → r.number ≡ 0 → (key_check_answer (key_check_loans a.p a.key)).number ≡ 0
unfolding position_in order position in_order make_key_rows make_key_answer key_check_rows key_check_answer
maker_key {a} promise none =
    let done : first_of (make_key_rows a) ≡ 0 = sym (ap (λ (x : Answer). x.number) promise.answer) ∙ none in
    let clear : Clear (make_key_rows a) = first_clear (make_key_rows a) refl done in
    let lengths = clear.1.0.0 in
    let long : differs (length a.key) a.p.n ≡ false = search (or_left, or_right, lengths) depth 10 in
    simp (first_row, first_none, clear.0.0, long, clear.1.1.0.0)
