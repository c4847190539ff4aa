-- What the maker of a switching key works by once its number is 0 (`make_key_ready`), and what it writes: that row 0 is filled entry by entry (`entry_at`), and
-- that a key is row 0 and then the masks (`two_parts`). Assumes nothing.
use Rattle.std.proofs.Common.{◌≡◌, refl, sym, ap, ap₂, ◌∙◌, List, ◌++◌, append-nil, ℕ, suc, ◌+◌, ◌*◌, ◌-◌, ◌/◌, ◌%◌, ◌≤◌, ◌<◌, le_trans, suc-mul, arith, ℤ, pos, ◌+ℤ◌, ◌-ℤ◌, ◌*ℤ◌, length, get_or, take, drop, length-take, length-drop, length-append, drop_of_length-le, take_at, drop_at}
use borrow.Rule.Slice.PartMut.{put_mid}
use Rattle.whole.specs.Tests.{or_left, or_right}
use Rattle.whole.specs.Centred.{centred}
use Rattle.whole.specs.Lists.{tabulate, get_or_tabulate, get_or_each, each_get_or}
use Rattle.whole.specs.Inner.{inner}
use Rattle.refusal.specs.First.{first_of, Clear}
use Rattle.refusal.specs.Order.{position_in, order, position, in_order}
use Rattle.refusal.proofs.Order.{first_clear}
use Rattle.refusal.specs.Parameters.{InRange}
use Rattle.scheme.specs.Arithmetic.{mask_column, row_zero_entry}
use Rattle.scheme.specs.Calls.{MakeKeyLoans, make_key_rows}
use Rattle.scheme.specs.Passed.{params_in_range, length_is, key_within, entries_inside, errors_within}
use Rattle.scheme.specs.Loans.{Modulus, UpTo, square}
use Rattle.scheme.specs.Residues.{residues_upto}
use Rattle.keys.specs.Chain.{params_modulus}
use Rattle.switchingkey.specs.Ready.{FillRowZeroReady, MakeKeyReady}

-- ---- what holds where the number is 0

-- a row, and the others
one_more : (n m : ℕ) → 1 ≤ n → n * m ≡ m + (n - 1) * m
one_more n m h =
    let e : n ≡ suc (n - 1) = omega arith in
    omega (arith, ap (λ k. k * m) e, suc-mul (n - 1) m)

-- errors within F are within the largest F
upto_more : {m M : ℕ} {xs : List ℤ} → m ≤ M → UpTo m xs → UpTo M xs
upto_more h e = get_or_each (pos 0) (λ i l. le_trans (each_get_or e i (pos 0) l) h)

pub make_key_ready : (a : MakeKeyLoans) → first_of (make_key_rows a) ≡ 0 → MakeKeyReady a
unfolding position_in order position in_order make_key_rows
make_key_ready a e =
    let t : Clear (make_key_rows a) = first_clear (make_key_rows a) refl e in
    let r : InRange a.p = params_in_range a.p t.0.0 in
    let n = a.p.n in
    let key : length a.key ≡ a.p.n = length_is (length a.key) n (search (or_left, or_right, t.1.0.0) depth 8) in
    let masks : length a.masks ≡ (a.p.n - 1) * (a.p.n * a.p.n) = length_is (length a.masks) ((n - 1) * (n * n)) (search (or_left, or_right, t.1.0.0) depth 8) in
    let errors : length a.errors ≡ a.p.n * a.p.n = length_is (length a.errors) (n * n) (search (or_left, or_right, t.1.0.0) depth 8) in
    let room : length a.result ≡ a.p.n * (a.p.n * a.p.n) = length_is (length a.result) (n * (n * n)) (search (or_left, or_right, t.1.0.0) depth 8) in
    let m : Modulus a.p.q = params_modulus r in
    record {
      modulus = m;
      count = key;
      row = record {
        low = omega (arith, r.n_low);
        high = omega (arith, r.n_high);
        key_small = omega (arith, r.l_high, key_within a.p.l a.key t.1.1.0.0);
        masks_long = rw key masks;
        masks_small = residues_upto (a.p.q * a.p.q) 549755813888 a.masks (square m).high (entries_inside (a.p.q * a.p.q) a.masks t.1.1.1.0.0);
      };
      errors_long = rw key errors;
      errors_small = upto_more r.f_high (errors_within a.p.f a.errors t.1.1.1.1.0.0);
      room = room ∙ one_more n (n * n) (omega (arith, r.n_low)) ∙ sym (ap₂ ◌+◌ errors masks);
    }

-- row 0 may then be filled
pub fill_ready : {a : MakeKeyLoans} → MakeKeyReady a → (out : List ℤ) → length out ≡ length a.errors → FillRowZeroReady a.p.q a.key a.masks a.errors out
fill_ready r out e = record { row = r.row; errors_long = r.errors_long; errors_small = r.errors_small; room = e ∙ r.errors_long }

-- ---- what is written

-- what `row_zero_entry` returns for the error of column j is entry j of row 0
pub entry_at : (n q : ℕ) (s masks f : List ℤ) {r e : ℤ} (j : ℕ) → j < n * n → e ≡ get_or f j (pos 0)
    → r ≡ centred (q * q) (pos q *ℤ get_or s (j / n) (pos 0) *ℤ get_or s (j % n) (pos 0) -ℤ inner (drop 1 s) (mask_column n masks j) +ℤ e)
    → r ≡ get_or (tabulate (n * n) (row_zero_entry n q s masks f)) j (pos 0)
unfolding row_zero_entry
entry_at n q s masks f j h e v = v ∙ rw e (sym (get_or_tabulate (n * n) (row_zero_entry n q s masks f) j (pos 0) h))

-- of a list of two parts the second is what lies after the first k entries
pub second_part : {A : Type 0} (first rest : List A) (k : ℕ) → length first ≡ k
    → length (take (length (first ++ rest) - k) (drop k (first ++ rest))) ≡ length rest
second_part first rest k e =
    omega (
      arith,
      length-take (length (first ++ rest) - k) (drop k (first ++ rest)),
      length-drop k (first ++ rest),
      length-append first rest,
    )

-- a list of two parts: the first was written over the first k entries, and now the second over the others
pub two_parts : {A : Type 0} (first second rest : List A) (k : ℕ) → length first ≡ k
    → put_mid k (length (first ++ rest) - k) (first ++ rest) second ≡ first ++ second
two_parts first second rest k e =
    let l : length rest ≤ length (first ++ rest) - k = omega (arith, length-append first rest) in
    rw (take_at first rest k, drop_at first rest k, drop_of_length-le rest, append-nil)
