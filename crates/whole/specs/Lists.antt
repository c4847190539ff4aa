-- Lists of anything: a list given by its entries (`tabulate`), a statement of every entry (`Each`), a test of every entry (`every`),
-- the same by a count of those that fail (`Counted`), a list filled entry after entry (`Filled`),
-- two lists entry by entry (`zip_with`, the library's), all pairs of two lists (`grid`), and a list in rows (`cut`, `flatten`).
-- An entry is read by `get_or xs i d`; where i is below the length the default d does not matter, so the laws hold for any.
use Rattle.std.specs.Prelude.{◌≡◌, Bool, true, false, cond, ◌&&◌, eqb, get_or, drop, set}
use Rattle.std.specs.List.{list_all}
use Rattle.std.proofs.lemmas.List.Recursion.{same_from_clauses}
use Rattle.std.proofs.Math.Path.{refl, sym, ap, ap₂}
use Rattle.std.proofs.Common.{◌∙◌, zero-add, add-zero, le_of_suc-le-suc, not-suc-le-zero, zero-lt-suc, mul-le-mul_right, div-add-mod', div-lt_iff_lt-mul, mod-lt, add-one, length-set, drop_of_length-le, length-take, take-append-drop, get_or-take, get_or-drop, length-take-le, take-suc, take_all, take-take, take-add, take_at, drop_at, drop-drop, get_or-append-add, ne_eqb}
use Rattle.std.proofs.Math.Bool.{and-true, and-false, and_assoc, and-eq-true_iff}
use mathlib.Core.List.{List, [], ◌∷◌, ◌++◌, append-nil, map, map-map, map-append, flat_map, flatten, zip_with, zip, append_assoc}
use Prim.Native.Nat.{ℕ, zero, suc, ◌+◌, ◌*◌, ◌≤◌, ◌<◌, suc-le-suc, ◌-◌, ◌/◌, ◌%◌}
use Rattle.std.proofs.Math.Nat.{add_comm, zero-mul, suc-mul, suc_inj, sub-zero}
use native.Mathlib.Omega.{arith}
use Rattle.std.proofs.Math.ListN.{length, take, length-append, length-map, length-drop, get_or-append}
use Rattle.std.proofs.Math.Seq.{paste-suc, length_front}

-- ---- a list given by its entries

module _ {ℓ} {A : Type ℓ} where
  -- f 0, f 1, .., f (n−1)
  unfoldable pub tabulate : ℕ → (ℕ → A) → List A
  tabulate zero f = []
  tabulate (suc n) f = f zero ∷ tabulate n (λ k. f (suc k))

  -- it has n entries
  pub length_tabulate : (n : ℕ) (f : ℕ → A) → length (tabulate n f) ≡ n
  unfolding tabulate
  length_tabulate zero f = refl
  length_tabulate (suc n) f = ap suc (length_tabulate n (λ k. f (suc k)))

  -- entry i is f i
  pub get_or_tabulate : (n : ℕ) (f : ℕ → A) (i : ℕ) (d : A) → i < n → get_or (tabulate n f) i d ≡ f i
  unfolding tabulate
  get_or_tabulate zero f i d h = absurd (not-suc-le-zero h)
  get_or_tabulate (suc n) f zero d h = refl
  get_or_tabulate (suc n) f (suc i) d h = get_or_tabulate n (λ k. f (suc k)) i d (le_of_suc-le-suc h)

  -- one more entry, at the end
  pub tabulate_suc : (n : ℕ) (f : ℕ → A) → tabulate (suc n) f ≡ tabulate n f ++ (f n ∷ [])
  unfolding tabulate
  tabulate_suc zero f = refl
  tabulate_suc (suc n) f = ap (λ (r : List A). f zero ∷ r) (tabulate_suc n (λ k. f (suc k)))

  -- only the values below n matter
  pub tabulate_cong : (n : ℕ) (f g : ℕ → A) → ((i : ℕ) → i < n → f i ≡ g i) → tabulate n f ≡ tabulate n g
  unfolding tabulate
  tabulate_cong zero f g e = refl
  tabulate_cong (suc n) f g e =
      ap₂ {C = List A} ◌∷◌ (e zero (zero-lt-suc n)) (tabulate_cong n (λ k. f (suc k)) (λ k. g (suc k)) (λ i h. e (suc i) (suc-le-suc h)))

  -- a list is given by its own entries
  pub tabulate_get_or : (xs : List A) (d : A) → tabulate (length xs) (λ i. get_or xs i d) ≡ xs
  unfolding tabulate
  tabulate_get_or [] d = refl
  tabulate_get_or (x ∷ xs) d = ap (λ (r : List A). x ∷ r) (tabulate_get_or xs d)

  -- and so are its first n entries
  pub tabulate_take : (n : ℕ) (xs : List A) (d : A) → n ≤ length xs → tabulate n (λ i. get_or xs i d) ≡ take n xs
  unfolding tabulate
  tabulate_take zero xs d h = refl
  tabulate_take (suc n) [] d h = absurd (not-suc-le-zero h)
  tabulate_take (suc n) (x ∷ xs) d h = ap (λ (r : List A). x ∷ r) (tabulate_take n xs d (le_of_suc-le-suc h))

module _ {ℓ κ} {A : Type ℓ} {B : Type κ} where
  -- g of every entry
  pub map_tabulate : (g : A → B) (n : ℕ) (f : ℕ → A) → map g (tabulate n f) ≡ tabulate n (λ k. g (f k))
  unfolding tabulate
  map_tabulate g zero f = refl
  map_tabulate g (suc n) f = ap (λ (r : List B). g (f zero) ∷ r) (map_tabulate g n (λ k. f (suc k)))

  -- entry i of a map is f of entry i
  pub get_or_map : (f : A → B) (xs : List A) (i : ℕ) (a : A) (b : B) → i < length xs → get_or (map f xs) i b ≡ f (get_or xs i a)
  get_or_map f [] i a b h = absurd (not-suc-le-zero h)
  get_or_map f (x ∷ xs) zero a b h = refl
  get_or_map f (x ∷ xs) (suc i) a b h = get_or_map f xs i a b (le_of_suc-le-suc h)

  -- the first n entries of a map are a map of the first n
  pub take_map : (f : A → B) (n : ℕ) (xs : List A) → take n (map f xs) ≡ map f (take n xs)
  take_map f zero xs = refl
  take_map f (suc n) [] = refl
  take_map f (suc n) (x ∷ xs) = ap (λ (r : List B). f x ∷ r) (take_map f n xs)

-- ---- a statement of every entry

module _ {ℓ κ} {A : Type ℓ} where
  -- every entry satisfies P
  pub data Each (P : A → Type κ) : List A → Type (ℓ ⊔ κ) where
    nil : Each P []
    cons : {x : A} {xs : List A} → P x → Each P xs → Each P (x ∷ xs)

  -- so the entry at i does
  pub each_get_or : {P : A → Type κ} {xs : List A} → Each P xs → (i : ℕ) (d : A) → i < length xs → P (get_or xs i d)
  each_get_or nil i d h = absurd (not-suc-le-zero h)
  each_get_or (cons p e) zero d h = p
  each_get_or (cons p e) (suc i) d h = each_get_or e i d (le_of_suc-le-suc h)

  -- and the other way round
  pub get_or_each : {P : A → Type κ} {xs : List A} (d : A) → ((i : ℕ) → i < length xs → P (get_or xs i d)) → Each P xs
  get_or_each {xs = []} d h = nil
  get_or_each {xs = x ∷ xs} d h = cons (h zero (zero-lt-suc (length xs))) (get_or_each {xs = xs} d (λ i l. h (suc i) (suc-le-suc l)))

  -- what holds of everything holds of every entry
  pub each_always : {P : A → Type κ} → ((x : A) → P x) → (xs : List A) → Each P xs
  each_always h [] = nil
  each_always h (x ∷ xs) = cons (h x) (each_always h xs)

  -- every entry of a list given by its entries
  pub each_tabulate : {P : A → Type κ} (n : ℕ) (f : ℕ → A) → ((i : ℕ) → i < n → P (f i)) → Each P (tabulate n f)
  unfolding tabulate
  each_tabulate zero f h = nil
  each_tabulate (suc n) f h = cons (h zero (zero-lt-suc n)) (each_tabulate n (λ k. f (suc k)) (λ i l. h (suc i) (suc-le-suc l)))

  -- every entry of two lists, of the one after the other
  pub each_append : {P : A → Type κ} {xs ys : List A} → Each P xs → Each P ys → Each P (xs ++ ys)
  each_append nil e = e
  each_append (cons p d) e = cons p (each_append d e)

  -- and of the first n entries, and of those after them
  pub each_take : {P : A → Type κ} {xs : List A} (n : ℕ) → Each P xs → Each P (take n xs)
  each_take zero e = nil
  each_take (suc n) nil = nil
  each_take {P = P} (suc n) (cons {x = x} {xs = xs} p e) = cons p (each_take {xs = xs} n e)

  pub each_drop : {P : A → Type κ} {xs : List A} (n : ℕ) → Each P xs → Each P (drop n xs)
  each_drop zero e = e
  each_drop (suc n) nil = nil
  each_drop {P = P} (suc n) (cons {x = x} {xs = xs} p e) = each_drop {xs = xs} n e

  -- and of those from i up to e
  pub each_part : {P : A → Type κ} {xs : List A} (i e : ℕ) → Each P xs → Each P (take (e - i) (drop i xs))
  each_part i e d = each_take (e - i) (each_drop i d)

module _ {ℓ κ μ} {A : Type ℓ} {B : Type κ} where
  -- every entry of a map
  pub each_map : {P : B → Type μ} (f : A → B) {xs : List A} → Each (λ x. P (f x)) xs → Each P (map f xs)
  each_map f nil = nil
  each_map f (cons p e) = cons p (each_map f e)

-- ---- a test of every entry

module _ {ℓ} {A : Type ℓ} where
  -- every entry passes the test p
  unfoldable pub every : (A → Bool) → List A → Bool
  every p [] = true
  every p (x ∷ xs) = p x && every p xs

  -- a list after another passes where both do
  pub every_append : (p : A → Bool) (xs ys : List A) → every p (xs ++ ys) ≡ (every p xs && every p ys)
  unfolding every
  every_append p [] ys = refl
  every_append p (x ∷ xs) ys = ap (λ b. p x && b) (every_append p xs ys) ∙ sym (and_assoc (p x) (every p xs) (every p ys))

  -- where a list passes, the entry at i does
  pub every_get_or : (p : A → Bool) (xs : List A) (i : ℕ) (d : A) → every p xs ≡ true → i < length xs → p (get_or xs i d) ≡ true
  unfolding every
  every_get_or p [] i d e h = absurd (not-suc-le-zero h)
  every_get_or p (x ∷ xs) zero d e h = ((and-eq-true_iff (p x) (every p xs)).0 e).0
  every_get_or p (x ∷ xs) (suc i) d e h = every_get_or p xs i d ((and-eq-true_iff (p x) (every p xs)).0 e).1 (le_of_suc-le-suc h)

  -- and the other way round
  pub get_or_every : (p : A → Bool) (xs : List A) (d : A) → ((i : ℕ) → i < length xs → p (get_or xs i d) ≡ true) → every p xs ≡ true
  unfolding every
  get_or_every p [] d h = refl
  get_or_every p (x ∷ xs) d h = (and-eq-true_iff (p x) (every p xs)).1 (h zero (zero-lt-suc (length xs)), get_or_every p xs d (λ i l. h (suc i) (suc-le-suc l)))

  -- where a list passes, any part of it does
  pub every_part : (p : A → Bool) (i n : ℕ) (xs : List A) → every p xs ≡ true → every p (take n (drop i xs)) ≡ true
  every_part p i n xs e = (split n (drop i xs) (split i xs e).1).0
    where
      split : (i : ℕ) (xs : List A) → every p xs ≡ true → (every p (take i xs) ≡ true) × (every p (drop i xs) ≡ true)
      split i xs e = (and-eq-true_iff (every p (take i xs)) (every p (drop i xs))).0 (sym (every_append p (take i xs) (drop i xs)) ∙ ap (every p) (take-append-drop i xs) ∙ e)

  -- what each entry that passes satisfies, every entry of a list that passes satisfies
  pub every_each {κ} : {P : A → Type κ} (p : A → Bool) (xs : List A) → ((x : A) → p x ≡ true → P x) → every p xs ≡ true → Each P xs
  unfolding every
  every_each p [] f e = nil
  every_each p (x ∷ xs) f e = cons (f x ((and-eq-true_iff (p x) (every p xs)).0 e).0) (every_each p xs f ((and-eq-true_iff (p x) (every p xs)).0 e).1)

  -- a list whose every entry passes does
  pub each_every : {p : A → Bool} {xs : List A} → Each (λ x. p x ≡ true) xs → every p xs ≡ true
  unfolding every
  each_every nil = refl
  each_every {p} (cons {x = x} {xs = xs} h e) = (and-eq-true_iff (p x) (every p xs)).1 (h, each_every e)

  -- where a list passes, what is left of it does
  pub every_drop : (p : A → Bool) (n : ℕ) (xs : List A) → every p xs ≡ true → every p (drop n xs) ≡ true
  unfolding every
  every_drop p zero xs e = e
  every_drop p (suc n) [] e = e
  every_drop p (suc n) (x ∷ xs) e = every_drop p n xs ((and-eq-true_iff (p x) (every p xs)).0 e).1

  -- one more entry tested
  pub every_suc : (p : A → Bool) (xs : List A) (i : ℕ) (d : A) → i < length xs → every p (take (suc i) xs) ≡ (every p (take i xs) && p (get_or xs i d))
  unfolding every
  every_suc p xs i d h = rw (take-suc xs i d, every_append, and-true)

module _ {ℓ κ} {A : Type ℓ} {B : Type κ} where
  -- a map passes where every value of f does
  pub every_map : (p : B → Bool) (f : A → B) (xs : List A) → ((x : A) → p (f x) ≡ true) → every p (map f xs) ≡ true
  unfolding every
  every_map p f [] h = refl
  every_map p f (x ∷ xs) h = (and-eq-true_iff (p (f x)) (every p (map f xs))).1 (h x, every_map p f xs h)

-- `every` is the library's `list_all`
pub every_all : {A : Type 0} (p : A → Bool) (xs : List A) → list_all p xs ≡ every p xs
unfolding every
every_all p xs = same_from_clauses (list_all p) (every p) (λ x b. p x && b) refl (λ _ _. refl) (λ _ _. refl) xs

-- ---- a test of every entry by counting those that fail

-- what one entry adds, and to what it adds 0
count_one : (t : Bool) → cond t 0 1 ≤ 1
count_one true = omega arith
count_one false = omega arith

count_zero : (n : ℕ) (r t : Bool) → eqb n 0 ≡ r → eqb (n + cond t 0 1) 0 ≡ (r && t)
count_zero n r true e = rw (add-zero, and-true) e
count_zero n r false e = rw and-false (ne_eqb (n + 1) 0 (λ z. omega arith))

module _ {ℓ} {A : Type ℓ} where
  -- the invariant of a loop that counts: n is 0 exactly where each of the first i entries passes, and at most i
  pub record Counted (p : A → Bool) (xs : List A) (n i : ℕ) : Type ℓ where
    pub within : i ≤ length xs
    pub few : n ≤ i
    pub so_far : eqb n 0 ≡ every p (take i xs)

  -- at first there is none
  pub count_start : (p : A → Bool) (xs : List A) → Counted p xs 0 0
  unfolding every
  count_start p xs = record { within = omega arith; few = omega arith; so_far = refl }

  -- the next entry counts 0 where it passes and 1 where it fails
  pub count_step : {p : A → Bool} {xs : List A} {n i : ℕ} → Counted p xs n i → {k : ℕ} (d : A) → i < length xs → k ≡ cond (p (get_or xs i d)) 0 1
      → Counted p xs (n + k) (i + 1)
  count_step {p} {xs} {n} {i} f d h e =
      record {
        within = omega arith;
        few = omega (arith, count_one (p (get_or xs i d)));
        so_far = rw (e, add-one, every_suc p xs i d) (count_zero n _ (p (get_or xs i d)) f.so_far);
      }

  -- at the end the count is 0 exactly where every entry passes
  pub count_end : {p : A → Bool} {xs : List A} {n i : ℕ} → Counted p xs n i → length xs ≤ i → eqb n 0 ≡ every p xs
  count_end {p} {xs} {n} {i} f h = f.so_far ∙ rw take_all

-- ---- a list filled from its start, one entry after the other

module _ {ℓ} {A : Type ℓ} where
  -- the invariant of a loop that fills `found`, of which `out` is what it has come to: the first i entries are those of the target,
  -- the rest is as found
  pub record Filled (target found out : List A) (i : ℕ) : Type ℓ where
    pub long : length target ≡ length found
    pub within : i ≤ length found
    pub kept : length out ≡ length found
    pub so_far : out ≡ take i target ++ drop i found

  -- at first all is as found
  pub fill_start : (target found : List A) → length target ≡ length found → Filled target found found 0
  fill_start target found l = record { long = l; within = omega arith; kept = refl; so_far = refl }

  -- the next entry of the target stored
  pub fill_step : {target found out : List A} {i : ℕ} → Filled target found out i → (x d : A) → i < length found → x ≡ get_or target i d
      → Filled target found (set out i x) (i + 1)
  fill_step {target} {found} {out} {i} f x d h e =
      record {
        long = f.long;
        within = omega arith;
        kept = rw length-set f.kept;
        so_far = rw (f.so_far, e, add-one) (simp zero-add at (paste-suc found 0 target i d (omega arith) (omega arith)));
      }

  -- at the end all is the target's
  pub fill_end : {target found out : List A} {i : ℕ} → Filled target found out i → length found ≤ i → out ≡ target
  fill_end {target} {found} {out} {i} f h =
      let whole : length target ≤ i = omega arith in
      rw (f.so_far, take_all i target, drop_of_length-le found, append-nil)

  -- on the way the first i are the target's
  pub fill_front : {target found out : List A} {i : ℕ} → Filled target found out i → take i out ≡ take i target
  fill_front {target} {found} {out} {i} f = rw f.so_far (take_at (take i target) (drop i found) i (length-take-le i target (omega arith)))

  -- the next n entries of the target put in as one part
  part_put : (i n : ℕ) (target found : List A) → i ≤ length target
      → take i (take i target ++ drop i found) ++ (take n (drop i target) ++ drop n (drop i (take i target ++ drop i found))) ≡ take (i + n) target ++ drop (i + n) found
  part_put i n target found h =
      let l : length (take i target) ≡ i = length-take-le i target h in
      rw (take_at (take i target) (drop i found) i, drop_at (take i target) (drop i found) i, drop-drop, take-add) (sym (append_assoc (take i target) (take n (drop i target)) (drop (i + n) found)))

  pub fill_part : {target found out new : List A} {i : ℕ} (n : ℕ) → Filled target found out i → i + n ≤ length found → new ≡ take n (drop i target)
      → Filled target found (take i out ++ (new ++ drop n (drop i out))) (i + n)
  fill_part {target} {found} {out} {new} {i} n f h e =
      let r : take i out ++ (new ++ drop n (drop i out)) ≡ take (i + n) target ++ drop (i + n) found = rw (f.so_far, e) (part_put i n target found (omega arith)) in
      record {
        long = f.long;
        within = h;
        kept = ap length r ∙ length_front found (take (i + n) target) (i + n) (simp length-take (omega arith));
        so_far = r;
      }

-- n entries from i on are those of the first m, where they lie among them
pub part_take {ℓ} : {A : Type ℓ} (i n m : ℕ) (xs : List A) → i + n ≤ m → take n (drop i (take m xs)) ≡ take n (drop i xs)
part_take zero n m xs h = take-take n m xs (omega arith)
part_take (suc i) n zero xs h = absurd (omega arith)
part_take (suc i) n (suc m) [] h = refl
part_take (suc i) n (suc m) (x ∷ xs) h = part_take i n m xs (omega arith)

-- so they pass where the first m do
pub all_part_take {ℓ} : {A : Type ℓ} (p : A → Bool) (i n m : ℕ) (xs : List A) → i + n ≤ m → every p (take m xs) ≡ true → every p (take n (drop i xs)) ≡ true
all_part_take p i n m xs h e = rw (part_take i n m xs h) at (every_part p i n (take m xs) e)

-- all from i on put in as one part
pub put_to_end {ℓ} : {A : Type ℓ} (i : ℕ) (xs ys : List A) → take i xs ++ (ys ++ drop (length xs - i) (drop i xs)) ≡ take i xs ++ ys
put_to_end i xs ys =
    let every : length (drop i xs) ≤ length xs - i = simp length-drop (omega arith) in
    rw (drop_of_length-le (drop i xs), append-nil)

-- a first part of n entries, put in and read again
pub put_first {ℓ} : {A : Type ℓ} (n : ℕ) (ys rest : List A) → length ys ≡ n → take (n - 0) (ys ++ rest) ≡ ys
put_first n ys rest e = rw sub-zero (take_at ys rest n e)

pub put_holds {ℓ} : {A : Type ℓ} (n : ℕ) (ys rest : List A) → length ys ≡ n → n ≤ length (ys ++ rest)
put_holds n ys rest e = omega (arith, length-append ys rest)

-- ---- two lists entry by entry

module _ {ℓ κ μ} {A : Type ℓ} {B : Type κ} {C : Type μ} where
  -- it is as long as two lists of one length
  pub length_zip_with : (f : A → B → C) (xs : List A) (ys : List B) → length xs ≡ length ys → length (zip_with f xs ys) ≡ length xs
  unfolding zip_with
  length_zip_with f [] ys e = refl
  length_zip_with f (x ∷ xs) [] e = sym e
  length_zip_with f (x ∷ xs) (y ∷ ys) e = ap suc (length_zip_with f xs ys (suc_inj e))

  -- entry i is f of the two entries at i
  pub get_or_zip_with : (f : A → B → C) (xs : List A) (ys : List B) (i : ℕ) (a : A) (b : B) (c : C) → i < length xs → i < length ys
      → get_or (zip_with f xs ys) i c ≡ f (get_or xs i a) (get_or ys i b)
  unfolding zip_with
  get_or_zip_with f [] ys i a b c h k = absurd (not-suc-le-zero h)
  get_or_zip_with f (x ∷ xs) [] i a b c h k = absurd (not-suc-le-zero k)
  get_or_zip_with f (x ∷ xs) (y ∷ ys) zero a b c h k = refl
  get_or_zip_with f (x ∷ xs) (y ∷ ys) (suc i) a b c h k = get_or_zip_with f xs ys i a b c (le_of_suc-le-suc h) (le_of_suc-le-suc k)

  -- it is a map over the list of pairs
  pub zip_with_zip : (f : A → B → C) (xs : List A) (ys : List B) → zip_with f xs ys ≡ map (λ p. f p.0 p.1) (zip xs ys)
  unfolding zip_with zip
  zip_with_zip f [] ys = refl
  zip_with_zip f (x ∷ xs) [] = refl
  zip_with_zip f (x ∷ xs) (y ∷ ys) = ap (λ (r : List C). f x y ∷ r) (zip_with_zip f xs ys)

  -- the two lists change places
  pub zip_with_flip : (f : A → B → C) (xs : List A) (ys : List B) → zip_with f xs ys ≡ zip_with (λ y x. f x y) ys xs
  unfolding zip_with
  zip_with_flip f [] [] = refl
  zip_with_flip f [] (y ∷ ys) = refl
  zip_with_flip f (x ∷ xs) [] = refl
  zip_with_flip f (x ∷ xs) (y ∷ ys) = ap (λ (r : List C). f x y ∷ r) (zip_with_flip f xs ys)

module _ {ℓ κ} {A : Type ℓ} {B : Type κ} where
  -- to keep the first of each pair gives back the first list
  pub zip_with_first : (xs : List A) (ys : List B) → length xs ≡ length ys → zip_with (λ x y. x) xs ys ≡ xs
  unfolding zip_with
  zip_with_first [] ys e = refl
  zip_with_first (x ∷ xs) [] e = absurd (omega arith)
  zip_with_first (x ∷ xs) (y ∷ ys) e = ap (λ (r : List A). x ∷ r) (zip_with_first xs ys (suc_inj e))

-- to keep the second of each pair gives back the second list
pub zip_with_second {ℓ κ} : {A : Type ℓ} {B : Type κ} (xs : List A) (ys : List B) → length xs ≡ length ys → zip_with (λ x y. y) xs ys ≡ ys
zip_with_second xs ys e = zip_with_flip (λ x y. y) xs ys ∙ zip_with_first ys xs (sym e)

module _ {ℓ κ μ ν} {A : Type ℓ} {B : Type κ} {C : Type μ} {D : Type ν} where
  -- g of every entry
  pub map_zip_with : (g : C → D) (f : A → B → C) (xs : List A) (ys : List B) → map g (zip_with f xs ys) ≡ zip_with (λ x y. g (f x y)) xs ys
  unfolding zip_with
  map_zip_with g f [] ys = refl
  map_zip_with g f (x ∷ xs) [] = refl
  map_zip_with g f (x ∷ xs) (y ∷ ys) = ap (λ (r : List D). g (f x y) ∷ r) (map_zip_with g f xs ys)

-- ---- all pairs of two lists

module _ {ℓ κ μ} {A : Type ℓ} {B : Type κ} {C : Type μ} where
  -- f of every entry of xs with every entry of ys, row by row: a row for each entry of xs
  unfoldable pub grid : (A → B → C) → List A → List B → List C
  grid f xs ys = flat_map (λ x. map (f x) ys) xs

  -- the first row, and the others
  pub grid_cons : (f : A → B → C) (x : A) (xs : List A) (ys : List B) → grid f (x ∷ xs) ys ≡ map (f x) ys ++ grid f xs ys
  unfolding grid flat_map
  grid_cons f x xs ys = refl

  -- as many entries as there are pairs
  pub length_grid : (f : A → B → C) (xs : List A) (ys : List B) → length (grid f xs ys) ≡ length xs * length ys
  unfolding grid flat_map
  length_grid f [] ys = omega arith
  length_grid f (x ∷ xs) ys =
      omega (arith, length-append (map (f x) ys) (grid f xs ys), length-map ys (f x), length_grid f xs ys, suc-mul (length xs) (length ys))

  -- entry v of row u is f of entry u and entry v
  pub get_or_grid : (f : A → B → C) (xs : List A) (ys : List B) (u v : ℕ) (a : A) (b : B) (c : C) → u < length xs → v < length ys
      → get_or (grid f xs ys) (u * length ys + v) c ≡ f (get_or xs u a) (get_or ys v b)
  unfolding grid flat_map
  get_or_grid f [] ys u v a b c h k = absurd (not-suc-le-zero h)
  get_or_grid f (x ∷ xs) ys zero v a b c h k =
      rw (zero-mul, zero-add) (get_or-append (map (f x) ys) (grid f xs ys) c v (rw length-map k) ∙ get_or_map (f x) ys v b c k)
  get_or_grid f (x ∷ xs) ys (suc u) v a b c h k =
      let place : suc u * length ys + v ≡ length (map (f x) ys) + (u * length ys + v) = omega (arith, length-map ys (f x), suc-mul u (length ys)) in
      rw place (get_or-append-add (map (f x) ys) (grid f xs ys) (u * length ys + v) c ∙ get_or_grid f xs ys u v a b c (le_of_suc-le-suc h) k)

  -- row u is f of entry u with every entry of ys
  grid_rest : (f : A → B → C) (x : A) (xs : List A) (ys : List B) (u : ℕ) → drop (suc u * length ys) (grid f (x ∷ xs) ys) ≡ drop (u * length ys) (grid f xs ys)
  unfolding grid flat_map
  grid_rest f x xs ys u = rw (suc-mul, add_comm (u * length ys), ← drop-drop) (ap (drop (u * length ys)) (drop_at (map (f x) ys) (grid f xs ys) (length ys) (length-map ys (f x))))

  pub grid_row : (f : A → B → C) (xs : List A) (ys : List B) (u : ℕ) (a : A) → u < length xs → take (length ys) (drop (u * length ys) (grid f xs ys)) ≡ map (f (get_or xs u a)) ys
  unfolding grid flat_map
  grid_row f [] ys u a h = absurd (not-suc-le-zero h)
  grid_row f (x ∷ xs) ys zero a h = rw zero-mul (take_at (map (f x) ys) (grid f xs ys) (length ys) (length-map ys (f x)))
  grid_row f (x ∷ xs) ys (suc u) a h = ap (take (length ys)) (grid_rest f x xs ys u) ∙ grid_row f xs ys u a (le_of_suc-le-suc h)

  -- the same by the place of an entry: entry k stands in row k/n at k%n, where ys has n entries
  pub get_or_grid_place : (f : A → B → C) (xs : List A) (ys : List B) (k : ℕ) (a : A) (b : B) (c : C) → k < length xs * length ys
      → get_or (grid f xs ys) k c ≡ f (get_or xs (k / length ys) a) (get_or ys (k % length ys) b)
  get_or_grid_place f xs [] k a b c h = absurd (omega arith)
  get_or_grid_place f xs (y ∷ ys) k a b c h =
      let n : ℕ = length (y ∷ ys) in
      ap (λ (m : ℕ). get_or (grid f xs (y ∷ ys)) m c) (sym (div-add-mod' k n))
      ∙ get_or_grid f xs (y ∷ ys) (k / n) (k % n) a b c ((div-lt_iff_lt-mul (zero-lt-suc (length ys))).1 h) (mod-lt k (zero-lt-suc (length ys)))

module _ {ℓ κ μ ν} {A : Type ℓ} {B : Type κ} {C : Type μ} {D : Type ν} where
  -- g of every entry
  pub map_grid : (g : C → D) (f : A → B → C) (xs : List A) (ys : List B) → map g (grid f xs ys) ≡ grid (λ x y. g (f x y)) xs ys
  unfolding grid flat_map
  map_grid g f [] ys = refl
  map_grid g f (x ∷ xs) ys = map-append g (map (f x) ys) (grid f xs ys) ∙ ap₂ ◌++◌ (map-map g (f x) ys) (map_grid g f xs ys)

-- ---- a list in rows

-- row i of n entries ends within k rows, for i below k
pub row_ends : (n k i : ℕ) → i < k → i * n + n ≤ k * n
row_ends n k i h = omega (arith, mul-le-mul_right n h, suc-mul i n)

module _ {ℓ} {A : Type ℓ} where
  -- the first k rows of n entries each
  unfoldable pub cut : ℕ → ℕ → List A → List (List A)
  cut n zero xs = []
  cut n (suc k) xs = take n xs ∷ cut n k (drop n xs)

  -- there are k rows
  pub length_cut : (n k : ℕ) (xs : List A) → length (cut n k xs) ≡ k
  unfolding cut
  length_cut n zero xs = refl
  length_cut n (suc k) xs = ap suc (length_cut n k (drop n xs))

  -- row i begins at i·n
  pub get_or_cut : (n k : ℕ) (xs : List A) (i : ℕ) (d : List A) → i < k → get_or (cut n k xs) i d ≡ take n (drop (i * n) xs)
  unfolding cut
  get_or_cut n zero xs i d h = absurd (not-suc-le-zero h)
  get_or_cut n (suc k) xs zero d h = rw zero-mul
  get_or_cut n (suc k) xs (suc i) d h = get_or_cut n k (drop n xs) i d (le_of_suc-le-suc h) ∙ rw (drop-drop, suc-mul, add_comm n)

  -- entry j of row i lies at i·n+j
  pub get_or_cut_entry : (n k : ℕ) (xs : List A) (i j : ℕ) (d : List A) (z : A) → i < k → j < n → get_or (get_or (cut n k xs) i d) j z ≡ get_or xs (i * n + j) z
  get_or_cut_entry n k xs i j d z h g =
      ap (λ (row : List A). get_or row j z) (get_or_cut n k xs i d h) ∙ get_or-take n (drop (i * n) xs) j z g ∙ get_or-drop (i * n) xs j z

  -- every row is full where there are entries enough
  pub each_cut : (n k : ℕ) (xs : List A) → k * n ≤ length xs → Each (λ row. length row ≡ n) (cut n k xs)
  unfolding cut
  each_cut n zero xs h = nil
  each_cut n (suc k) xs h =
      let g : k * n + n ≤ length xs = rw suc-mul at h in
      cons (length-take-le n xs (omega arith)) (each_cut n k (drop n xs) (omega (arith, length-drop n xs)))

  cut_from : (n k i m : ℕ) (xs : List A) → i + k * n ≤ m → cut n k (drop i (take m xs)) ≡ cut n k (drop i xs)
  unfolding cut
  cut_from n zero i m xs h = refl
  cut_from n (suc k) i m xs h =
      let g : i + (k * n + n) ≤ m = rw suc-mul at h in
      ap₂ {C = List (List A)} ◌∷◌ (part_take i n m xs (omega arith))
      (ap (cut n k) (drop-drop n i (take m xs)) ∙ cut_from n k (i + n) m xs (omega arith) ∙ ap (cut n k) (sym (drop-drop n i xs)))

  -- lists with the same first k·n entries have the same rows
  pub cut_same : (n k : ℕ) (xs ys : List A) → take (k * n) xs ≡ take (k * n) ys → cut n k xs ≡ cut n k ys
  cut_same n k xs ys e =
      sym (from_start xs) ∙ ap (cut n k) e ∙ from_start ys
    where
      from_start : (zs : List A) → cut n k (take (k * n) zs) ≡ cut n k zs
      from_start zs = cut_from n k 0 (k * n) zs (omega arith)

  -- the rows joined are the first k·n entries
  pub flatten_cut_take : (n k : ℕ) (xs : List A) → flatten (cut n k xs) ≡ take (k * n) xs
  unfolding cut flatten
  flatten_cut_take n zero xs = rw zero-mul
  flatten_cut_take n (suc k) xs = ap (λ (r : List A). take n xs ++ r) (flatten_cut_take n k (drop n xs)) ∙ rw (suc-mul, add_comm (k * n), take-add)

  -- which is the whole list where there are no more
  pub flatten_cut : (n k : ℕ) (xs : List A) → length xs ≤ k * n → flatten (cut n k xs) ≡ xs
  flatten_cut n k xs h = flatten_cut_take n k xs ∙ take_all (k * n) xs h

  -- rows of one length n, joined and cut again, whatever lies after them
  pub cut_flatten_append : {n : ℕ} {rows : List (List A)} → Each (λ row. length row ≡ n) rows → (rest : List A) → cut n (length rows) (flatten rows ++ rest) ≡ rows
  unfolding cut flatten
  cut_flatten_append nil rest = refl
  cut_flatten_append {n} (cons {x = row} {xs = rows} e es) rest =
      rw append_assoc
      (ap₂ {C = List (List A)} ◌∷◌ (take_at row (flatten rows ++ rest) n e) (rw (drop_at row (flatten rows ++ rest) n e) (cut_flatten_append es rest)))

  pub cut_flatten : {n : ℕ} {rows : List (List A)} → Each (λ row. length row ≡ n) rows → cut n (length rows) (flatten rows) ≡ rows
  cut_flatten {n} {rows} e = ap (cut n (length rows)) (sym (append-nil (flatten rows))) ∙ cut_flatten_append e []

  -- so row i of them, joined, begins at i·n
  pub get_or_flatten : {n : ℕ} {rows : List (List A)} → Each (λ row. length row ≡ n) rows → (i : ℕ) (d : List A) → i < length rows
      → take n (drop (i * n) (flatten rows)) ≡ get_or rows i d
  get_or_flatten {n} {rows} es i d h = sym (get_or_cut n (length rows) (flatten rows) i d h) ∙ ap (λ (l : List (List A)). get_or l i d) (cut_flatten es)

  -- a test that all entries of the rows pass
  pub flatten_every : (p : A → Bool) (rows : List (List A)) → every p (flatten rows) ≡ true → Each (λ row. every p row ≡ true) rows
  unfolding flatten
  flatten_every p [] t = nil
  flatten_every p (row ∷ rows) t =
      let both : (every p row ≡ true) × (every p (flatten rows) ≡ true) = (and-eq-true_iff (every p row) (every p (flatten rows))).0 (sym (every_append p row (flatten rows)) ∙ t) in
      cons both.0 (flatten_every p rows both.1)

  -- joined they are as many entries as the rows have
  pub length_flatten : {n : ℕ} {rows : List (List A)} → Each (λ row. length row ≡ n) rows → length (flatten rows) ≡ length rows * n
  unfolding flatten
  length_flatten nil = omega arith
  length_flatten {n} (cons {x = row} {xs = rows} e es) = omega (arith, length-append row (flatten rows), length_flatten es, suc-mul (length rows) n)

  -- and pass where each row does
  pub every_flatten : (p : A → Bool) {rows : List (List A)} → Each (λ row. every p row ≡ true) rows → every p (flatten rows) ≡ true
  unfolding flatten every
  every_flatten p nil = refl
  every_flatten p (cons {x = row} {xs = rows} e es) = every_append p row (flatten rows) ∙ (and-eq-true_iff (every p row) (every p (flatten rows))).1 (e, every_flatten p es)

  -- one row more
  pub flatten_suc : (rows : List (List A)) (row : List A) → flatten (rows ++ (row ∷ [])) ≡ flatten rows ++ row
  unfolding flatten
  flatten_suc [] row = append-nil row
  flatten_suc (first ∷ rows) row = ap (λ (r : List A). first ++ r) (flatten_suc rows row) ∙ sym (append_assoc first (flatten rows) row)
