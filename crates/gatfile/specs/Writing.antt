-- Text written behind text in a buffer: what a writer promises, and the law that joins two writes.
use Rattle.std.specs.Prelude.{◌≡◌, ℕ, zero, suc, ◌+◌, ◌≤◌, ◌<◌, length, get_or, take, drop, set}
use Rattle.std.proofs.Common.{sym, ap, ◌∙◌, not-suc-le-zero, le_of_suc-le-suc, add-one, arith, length-append, length-drop, take-append-drop, drop_of_length-le, length-take-le, take_at, drop_at, drop-drop, take_all}
use mathlib.Core.List.{List, [], ◌∷◌, ◌++◌, append_assoc, append-nil, flat_map}
use Rattle.std.proofs.lemmas.List.{set_split}
use Rattle.std.proofs.Math.Seq.{append_snoc}

-- `new` is `old` with xs set at `at`, which ends at `to`
pub record Written (xs old new : List ℕ) (at to : ℕ) : Type 0 where
  pub stop : to ≡ at + length xs
  pub room : to ≤ length old
  pub whole : new ≡ take at old ++ xs ++ drop to old

module _ {xs old new : List ℕ} {at to : ℕ} (w : Written xs old new at to) where
  head_long : length (take at old ++ xs) ≡ to
  head_long = length-append (take at old) xs ∙ omega (arith, w.stop, w.room, length-take-le at old (omega (arith, w.stop, w.room)))

  -- what stands before the end, and after it
  pub written_front : take to new ≡ take at old ++ xs
  written_front = rw w.whole (take_at (take at old ++ xs) (drop to old) to head_long)

  pub written_rest : drop to new ≡ drop to old
  written_rest = rw w.whole (drop_at (take at old ++ xs) (drop to old) to head_long)

  pub written_kept : length new ≡ length old
  written_kept = ap length w.whole ∙ length-append (take at old ++ xs) (drop to old) ∙ omega (arith, head_long, length-drop to old, w.room)

-- nothing, and one byte
pub written_nothing : (old : List ℕ) (at : ℕ) → at ≤ length old → Written [] old old at at
written_nothing old at h =
    record {
      stop = omega arith;
      room = h;
      whole = sym (rw append-nil (take-append-drop at old));
    }

pub written_byte : (old : List ℕ) (at to x : ℕ) → at < length old → to ≡ at + 1 → Written (x ∷ []) old (set old at x) at to
written_byte old at to x h e =
    record {
      stop = e;
      room = omega arith;
      whole = rw (e, add-one) (set_split old at x h ∙ sym (append_snoc (take at old) x (drop (suc at) old)));
    }

-- one write after the other
pub written_then : {xs ys old mid new : List ℕ} {at m to : ℕ} → Written xs old mid at m → Written ys mid new m to → Written (xs ++ ys) old new at to
written_then {xs} {ys} {old} {mid} {new} {at} {m} {to} v w =
    let after : drop to mid ≡ drop to old =
    ap (λ (k : ℕ). drop k mid) w.stop ∙ sym (drop-drop (length ys) m mid) ∙ ap (drop (length ys)) (written_rest v) ∙ drop-drop (length ys) m old ∙ ap (λ (k : ℕ). drop k old) (sym w.stop) in
    record {
      stop = omega (arith, v.stop, w.stop, length-append xs ys);
      room = omega (arith, w.room, written_kept v);
      whole = w.whole ∙ rw (written_front v, after, append_assoc (take at old) xs ys);
    }

-- the same text under another name
pub written_as : {xs ys old new : List ℕ} {at to : ℕ} → xs ≡ ys → Written xs old new at to → Written ys old new at to
written_as e w = rw e at w

-- from the front to the end of the buffer
pub written_all : {xs old new : List ℕ} {to : ℕ} → Written xs old new 0 to → length old ≤ to → new ≡ xs
written_all {xs} {old} w h = w.whole ∙ rw (drop_of_length-le old h) (append-nil xs)

-- text made of parts, one for each entry of a list: one entry more
pub parts_more : {A : Type 0} (f : A → List ℕ) (xs : List A) (i : ℕ) (d : A) → i < length xs → flat_map f (take (suc i) xs) ≡ flat_map f (take i xs) ++ f (get_or xs i d)
unfolding flat_map
parts_more f [] i d h = absurd (not-suc-le-zero h)
parts_more f (x ∷ xs) zero d h = append-nil (f x)
parts_more f (x ∷ xs) (suc i) d h = ap (λ (r : List ℕ). f x ++ r) (parts_more f xs i d (le_of_suc-le-suc h)) ∙ sym (append_assoc (f x) (flat_map f (take i xs)) (f (get_or xs i d)))

-- the invariant of a loop that writes them: those of the first i entries are written from the front, up to `to`
pub record PartsWritten {A : Type 0} (f : A → List ℕ) (xs : List A) (old new : List ℕ) (to i : ℕ) : Type 0 where
  pub within : i ≤ length xs
  pub so_far : Written (flat_map f (take i xs)) old new 0 to

pub parts_start : {A : Type 0} (f : A → List ℕ) (xs : List A) (old : List ℕ) → PartsWritten f xs old old 0 0
unfolding flat_map
parts_start f xs old = record { within = omega arith; so_far = written_nothing old 0 (omega arith) }

pub parts_step : {A : Type 0} {f : A → List ℕ} {xs : List A} {old mid new : List ℕ} {m to i : ℕ} → PartsWritten f xs old mid m i → (d : A) → i < length xs
    → Written (f (get_or xs i d)) mid new m to → PartsWritten f xs old new to (i + 1)
parts_step {f = f} {xs = xs} {i = i} p d h w =
    record {
      within = omega arith;
      so_far = rw add-one (written_as (sym (parts_more f xs i d h)) (written_then p.so_far w));
    }

pub parts_end : {A : Type 0} {f : A → List ℕ} {xs : List A} {old new : List ℕ} {to i : ℕ} → PartsWritten f xs old new to i → length xs ≤ i → Written (flat_map f xs) old new 0 to
parts_end {f = f} {xs = xs} {i = i} p h = written_as (ap (flat_map f) (take_all i xs h)) p.so_far
