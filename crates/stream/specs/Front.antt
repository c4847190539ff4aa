-- A list at the front of a buffer, and how a loop puts it there. Assumes nothing.
use Rattle.std.specs.Prelude.{◌≡◌, List, ◌++◌, take, drop, set, get_or}
use Rattle.std.proofs.Math.Path.{refl}
use Rattle.std.proofs.Common.{◌∙◌, arith, length-drop, take_at, take_all}
use Prim.Native.Nat.{ℕ, suc, ◌+◌, ◌≤◌, ◌<◌}
use Rattle.std.proofs.Math.Nat.{zero-add}
use Rattle.std.proofs.Math.Numerals.{add-one}
use Rattle.std.proofs.Math.ListN.{length, length-set, length-append}
use Rattle.std.proofs.Math.Seq.{length-take-le, paste-suc}
use Rattle.stream.specs.Bounds.{CountIn}

module _ {A : Type 0} where
  -- xs, and then what was found after as many entries
  unfoldable pub front : List A → List A → List A
  front xs found = xs ++ drop (length xs) found

  -- where there is room for xs, the buffer keeps its length
  pub length_front : (xs found : List A) → length xs ≤ length found → length (front xs found) ≡ length found
  unfolding front
  length_front xs found h = simp (length-append, length-drop) (omega arith)

  -- and the entries of xs are counted by its length
  pub front_counts : (xs found : List A) → CountIn (length xs) (front xs found)
  unfolding front
  front_counts xs found = (omega (arith, length-append xs (drop (length xs) found)), rw take_at)

  -- the invariant of a loop that puts it there: out is the buffer found, with the first i entries put
  pub record Put (xs found out : List A) (i : ℕ) : Type 0 where
    pub within : i ≤ length xs
    pub kept : length out ≡ length found
    pub so_far : out ≡ front (take i xs) found

  pub put_none : (xs found : List A) → Put xs found found 0
  unfolding front
  put_none xs found = record { within = omega arith; kept = refl; so_far = refl }

  pub put_more : {xs found out : List A} {i : ℕ} → Put xs found out i → (x d : A) → i < length xs → length xs ≤ length found → x ≡ get_or xs i d
      → Put xs found (set out i x) (i + 1)
  unfolding front
  put_more {xs} {found} {out} {i} p x d h l e =
      let a : length (take i xs) ≡ i = length-take-le i xs (omega arith) in
      let b : length (take (suc i) xs) ≡ suc i = length-take-le (suc i) xs (omega arith) in
      record {
        within = omega arith;
        kept = rw length-set p.kept;
        so_far = rw (p.so_far, e, add-one, a, b) (simp zero-add at (paste-suc found 0 xs i d (omega arith) (omega arith)));
      }

  pub put_all : {xs found out : List A} {i : ℕ} → Put xs found out i → length xs ≤ i → out ≡ front xs found
  put_all {xs} {found} {out} {i} p h = p.so_far ∙ rw take_all
