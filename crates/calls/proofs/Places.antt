-- What a call in the store lends, by places in the whole call, as a reader of the format counts them. The code takes each thing from the
-- front (specs/Lent), which is the same: laws below say so, of each definition. Assumes nothing.
use Rattle.std.specs.Prelude.{◌≡◌, refl, cond, Bool, true, false, List, [], map, ℕ, ◌+◌, ◌-◌, ◌*◌, ◌/◌, ◌≤◌, ◌<◌, min, leb, ℤ, pos, negsuc, nat_abs, length, get_or, take, drop, set, replicate}
use Rattle.std.proofs.Common.{sym, ap, ◌∙◌, add-zero, div-mul-le_self, not-suc-le-zero, arith, lit<, leb-true, leb-false}
use Rattle.std.proofs.lemmas.List.{length-map, length-replicate, length-drop, get_or-drop, drop-drop, drop_min, map-id}
use borrow.Author.Tests.{le-leb, lt-leb}
use Rattle.refusal.specs.declared.Params.{Params}
use Rattle.refusal.specs.Parameters.{params}
use Rattle.circuit.specs.declared.Gate.{Gate}
use Rattle.circuit.specs.Circuits.{gate}
use Rattle.stream.specs.Ranges.{inside, is_word}
use Rattle.stream.specs.Front.{Put, put_none, put_more, put_all, front}
use Rattle.whole.specs.Lists.{cut, length_cut, get_or_cut_entry, get_or_map}
use Rattle.calls.specs.Gates.{gate_of, gates_of}
use Rattle.calls.specs.Lent.{number_at, word_at, list_of, past_list, params_of, fitting, Took, took_none, took_all}
use Rattle.calls.specs.Width.{word, byte}

-- ---- places

-- the place after that of a number, which is the call's end at most
abbrev pub next_at : List ℤ → ℕ → ℕ
next_at call at = min (at + 1) (length call)

-- the entries of the list whose count stands at a place, and none where the call ends before they do
unfoldable pub list_at : List ℤ → ℕ → List ℤ
list_at call at = cond (leb (next_at call at + word_at call at) (length call)) (take (word_at call at) (drop (next_at call at) call)) []

pub list_within : (call : List ℤ) (at : ℕ) → next_at call at + word_at call at ≤ length call → take (word_at call at) (drop (next_at call at) call) ≡ list_at call at
unfolding list_at
list_within call at h = rw (le-leb (next_at call at + word_at call at) (length call) h)

pub list_beyond : (call : List ℤ) (at : ℕ) → length call < next_at call at + word_at call at → list_at call at ≡ []
unfolding list_at
list_beyond call at h = rw (lt-leb (next_at call at + word_at call at) (length call) h)

-- the place after that list, which is the call's end at most
abbrev pub past_at : List ℤ → ℕ → ℕ
past_at call at = min (next_at call at + word_at call at) (length call)

-- n, q, L, E and F
abbrev pub params_at : List ℤ → Params
params_at call = params (word_at call 1) (word_at call 2) (word_at call 3) (word_at call 4) (word_at call 5)

-- ---- room

module _ {A : Type 0} where
  pub fitting_within : (room : ℕ) (xs : List A) → length xs ≤ room → fitting room xs ≡ xs
  unfolding fitting
  fitting_within room xs h = rw (le-leb (length xs) room h)

  pub fitting_over : (room : ℕ) (xs : List A) → room < length xs → fitting room xs ≡ []
  unfolding fitting
  fitting_over room xs h = rw (lt-leb (length xs) room h)

-- ---- how a loop takes it

-- the invariant of a loop that takes ys, an entry for each of xs, into the buffer found, which has room for it
pub record Taking {A B : Type 0} (xs : List A) (ys found out : List B) (end i : ℕ) : Type 0 where
  pub ends : end ≡ length xs
  pub within : i ≤ end
  pub long : length ys ≡ length xs
  pub room : length xs ≤ length found
  pub so_far : Put ys found out i

module _ {A B : Type 0} {xs : List A} {ys found : List B} {end : ℕ} where
  pub taking_start : end ≡ length xs → length ys ≡ length xs → length xs ≤ length found → Taking xs ys found found end 0
  taking_start e l h = record { ends = e; within = omega arith; long = l; room = h; so_far = put_none ys found }

  pub taking_more : {out : List B} {i : ℕ} → Taking xs ys found out end i → (x d : B) → i < end → x ≡ get_or ys i d → Taking xs ys found (set out i x) end (i + 1)
  taking_more t x d h e =
      record { ends = t.ends; within = omega arith; long = t.long; room = t.room; so_far = put_more t.so_far x d (omega arith) (omega arith) e }

  pub taking_all : {out : List B} {i : ℕ} → Taking xs ys found out end i → end ≤ i → Took ys found (length xs) out
  taking_all {out} t h = rw t.long at (took_all ys found out (omega arith) t.so_far.kept (put_all t.so_far (omega arith)))

-- where ys is xs, each entry by f
module _ {A B : Type 0} (f : A → B) (xs : List A) where
  pub none_mapped : (found : List B) → length found < length xs → Took (map f xs) found 0 found
  none_mapped found h = took_none (map f xs) found (rw length-map h)

  pub start_mapped : {found : List B} {end : ℕ} → end ≡ length xs → length xs ≤ length found → Taking xs (map f xs) found found end 0
  start_mapped e h = taking_start e (length-map xs f) h

  pub more_mapped : {found out : List B} {end i : ℕ} → Taking xs (map f xs) found out end i → (x : B) (a : A) → i < end → x ≡ f (get_or xs i a)
      → Taking xs (map f xs) found (set out i x) end (i + 1)
  more_mapped {i = i} t x a h e = taking_more t x (f a) h (e ∙ sym (get_or_map f xs i a (f a) (omega arith)))

-- ---- gates

-- the gate whose kind stands at a place, and its left and right wire after it
abbrev pub gate_at : List ℤ → ℕ → Gate
gate_at xs at = gate (word_at xs at) (word_at xs (at + 1)) (word_at xs (at + 2))

-- the gates of a list are those that begin at each third of its numbers
pub gates_cut : (xs : List ℤ) → gates_of xs ≡ map (λ row. gate_at row 0) (cut 3 (length xs / 3) xs)
unfolding gates_of cut
gates_cut xs = refl

pub length_gates : (xs : List ℤ) → length (gates_of xs) ≡ length xs / 3
unfolding gates_of cut
length_gates xs = length-map (cut 3 (length xs / 3) xs) (λ row. gate_at row 0) ∙ length_cut 3 (length xs / 3) xs

-- gate i begins at 3·i
pub gate_is : (xs : List ℤ) (i : ℕ) (z : Gate) → i < length xs / 3 → gate_at xs (i * 3) ≡ get_or (gates_of xs) i z
unfolding gates_of cut
gate_is xs i z h = sym (
    get_or_map (λ row. gate_at row 0) (cut 3 (length xs / 3) xs) i [] z (omega (arith, length_cut 3 (length xs / 3) xs))
    ∙ rw (at 0 (lit< tt), at 1 (lit< tt), at 2 (lit< tt), add-zero)
    )
  where
    at : (j : ℕ) → j < 3 → get_or (get_or (cut 3 (length xs / 3) xs) i []) j (pos 0) ≡ get_or xs (i * 3 + j) (pos 0)
    at j g = get_or_cut_entry 3 (length xs / 3) xs i j [] (pos 0) h g

-- the array that they are put into, as found
unfoldable pub no_gates : List Gate
no_gates = replicate 5200 (gate 0 0 0)

pub length_no_gates : length no_gates ≡ 5200
unfolding no_gates
length_no_gates = length-replicate 5200 (gate 0 0 0)

-- the gates of the list at a place, and none where the array has no room for them
abbrev pub lent_gates : List ℤ → ℕ → List Gate
lent_gates call at = fitting 5200 (gates_of (list_at call at))

module _ (call : List ℤ) (at : ℕ) where
  abbrev xs : List ℤ
  xs = list_at call at

  pub count_over : 5200 < length xs / 3 → 0 ≡ length (lent_gates call at)
  count_over h = rw (fitting_over 5200 (gates_of xs) (omega (arith, length_gates xs)))

  pub count_within : length xs / 3 ≤ 5200 → length xs / 3 ≡ length (lent_gates call at)
  count_within h = rw (fitting_within 5200 (gates_of xs) (omega (arith, length_gates xs))) (sym (length_gates xs))

  -- where there is a gate i, there was room for all
  fitted : {i : ℕ} → i < length (lent_gates call at) → (lent_gates call at ≡ gates_of xs) × (length (gates_of xs) ≤ 5200)
  fitted {i} h = by_room (leb (length (gates_of xs)) 5200) refl
    where
      by_room : (t : Bool) → leb (length (gates_of xs)) 5200 ≡ t → (lent_gates call at ≡ gates_of xs) × (length (gates_of xs) ≤ 5200)
      by_room true e = let few = leb-true (length (gates_of xs)) 5200 e in (fitting_within 5200 (gates_of xs) few, few)
      by_room false e = absurd (not-suc-le-zero (rw (fitting_over 5200 (gates_of xs) (leb-false (length (gates_of xs)) 5200 e)) at h))

  -- it is among the list's gates, and its numbers are the list's
  gate_among : {i : ℕ} → i < length (lent_gates call at) → i < length xs / 3
  gate_among h = rw ((fitted h).0, length_gates) at h

  pub gate_within : {i : ℕ} → i < length (lent_gates call at) → i * 3 + 2 < length xs
  gate_within h = omega (arith, gate_among h, div-mul-le_self (length xs) 3)

  -- one gate more is put
  pub more_gates : {out : List Gate} {i : ℕ} → Put (lent_gates call at) no_gates out i → i < length (lent_gates call at)
      → Put (lent_gates call at) no_gates (set out i (gate_at xs (i * 3))) (i + 1)
  more_gates {i = i} p h =
      put_more p (gate_at xs (i * 3)) (gate 0 0 0) h (rw (fitted h).0 (omega (arith, (fitted h).1, length_no_gates))) (rw (fitted h).0 (gate_is xs i (gate 0 0 0) (gate_among h)))

-- ---- what the code takes from the front

-- what is left of a call from a place on is `drop at call`: what the front of it has is what the call has at the place
module _ (call : List ℤ) (at : ℕ) where
  pub number_left : (i : ℕ) → number_at (drop at call) i ≡ number_at call (at + i)
  number_left i = get_or-drop at call i (pos 0)

  pub word_left : (i : ℕ) → word_at (drop at call) i ≡ word_at call (at + i)
  word_left i = ap word (number_left i)

  front_word : word_at (drop at call) 0 ≡ word_at call at
  front_word = word_left 0 ∙ ap (word_at call) (add-zero at)

  rest : drop 1 (drop at call) ≡ drop (at + 1) call
  rest = drop-drop 1 at call

  rest_long : length (drop 1 (drop at call)) ≡ length call - (at + 1)
  rest_long = ap length rest ∙ length-drop (at + 1) call

  -- after a number, and the place of what is then left
  pub next_left : drop (next_at call at) call ≡ drop 1 (drop at call)
  next_left = drop_min (at + 1) call ∙ sym rest

  pub next_place : next_at call at ≡ length call - length (drop 1 (drop at call))
  next_place = omega (arith, rest_long)

  -- the list whose count stands in front
  pub list_left : list_at call at ≡ list_of (drop at call)
  unfolding list_at list_of
  list_left = by_test (leb (word_at call at) (length call - (at + 1))) refl
    where
      by_test : (t : Bool) → leb (word_at call at) (length call - (at + 1)) ≡ t → list_at call at ≡ list_of (drop at call)
      by_test true e =
          let within : next_at call at + word_at call at ≤ length call = omega (arith, leb-true (word_at call at) (length call - (at + 1)) e) in
          rw (le-leb (next_at call at + word_at call at) (length call) within, front_word, rest_long, e, next_left)
      by_test false e =
          let beyond : length call < next_at call at + word_at call at = omega (arith, leb-false (word_at call at) (length call - (at + 1)) e) in
          rw (lt-leb (next_at call at + word_at call at) (length call) beyond, front_word, rest_long, e)

  -- after it, and the place of what is then left
  pub past_left : drop (past_at call at) call ≡ past_list (drop at call)
  past_left =
      drop_min (next_at call at + word_at call at) call
      ∙ sym (drop-drop (word_at call at) (next_at call at) call)
      ∙ ap (drop (word_at call at)) next_left
      ∙ ap (λ (n : ℕ). drop n (drop 1 (drop at call))) (sym front_word)

  pub past_place : past_at call at ≡ length call - length (past_list (drop at call))
  past_place = omega (arith, ap length (sym past_left), length-drop (past_at call at) call)

  -- the gate in front, and the gates of the list in front
  pub gate_left : gate_at call at ≡ gate_of (drop at call)
  gate_left = rw (front_word, word_left 1, word_left 2)

  pub gates_left : lent_gates call at ≡ fitting 5200 (gates_of (list_of (drop at call)))
  gates_left = rw list_left

  -- what `fill` and `gates` say they took is what the list at the place is
  pub filled : {B : Type 0} (f : ℤ → B) (found out : List B) (n : ℕ) → Took (map f (list_of (drop at call))) found n out → Took (map f (list_at call at)) found n out
  filled f found out n took = rw list_left took

  pub filled_same : (found out : List ℤ) (n : ℕ) → Took (map (λ x. x) (list_of (drop at call))) found n out → Took (list_at call at) found n out
  filled_same found out n took = rw (list_left, sym (map-id (list_of (drop at call)))) took

  pub gates_filled : (out : List Gate) (n : ℕ) → Took (gates_of (list_of (drop at call))) no_gates n out
      → (n ≡ length (lent_gates call at)) × (n ≤ 5200) × (out ≡ front (lent_gates call at) no_gates)
  gates_filled out n (counted, put, inside, long) =
      let same : fitting (length no_gates) (gates_of (list_of (drop at call))) ≡ lent_gates call at = rw (length_no_gates, list_left) in
      (counted ∙ ap length same, omega (arith, inside.0, long, length_no_gates), put ∙ ap (λ (gs : List Gate). front gs no_gates) same)

-- n, q, L, E and F stand behind the call's number
pub params_left : (call : List ℤ) → params_at call ≡ params_of (drop 1 call)
params_left call = rw (word_left call 1 0, word_left call 1 1, word_left call 1 2, word_left call 1 3, word_left call 1 4)

-- ---- bytes

-- the number n by a narrower and a wider test of its size
two_tests : (n : ℕ) (t u : Bool) → leb n 255 ≡ t → leb n 4294967295 ≡ u → (cond u n 0 ≤ 255 → cond t n 0 ≡ cond u n 0) × (255 < cond u n 0 → cond t n 0 ≡ 0)
two_tests n true true e f = (λ h. refl, λ h. absurd (omega (arith, leb-true n 255 e, h)))
two_tests n true false e f = (λ h. absurd (omega (arith, leb-true n 255 e, leb-false n 4294967295 f)), λ h. absurd (omega (arith, h)))
two_tests n false true e f = (λ h. absurd (omega (arith, leb-false n 255 e, h)), λ h. refl)
two_tests n false false e f = (λ h. refl, λ h. refl)

pub byte_within : (x : ℤ) → word x ≤ 255 → byte x ≡ word x
unfolding byte word inside
byte_within (pos n) h = rw (le-leb 0 n (omega arith)) ((two_tests n (leb n 255) (leb n 4294967295) refl refl).0 (rw (le-leb 0 n (omega arith)) at h))
byte_within (negsuc n) h = refl

pub byte_over : (x : ℤ) → 255 < word x → byte x ≡ 0
unfolding byte word inside
byte_over (pos n) h = rw (le-leb 0 n (omega arith)) ((two_tests n (leb n 255) (leb n 4294967295) refl refl).1 (rw (le-leb 0 n (omega arith)) at h))
byte_over (negsuc n) h = refl

-- so that a byte is what the number is in 32 bits, where that is at most 255, and otherwise 0
pub byte_narrowed : (x : ℤ) → byte x ≡ cond (leb (word x) 255) (word x) 0
byte_narrowed x = by_test (leb (word x) 255) refl
  where
    by_test : (t : Bool) → leb (word x) 255 ≡ t → byte x ≡ cond t (word x) 0
    by_test true e = byte_within x (leb-true (word x) 255 e)
    by_test false e = byte_over x (leb-false (word x) 255 e)
