-- Laws about what `specs/Lines` defines that rest on a definition which a must-fail edit turns.
use Rattle.std.specs.Prelude.{◌≡◌, Bool, cond, ltb, take, drop, Result, Ok, Err}
use Rattle.std.specs.Result.{result_unwrap_or}
use Rattle.std.proofs.Math.Path.{refl, sym}
use Rattle.std.proofs.Common.{◌∙◌, length-append, lt-ltb, le-ltb}
use Rattle.std.proofs.Math.Bool.{true, false}
use mathlib.Core.List.{List, ◌++◌}
use Prim.Native.Nat.{ℕ, zero, suc, ◌+◌, ◌*◌, ◌-◌, ◌≤◌, ◌<◌}
use native.Mathlib.Omega.{arith}
use Rattle.std.proofs.Math.ListN.{length}
use Rattle.std.proofs.Math.Seq.{take-append_seam}
use Rattle.refusal.specs.declared.Refusal.{Refusal}
use Rattle.refusal.specs.First.{first_of, place_of, done_or, are_single, place_single, first_last}
use Rattle.circuit.specs.Circuits.{by_kind}
use Rattle.circuit.specs.Records.{kind_neither}
use Rattle.circuitfile.specs.File.{field, file_inputs, file_gate}
use Rattle.circuitfile.specs.Text.{word_in, word_xor, word_and, word_not, kind_word, text, text_rows, printed, printed_of, text_answer, text_buffer, TextPromise}

-- ---- the word of a wire

module _ (file : List ℕ) (wire : ℕ) where
  pub kind_input : wire < file_inputs file → kind_word file wire ≡ word_in
  unfolding kind_word
  kind_input h = rw (lt-ltb wire (file_inputs file) h)

  module _ (h : file_inputs file ≤ wire) {k : ℕ} (e : k ≡ field file (23 + 5 * (wire - file_inputs file)) 1) where
    pub kind_gate : kind_word file wire ≡ by_kind k word_xor word_and word_not
    unfolding kind_word file_gate
    kind_gate = rw (le-ltb wire (file_inputs file) h, e)

    pub kind_xor : k ≡ 0 → kind_word file wire ≡ word_xor
    unfolding by_kind
    kind_xor z = kind_gate ∙ rw z

    pub kind_and : k ≡ 1 → kind_word file wire ≡ word_and
    unfolding by_kind
    kind_and z = kind_gate ∙ rw z

    pub kind_not : (k ≡ 0 → ⊥) → (k ≡ 1 → ⊥) → kind_word file wire ≡ word_not
    kind_not a b = kind_gate ∙ kind_neither k word_xor word_and word_not a b

  pub kind_few : length (kind_word file wire) ≤ 3
  unfolding kind_word by_kind word_in word_xor word_and word_not
  kind_few = by_wire (ltb wire (file_inputs file)) (file_gate file (wire - file_inputs file)).kind
    where
      by_wire : (t : Bool) (k : ℕ) → length (cond t word_in (by_kind k word_xor word_and word_not)) ≤ 3
      by_wire true k = omega arith
      by_wire false zero = omega arith
      by_wire false (suc zero) = omega arith
      by_wire false (suc (suc k)) = omega arith

-- ---- in a lent buffer

-- the length that is answered, 0 on a refusal
pub bytes_answered : (r : Result ℕ Refusal) → result_unwrap_or r 0 ≡ (printed_of r).bytes
bytes_answered (Ok n) = refl
bytes_answered (Err d) = refl

text_place : (file buffer : List ℕ) → place_of (text_rows file buffer) ≡ 0
unfolding are_single text_rows
text_place file buffer = place_single (text_rows file buffer) refl

module _ (file out : List ℕ) where
  -- what the call answers and leaves, by its number
  answered : {k : ℕ} → first_of (text_rows file out) ≡ k
      → TextPromise file out (printed k (done_or k (length (text file)) 0)) (done_or k (text file ++ drop (length (text file)) out) out)
  unfolding text_answer text_buffer
  answered e = rw (sym e) (record { answer = rw (text_place file out); buffer_left = refl })

  -- a buffer that is too short
  pub text_short : length out < length (text file) → TextPromise file out (printed 3 0) out
  unfolding text_rows done_or
  text_short h = answered (first_last 3 _ ∙ rw (lt-ltb (length out) (length (text file)) h))

  -- where it has room for the text, the text stands at its front, and what is answered is its length
  pub text_fits : length (text file) ≤ length out → TextPromise file out (printed 0 (length (text file))) (text file ++ drop (length (text file)) out)
  unfolding text_rows done_or
  text_fits h = answered (first_last 3 _ ∙ rw (le-ltb (length out) (length (text file)) h))

  pub text_front : length (text file) ≤ length out
      → ((text_answer file out).bytes ≤ length (text_buffer file out)) × (take (text_answer file out).bytes (text_buffer file out) ≡ text file)
  text_front h =
      let t = text_fits h in
      rw (sym t.answer, sym t.buffer_left)
      (omega (arith, length-append (text file) (drop (length (text file)) out)), take-append_seam (text file) (drop (length (text file)) out))
