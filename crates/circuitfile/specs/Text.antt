-- Document 01, *Circuit file and printer*: the printed text, byte for byte, and what writing it into a lent buffer leaves.
use Rattle.std.specs.Prelude.{◌≡◌, cond, ℕ, zero, suc, ◌+◌, ◌-◌, ◌/◌, ◌%◌, ltb, length, get_or, drop, Result, Ok, Err}
use mathlib.Core.List.{List, [], ◌∷◌, ◌++◌, flat_map}
use Rattle.whole.specs.Lists.{tabulate}
use Rattle.refusal.specs.declared.Refusal.{Refusal}
use Rattle.refusal.specs.Answer.{refusal_number, refusal_place}
use Rattle.refusal.specs.First.{Row, row, first_of, place_of, done_or}
use Rattle.circuit.specs.Circuits.{by_kind}
use Rattle.circuitfile.specs.File.{file_params, file_inputs, file_gate_count, file_gate, file_bounds, check_rows}

-- ---- words, in ASCII

abbrev space : List ℕ
space = 32 ∷ []

abbrev newline : List ℕ
newline = 10 ∷ []

unfoldable pub word_in : List ℕ
word_in = 73 ∷ 78 ∷ []

unfoldable pub word_xor : List ℕ
word_xor = 88 ∷ 79 ∷ 82 ∷ []

unfoldable pub word_and : List ℕ
word_and = 65 ∷ 78 ∷ 68 ∷ []

unfoldable pub word_not : List ℕ
word_not = 78 ∷ 79 ∷ 84 ∷ []

unfoldable pub word_ok : List ℕ
word_ok = 79 ∷ 75 ∷ []

unfoldable pub word_refused : List ℕ
word_refused = 82 ∷ 69 ∷ 70 ∷ 85 ∷ 83 ∷ 69 ∷ 68 ∷ []

-- the decimal digits of x, where x has at most `most` of them
unfoldable pub decimal_up_to : ℕ → ℕ → List ℕ
decimal_up_to zero x = []
decimal_up_to (suc most) x =
    let longer = decimal_up_to most (x / 10) ++ ((48 + x % 10) ∷ []) in
    cond (ltb x 10) ((48 + x) ∷ []) longer

-- a number has no more digits than its value plus one
unfoldable pub decimal : ℕ → List ℕ
decimal x = decimal_up_to (suc x) x

-- ---- lines

-- the fields wire, kind and bound
unfoldable pub wire_line : ℕ → List ℕ → ℕ → List ℕ
wire_line wire kind bound = decimal wire ++ space ++ kind ++ space ++ decimal bound ++ newline

-- IN for an input, and XOR, AND or NOT for a gate
unfoldable pub kind_word : List ℕ → ℕ → List ℕ
kind_word file wire =
    cond (ltb wire (file_inputs file))
    word_in
    (by_kind (file_gate file (wire - file_inputs file)).kind word_xor word_and word_not)

unfoldable pub wire_lines : List ℕ → List ℕ
wire_lines file =
    let Bs = file_bounds file in
    flat_map (λ wire. wire_line wire (kind_word file wire) (get_or Bs wire 0)) (tabulate (file_inputs file + file_gate_count file) (λ wire. wire))

-- the largest bound that fits: four times it is less than q
unfoldable pub largest_bound : ℕ → ℕ
largest_bound q = (q - 1) / 4

-- the output's bound, which is the last gate's, and the largest bound that fits
unfoldable pub ok_line : List ℕ → List ℕ
ok_line file =
    word_ok ++ space ++ decimal (get_or (file_bounds file) (file_inputs file + file_gate_count file - 1) 0)
    ++ space ++ decimal (largest_bound (file_params file).q) ++ newline

unfoldable pub refused_line : ℕ → ℕ → List ℕ
refused_line k at = word_refused ++ space ++ decimal k ++ space ++ decimal at ++ newline

-- ---- the text

unfoldable pub text : List ℕ → List ℕ
text file =
    done_or (first_of (check_rows file))
    (wire_lines file ++ ok_line file)
    (refused_line (first_of (check_rows file)) (place_of (check_rows file)))

-- ---- in a lent buffer

-- 3 where the buffer is shorter than the text
unfoldable pub text_rows : List ℕ → List ℕ → List Row
text_rows file buffer = row 3 (ltb (length buffer) (length (text file))) ∷ []

-- number and place, and beside them the text's length in bytes, which is 0 on a refusal
pub record Printed : Type 0 where
  pub number : ℕ
  pub place : ℕ
  pub bytes : ℕ

abbrev pub printed : ℕ → ℕ → Printed
printed k long = record { number = k; place = 0; bytes = long }

-- the answer in the paper's form, of a call that answers a length, or why it refuses
abbrev pub printed_of : Result ℕ Refusal → Printed
printed_of (Ok long) = printed 0 long
printed_of (Err r) = record { number = refusal_number r; place = refusal_place r; bytes = 0 }

-- the text's length in bytes
unfoldable pub text_answer : List ℕ → List ℕ → Printed
text_answer file buffer =
    let rows = text_rows file buffer in
    record { number = first_of rows; place = place_of rows; bytes = done_or (first_of rows) (length (text file)) 0 }

-- the text stands at the front, and the rest is as found
unfoldable pub text_buffer : List ℕ → List ℕ → List ℕ
text_buffer file buffer = done_or (first_of (text_rows file buffer)) (text file ++ drop (length (text file)) buffer) buffer

pub record TextPromise (file buffer : List ℕ) (r : Printed) (printed : List ℕ) : Type 0 where
  pub answer : r ≡ text_answer file buffer
  pub buffer_left : printed ≡ text_buffer file buffer
