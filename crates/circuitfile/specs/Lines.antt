-- The lines of the text: the word of each kind of wire, the last line as a word and two numbers, and how long lines are.
use Rattle.std.specs.Prelude.{◌≡◌, ◌≢◌, get_or}
use Rattle.std.proofs.Math.Path.{refl, sym}
use Rattle.std.proofs.Common.{ap, ◌∙◌, length-append}
use mathlib.Core.List.{List, [], ◌∷◌, ◌++◌, append_assoc, flat_map}
use Prim.Native.Nat.{ℕ, ◌+◌, ◌-◌, ◌/◌, ◌≤◌, ◌<◌}
use native.Mathlib.Omega.{arith}
use Rattle.std.proofs.Math.ListN.{length}
use Rattle.whole.specs.Lists.{tabulate, length_tabulate, get_or_tabulate}
use Rattle.refusal.specs.declared.Params.{Params}
use Rattle.refusal.specs.Answer.{Answer}
use Rattle.refusal.specs.First.{first_of, done_or_done, done_or_refused}
use Rattle.refusal.specs.Order.{position_in, order, position, in_order, Foremost}
use Rattle.refusal.proofs.Order.{first_foremost}
use Rattle.circuitfile.specs.File.{file_inputs, file_gate_count, file_params, file_bounds, check_rows}
use Rattle.circuitfile.specs.Text.{word_ok, word_refused, decimal, wire_line, kind_word, wire_lines, ok_line, refused_line, largest_bound, text, text_rows, text_answer}
use Rattle.circuitfile.specs.Order.{check_refusal}
use Rattle.circuitfile.specs.Wires.{length_bounds}
use Rattle.circuitfile.specs.Digits.{decimal_few}

-- ---- lines

-- the line of a wire in three fields, each with the byte that ends it
pub wire_fields : (wire : ℕ) (kind : List ℕ) (bound : ℕ) → (decimal wire ++ (32 ∷ [])) ++ (kind ++ (32 ∷ [])) ++ (decimal bound ++ (10 ∷ [])) ≡ wire_line wire kind bound
unfolding wire_line
wire_fields wire kind bound = simp append_assoc

-- the lines of all wires, one for each
abbrev pub line_of : List ℕ → ℕ → List ℕ
line_of file wire = wire_line wire (kind_word file wire) (get_or (file_bounds file) wire 0)

abbrev pub file_wires : List ℕ → List ℕ
file_wires file = tabulate (file_inputs file + file_gate_count file) (λ wire. wire)

pub wire_lines_lem : (file : List ℕ) → flat_map (line_of file) (file_wires file) ≡ wire_lines file
unfolding wire_lines
wire_lines_lem file = refl

pub line_at : (file : List ℕ) (wire : ℕ) {Bs : List ℕ} → Bs ≡ file_bounds file → wire < length Bs
    → (wire < length (file_wires file)) × (wire_line wire (kind_word file wire) (get_or Bs wire 0) ≡ line_of file (get_or (file_wires file) wire 0))
line_at file wire e h =
    let inside : wire < file_inputs file + file_gate_count file = rw (e, length_bounds) at h in
    (rw length_tabulate inside, rw (e, get_or_tabulate (file_inputs file + file_gate_count file) (λ wire. wire) wire 0 inside))

-- the last line: a word, with its space, and two numbers
unfoldable pub pair_line : List ℕ → ℕ → ℕ → List ℕ
pair_line word x y = word ++ (decimal x ++ (32 ∷ [])) ++ (decimal y ++ (10 ∷ []))

pair_flat : (word : List ℕ) (x y : ℕ) → pair_line (word ++ (32 ∷ [])) x y ≡ word ++ (32 ∷ []) ++ decimal x ++ (32 ∷ []) ++ decimal y ++ (10 ∷ [])
unfolding pair_line
pair_flat word x y = simp append_assoc

pub ok_line_lem : (file : List ℕ) {Bs : List ℕ} {p : Params} → Bs ≡ file_bounds file → p ≡ file_params file
    → pair_line (word_ok ++ (32 ∷ [])) (get_or Bs (length Bs - 1) 0) ((p.q - 1) / 4) ≡ ok_line file
unfolding ok_line largest_bound
ok_line_lem file e f = rw (e, f, length_bounds) (pair_flat word_ok _ _)

refused_line_lem : (k at : ℕ) → pair_line (word_refused ++ (32 ∷ [])) k at ≡ refused_line k at
unfolding refused_line
refused_line_lem k at = pair_flat word_refused k at

-- ---- the text, by what the check answers

module _ (file : List ℕ) {a : Answer} (e : a ≡ check_refusal file) where
  number : a.number ≡ first_of (check_rows file)
  number = ap (λ (a : Answer). a.number) e

  pub text_refused : a.number ≢ 0 → pair_line (word_refused ++ (32 ∷ [])) a.number a.place ≡ text file
  unfolding text
  text_refused h = refused_line_lem a.number a.place ∙ rw e (sym (done_or_refused _ _ (λ z. h (number ∙ z))))

  pub text_done : a.number ≡ 0 → wire_lines file ++ ok_line file ≡ text file
  unfolding text
  text_done z = sym (done_or_done _ _ (sym number ∙ z))

-- ---- in a lent buffer

-- the number is the first of the order that applies, and 0 exactly when none does; and the place is 0
pub text_foremost : (file buffer : List ℕ) → Foremost (text_rows file buffer) (text_answer file buffer).number
unfolding position_in order position in_order text_rows text_answer
text_foremost file buffer = first_foremost 0 (text_rows file buffer) refl

-- ---- how long they are

pub length_field : (xs : List ℕ) (end : ℕ) → length (xs ++ (end ∷ [])) ≡ length xs + 1
length_field xs end = length-append xs (end ∷ [])

-- a wire has at most 4 digits, and a number of 32 bits at most 10
pub wire_few : (x : ℕ) → x < 10000 → length (decimal x) ≤ 4
wire_few x h = decimal_few 3 x (omega arith)

pub word_few : (x : ℕ) → x < 4294967296 → length (decimal x) ≤ 10
word_few x h = decimal_few 9 x (omega arith)
