-- A file that is longer than any valid one: its head alone decides, and so its text is that of its first 20,504 bytes. The longest valid file has
-- 23 + 5·4,096 = 20,503.
use Rattle.std.specs.Prelude.{◌≡◌, refl, ◌≢◌, Bool, true, false, not, cond, List, [], ◌∷◌, ◌++◌, ℕ, ◌+◌, ◌*◌, ◌≤◌, length, take}
use Rattle.std.proofs.Common.{sym, ◌∙◌, arith, length-take-le, le-ltb, ne_eqb}
use Rattle.std.proofs.Math.Path.{ap}
use Rattle.std.proofs.Math.Seq.{get_or-take}
use Rattle.whole.specs.Lists.{tabulate_cong}
use Rattle.refusal.specs.First.{first_of, first_row, first_none}
use Rattle.scheme.specs.Calls.{bad_params, differs}
use Rattle.scheme.specs.Passed.{differs_is}
use Rattle.circuit.specs.Circuits.{bad_counts}
use Rattle.circuit.specs.Answers.{gates_within}
use Rattle.circuitfile.specs.File.{big_endian, field, is_known, file_params, file_inputs, file_gate_count, head_rows}
use Rattle.circuitfile.specs.Text.{word_refused, text}
use Rattle.circuitfile.specs.Order.{check_headed}
use Rattle.circuitfile.specs.Lines.{pair_line, text_refused}

-- ---- the head of the first n bytes is the file's

module _ (file : List ℕ) (n : ℕ) (h : 23 ≤ n) where
  field_same : (at width : ℕ) → at + width ≤ 23 → field (take n file) at width ≡ field file at width
  unfolding field
  field_same at width g = ap big_endian (tabulate_cong width _ _ (λ i inside. get_or-take n file (at + i) 0 (omega arith)))

  known_same : is_known (take n file) ≡ is_known file
  unfolding is_known
  known_same =
      rw (
        get_or-take n file 0 0 (omega arith),
        get_or-take n file 1 0 (omega arith),
        get_or-take n file 2 0 (omega arith),
        field_same 3 2 (omega arith),
      )

  params_same : file_params (take n file) ≡ file_params file
  unfolding file_params
  params_same =
      rw (
        field_same 5 2 (omega arith),
        field_same 7 4 (omega arith),
        field_same 11 2 (omega arith),
        field_same 13 4 (omega arith),
        field_same 17 2 (omega arith),
      )

  inputs_same : file_inputs (take n file) ≡ file_inputs file
  unfolding file_inputs
  inputs_same = field_same 19 2 (omega arith)

  gates_same : file_gate_count (take n file) ≡ file_gate_count file
  unfolding file_gate_count
  gates_same = field_same 21 2 (omega arith)

-- ---- of a file that is too long the head refuses

-- 11, 1, 2, and else 12
abbrev long_number : Bool → Bool → Bool → ℕ
long_number known ranges counts = cond (not known) 11 (cond ranges 1 (cond counts 2 12))

number_some : (known ranges counts : Bool) → long_number known ranges counts ≢ 0
number_some true true counts e = omega arith
number_some true false true e = omega arith
number_some true false false e = omega arith
number_some false ranges counts e = omega arith

unfoldable long_of : List ℕ → ℕ
long_of file = long_number (is_known file) (bad_params (file_params file)) (bad_counts (file_inputs file) (file_gate_count file))

some_number : (file : List ℕ) → long_of file ≢ 0
unfolding long_of
some_number file = number_some (is_known file) (bad_params (file_params file)) (bad_counts (file_inputs file) (file_gate_count file))

long_head : (file : List ℕ) → 20504 ≤ length file
    → first_of (head_rows file) ≡ long_of file
unfolding head_rows long_of
long_head file h =
    simp (first_row, first_none, le-ltb (length file) 23 (omega arith))
    (ap (λ (k : ℕ). cond (not (is_known file)) 11 (cond (bad_params (file_params file)) 1 k)) (by_counts (bad_counts (file_inputs file) (file_gate_count file)) refl))
  where
    by_counts : (t : Bool) → bad_counts (file_inputs file) (file_gate_count file) ≡ t
        → ◌≡◌ {A = ℕ} (cond t 2 (cond (differs (length file) (23 + 5 * file_gate_count file)) 12 0)) (cond t 2 12)
    by_counts true e = refl
    by_counts false e =
        rw (
          differs_is,
          ne_eqb (length file) (23 + 5 * file_gate_count file) (λ z. omega (arith, gates_within (file_inputs file) (file_gate_count file) e)),
        )

-- ---- so its text is that of its first 20,504 bytes

pub long_text : (file : List ℕ) → 20504 ≤ length file → text (take 20504 file) ≡ text file
unfolding long_of
long_text file h =
    sym (refuses (take 20504 file) (omega (arith, length-take-le 20504 file h))) ∙ rw same (refuses file h)
  where
    refuses : (file : List ℕ) → 20504 ≤ length file → pair_line (word_refused ++ (32 ∷ [])) (long_of file) 0 ≡ text file
    refuses file h = text_refused file (check_headed file (sym (long_head file h)) (some_number file)) (some_number file)

    same : long_of (take 20504 file) ≡ long_of file
    same = rw (known_same file 20504 (omega arith), params_same file 20504 (omega arith), inputs_same file 20504 (omega arith), gates_same file 20504 (omega arith))
