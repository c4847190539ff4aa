-- The four ends of planning on a file: what each answers, and what it leaves in the buffer of bounds.
use Rattle.std.proofs.Common.{◌≡◌, sym, ap, ◌∙◌, true, not, List, ℕ, ◌+◌, ◌*◌, eqb, length, Result, Ok, Err}
use mathlib.Core.List.{flat_map}
use Rattle.refusal.specs.declared.Refusal.{Refusal}
use Rattle.refusal.specs.declared.Refusal.TheVariants.{Length}
use Rattle.refusal.specs.Answer.{Answer, answer_to}
use Rattle.refusal.specs.First.{answer_of, answer_front}
use Rattle.refusal.proofs.Given.{refused_by, refused_number, refused_kept, done_written}
use Rattle.scheme.specs.Passed.{differs_is, lengths_same}
use Rattle.circuitfile.specs.File.{file_inputs, file_gate_count, head_rows, check_rows, plan_file_rows, file_bounds, four_bytes, plan_file_buffer}
use Rattle.circuitfile.specs.Order.{HeadRight, other_length, gate_answer, check_refusal, plan_refusal, plan_refused, plan_settled}

-- where the head refuses, the check does
pub check_refused : (file : List ℕ) {A B : Type 0} {x : Result A Refusal} {r : Result B Refusal} {d : Refusal} → answer_to x ≡ answer_of (head_rows file) → x ≡ Err d → r ≡ Err d
    → answer_to r ≡ check_refusal file
unfolding check_rows
check_refused file e g h = ap answer_to h ∙ sym (ap answer_to g) ∙ e ∙ sym (answer_front (head_rows file) _ (refused_number (refused_by (head_rows file) e g)))

module _ (file buffer : List ℕ) where
  abbrev pub Planned : Result (Unit {0}) Refusal → List ℕ → Type 0
  Planned r out = (answer_to r ≡ plan_refusal file buffer) × (out ≡ plan_file_buffer file buffer)

  module _ {r : Result (Unit {0}) Refusal} {d : Refusal} (h : r ≡ Err d) where
    -- where planning refuses, the buffer is as found
    refused_end : answer_to r ≡ plan_refusal file buffer → Planned r buffer
    unfolding plan_file_buffer
    refused_end e = (e, refused_kept (refused_by (plan_file_rows file buffer) e h) _ buffer)

    -- the head refuses
    pub planned_headed : {A : Type 0} {x : Result A Refusal} → answer_to x ≡ answer_of (head_rows file) → x ≡ Err d → Planned r buffer
    unfolding plan_file_rows
    planned_headed e g =
        refused_end (ap answer_to h ∙ sym (ap answer_to g) ∙ e ∙ sym (answer_front (head_rows file) _ (refused_number (refused_by (head_rows file) e g))))

    -- a gate is refused
    pub planned_refused : {A : Type 0} {x : Result A Refusal} → HeadRight file → length buffer ≡ 4 * (file_inputs file + file_gate_count file)
        → answer_to x ≡ gate_answer file → x ≡ Err d → Planned r buffer
    planned_refused right long e g = refused_end (ap answer_to h ∙ sym (ap answer_to g) ∙ e ∙ plan_settled file right buffer (lengths_same _ _ long))

  module _ (right : HeadRight file) where
    -- the buffer has another length
    pub planned_short : {r : Result (Unit {0}) Refusal} {n : ℕ} → r ≡ Err Length → n ≡ file_inputs file + file_gate_count file → not (eqb (length buffer) (4 * n)) ≡ true
        → Planned r buffer
    planned_short h e t =
        let d : other_length file buffer ≡ true = differs_is _ _ ∙ ap (λ (n : ℕ). not (eqb (length buffer) (4 * n))) (sym e) ∙ t in
        refused_end h (ap answer_to h ∙ plan_refused file right buffer d)

    -- no gate is refused, and the bounds of all wires are written
    pub planned_done : {A : Type 0} {x : Result A Refusal} {a : A} {out : List ℕ} → length buffer ≡ 4 * (file_inputs file + file_gate_count file)
        → answer_to x ≡ gate_answer file → x ≡ Ok a → out ≡ flat_map four_bytes (file_bounds file) → Planned (Ok tt) out
    unfolding plan_file_buffer
    planned_done long e g w =
        let told = sym (ap answer_to g) ∙ e ∙ plan_settled file right buffer (lengths_same _ _ long) in
        (told, done_written _ buffer (sym (ap (λ (a : Answer). a.number) told)) w)
