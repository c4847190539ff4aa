-- `put_text` writes all lines, or the last line of a refusal, as `text` has it.
use Rattle.std.proofs.Common.{◌≡◌, refl, sym, ap, ◌∙◌, List, ℕ, ◌+◌, ◌≤◌, ◌<◌, length, take, length-take-le, Result, Ok, Err, arith}
use Rattle.refusal.specs.declared.Refusal.{Refusal}
use Rattle.refusal.specs.Answer.{Answer, refusal_number, refusal_place, refusal_numbered, answer_to}
use Rattle.refusal.specs.First.{refused}
use Rattle.circuitfile.specs.File.{file_inputs, file_gate_count, file_bounds}
use Rattle.circuitfile.specs.Text.{word_refused}
use Rattle.circuitfile.specs.Order.{check_refusal, check_passes, check_small, check_place}
use Rattle.circuitfile.specs.Lines.{text_refused, text_done}
use Rattle.gatfile.specs.Settled.{bounds_told, bounds_answer, told_refusal, bounds_listed, table_front}
use Rattle.text.proofs.put_text.Goals as goal

module _ (file : List ℕ) {r : Result (List ℕ) Refusal} (e : bounds_told r ≡ bounds_answer file) where
  -- the check passes
  module _ {t : List ℕ} (h : r ≡ Ok t) where
    passes : refused 0 0 ≡ check_refusal file
    passes = sym (ap answer_to h) ∙ told_refusal file r e

    bounds_first : {n : ℕ} → n ≡ file_inputs file + file_gate_count file → (n ≤ length t) × (take n t ≡ file_bounds file)
    bounds_first = table_front file (bounds_listed file r e h)

  -- it refuses
  module _ {d : Refusal} (h : r ≡ Err d) where
    refuses : refused (refusal_number d) (refusal_place d) ≡ check_refusal file
    refuses = sym (ap answer_to h) ∙ told_refusal file r e

    small : (refusal_number d < 13) × (refusal_place d < 65536)
    small = (rw (ap (λ (a : Answer). a.number) refuses) (check_small file), rw (ap (λ (a : Answer). a.place) refuses) (check_place file))

pub slice_bounds-table-end : goal.slice_bounds-table-end
slice_bounds-table-end c = (bounds_first c.args.file.now c.bounds.ensures c.in-Ok.is c.wire_count.ensures.0).0

pub slice_bounds-put_bounds-end : goal.slice_bounds-put_bounds-end
slice_bounds-put_bounds-end c = sym (length-take-le _ _ (bounds_first c.args.file.now c.bounds.ensures c.in-Ok.is c.wire_count.ensures.0).0)

pub invariant_of-put_bounds : goal.invariant_of-put_bounds
invariant_of-put_bounds c = record { right = check_passes _ (passes c.args.file.now c.bounds.ensures c.in-Ok.is) refl }

pub put_bounds-requires : goal.put_bounds-requires
put_bounds-requires c = (c.requires, (bounds_first c.args.file.now c.bounds.ensures c.in-Ok.is c.wire_count.ensures.0).1)

pub put_pair-requires : goal.put_pair-requires
put_pair-requires c =
    let s = small c.args.file.now c.bounds.ensures c.in-Err.is in
    (omega arith, omega (arith, c.number.ensures), omega (arith, c.place.ensures), rw c.requires (omega arith))

pub returns-in-Ok : goal.returns-in-Ok
returns-in-Ok c = c.put_bounds.ensures ∙ text_done _ (passes c.args.file.now c.bounds.ensures c.in-Ok.is) refl

pub returns-in-Err : goal.returns-in-Err
unfolding word_refused
returns-in-Err c =
    let line = rw (c.requires, c.from.ensures, c.number.ensures, c.place.ensures) at c.put_pair.ensures in
    line ∙ text_refused _ (refuses c.args.file.now c.bounds.ensures c.in-Err.is) (λ z. omega (arith, z, refusal_numbered c.in-Err.r))
