-- `plan::planned` answers and writes as planning on a file is defined: each return is one of the four ends of `Ends`.
use Rattle.std.proofs.Common.{◌≡◌, sym, ap, ◌∙◌, false, not, List, ℕ, ◌+◌, ◌*◌, ◌≤◌, ◌++◌, eqb, length, take, drop, length-take-le, Result, Ok}
use mathlib.Core.List.{flat_map}
use Rattle.refusal.specs.declared.Refusal.{Refusal}
use Rattle.refusal.specs.Answer.{answer_to}
use Rattle.refusal.specs.First.{answer_of}
use Rattle.refusal.proofs.Given.{passed_up, done_by, refused_up, was_true, was_false}
use Rattle.scheme.specs.Passed.{differs_is, length_is}
use Rattle.circuitfile.specs.File.{file_inputs, file_gate_count, file_bounds, head_rows, four_bytes}
use Rattle.circuitfile.specs.Order.{HeadRight, head_right, gate_answer}
use Rattle.circuitfile.specs.Wires.{length_bounds}
use Rattle.gatfile.specs.declared.lent.CircuitFile.{CircuitFile}
use Rattle.gatfile.specs.Settled.{no_bounds, settled_bounds, wires_within, settled_table, table_front}
use Rattle.gatfile.proofs.Ends.{planned_headed, planned_short, planned_refused, planned_done}
use Rattle.gatfile.proofs.plan.planned.Goals as goal

-- where the head's check has not refused
opened : (file : List ℕ) {x : Result CircuitFile Refusal} {f : CircuitFile} → answer_to x ≡ answer_of (head_rows file) → x ≡ Ok f → HeadRight file
opened file e h = head_right file (done_by (head_rows file) e h)

-- and the length of the buffer is right
long : (file buffer : List ℕ) {n : ℕ} → n ≡ file_inputs file + file_gate_count file → not (eqb (length buffer) (4 * n)) ≡ false
    → length buffer ≡ 4 * (file_inputs file + file_gate_count file)
long file buffer e t = length_is _ _ (differs_is _ _ ∙ t) ∙ ap (λ (n : ℕ). 4 * n) e

pub returns-in_err-circuit : goal.returns-in_err-circuit
returns-in_err-circuit c =
    let up = passed_up c.from_residual.result c.from_residual.ensures.1 in
    let e = planned_headed c.args.file.now c.args.bounds.now up c.«open».ensures.answer c.in_err-circuit.was in
    record { answer = e.0; bounds_after = e.1 }

pub returns-in_err-refuse_if : goal.returns-in_err-refuse_if
returns-in_err-refuse_if c =
    let right = opened c.args.file.now c.«open».ensures.answer c.in_ok-circuit.was in
    let up = refused_up c.from_residual-in_err-refuse_if.result c.refuse_if.ensures c.in_err-refuse_if.was c.from_residual-in_err-refuse_if.ensures.1 in
    let e = planned_short c.args.file.now c.args.bounds.now right up c.wire_count-wires.ensures.0 (was_true c.refuse_if.ensures c.in_err-refuse_if.was) in
    record { answer = e.0; bounds_after = e.1 }

pub slice_bounds-table-end : goal.slice_bounds-table-end
slice_bounds-table-end c = wires_within _ (done_by (head_rows c.args.file.now) c.«open».ensures.answer c.in_ok-circuit.was) c.wire_count-wires.ensures.0

pub slice_bounds-settle-end : goal.slice_bounds-settle-end
slice_bounds-settle-end c =
    sym (length-take-le _ _ (wires_within _ (done_by (head_rows c.args.file.now) c.«open».ensures.answer c.in_ok-circuit.was) c.wire_count-wires.ensures.0))

pub settle-requires : goal.settle-requires
settle-requires c =
    let right = done_by (head_rows c.args.file.now) c.«open».ensures.answer c.in_ok-circuit.was in
    rw c.in_ok-circuit.ensures.opened (length-take-le _ _ (wires_within _ right c.wire_count-wires.ensures.0) ∙ c.wire_count-wires.ensures.0)

pub returns-in_err-settle : goal.returns-in_err-settle
returns-in_err-settle c =
    let right = opened c.args.file.now c.«open».ensures.answer c.in_ok-circuit.was in
    let even = long c.args.file.now c.args.bounds.now c.wire_count-wires.ensures.0 (was_false c.refuse_if.ensures c.in_ok-refuse_if.was) in
    let up = passed_up c.from_residual-in_err-settle.result c.from_residual-in_err-settle.ensures.1 in
    let told = rw c.in_ok-circuit.ensures.opened at c.settle.ensures.answer in
    let e = planned_refused c.args.file.now c.args.bounds.now up right even told c.in_err-settle.was in
    record { answer = e.0; bounds_after = e.1 }

-- where planning is done, the table holds the bounds of all wires at its front
filled : (file : List ℕ) {r : Result (Unit {0}) Refusal} → r ≡ Ok (tt {0}) → (found : List ℕ) {Bs : List ℕ} {n : ℕ} → answer_to r ≡ gate_answer file → Bs ≡ settled_bounds file found
    → n ≡ file_inputs file + file_gate_count file → (n ≤ length (Bs ++ drop n no_bounds)) × (take n (Bs ++ drop n no_bounds) ≡ file_bounds file)
filled file h found e w l = table_front file (settled_table file found e (ap (λ (r : Result (Unit {0}) Refusal). (answer_to r).number) h) w l) l

pub slice_bounds-table-end-2 : goal.slice_bounds-table-end-2
slice_bounds-table-end-2 c =
    let told = rw c.in_ok-circuit.ensures.opened at c.settle.ensures.answer in
    let left = rw c.in_ok-circuit.ensures.opened at c.settle.ensures.table_after in
    (filled c.args.file.now c.in_ok-settle.was _ told left c.wire_count-wires.ensures.0).0

pub slice_bounds-write_bounds-end : goal.slice_bounds-write_bounds-end
slice_bounds-write_bounds-end c =
    let told = rw c.in_ok-circuit.ensures.opened at c.settle.ensures.answer in
    let left = rw c.in_ok-circuit.ensures.opened at c.settle.ensures.table_after in
    sym (length-take-le _ _ (filled c.args.file.now c.in_ok-settle.was _ told left c.wire_count-wires.ensures.0).0)

pub write_bounds-requires : goal.write_bounds-requires
write_bounds-requires c =
    let told = rw c.in_ok-circuit.ensures.opened at c.settle.ensures.answer in
    let left = rw c.in_ok-circuit.ensures.opened at c.settle.ensures.table_after in
    let even = long c.args.file.now c.args.bounds.now c.wire_count-wires.ensures.0 (was_false c.refuse_if.ensures c.in_ok-refuse_if.was) in
    even ∙ ap (λ (n : ℕ). 4 * n) (sym (ap length (filled c.args.file.now c.in_ok-settle.was _ told left c.wire_count-wires.ensures.0).1 ∙ length_bounds _))

pub returns : goal.returns
returns c =
    let right = opened c.args.file.now c.«open».ensures.answer c.in_ok-circuit.was in
    let even = long c.args.file.now c.args.bounds.now c.wire_count-wires.ensures.0 (was_false c.refuse_if.ensures c.in_ok-refuse_if.was) in
    let told = rw c.in_ok-circuit.ensures.opened at c.settle.ensures.answer in
    let left = rw c.in_ok-circuit.ensures.opened at c.settle.ensures.table_after in
    let written = c.write_bounds.ensures ∙ ap (flat_map four_bytes) (filled c.args.file.now c.in_ok-settle.was _ told left c.wire_count-wires.ensures.0).1 in
    let e = planned_done c.args.file.now c.args.bounds.now right even told c.in_ok-settle.was written in
    record { answer = e.0; bounds_after = e.1 }
