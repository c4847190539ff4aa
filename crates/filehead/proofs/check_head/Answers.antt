-- `check_head` answers by the rows of the head: each `refuse_if` asks the next row's test.
use Rattle.std.proofs.Common.{◌≡◌, refl, sym, ap, ap₂, ◌∙◌, Bool, not, List, ℕ, ◌+◌, ◌*◌, eqb, length}
use Rattle.refusal.specs.declared.Params.{Params}
use Rattle.refusal.specs.Parameters.{in_range}
use Rattle.refusal.proofs.Given.{given, refuses, goes_on, last_row}
use Rattle.scheme.specs.Calls.{bad_params, differs}
use Rattle.scheme.specs.Passed.{differs_is}
use Rattle.circuit.specs.Circuits.{bad_counts}
use Rattle.circuitfile.specs.File.{file_params, file_inputs, file_gate_count, head_rows}
use Rattle.filehead.proofs.check_head.Goals as goal

-- the tests that were asked are those of the rows
params_asked : (file : List ℕ) {p : Params} {b : Bool} → p ≡ file_params file → b ≡ in_range p → not b ≡ bad_params (file_params file)
unfolding bad_params
params_asked file e f = ap not (f ∙ ap in_range e)

counts_asked : (file : List ℕ) {inputs gates : ℕ} {b : Bool} → inputs ≡ file_inputs file → gates ≡ file_gate_count file → b ≡ bad_counts inputs gates
    → b ≡ bad_counts (file_inputs file) (file_gate_count file)
counts_asked file e f g = g ∙ ap₂ bad_counts e f

length_asked : (file : List ℕ) {gates : ℕ} → gates ≡ file_gate_count file → not (eqb (length file) (23 + 5 * gates)) ≡ differs (length file) (23 + 5 * file_gate_count file)
length_asked file e = sym (differs_is _ _) ∙ ap (λ (n : ℕ). differs (length file) (23 + 5 * n)) e

pub returns-in_err-refuse_if : goal.returns-in_err-refuse_if
unfolding head_rows
returns-in_err-refuse_if c = given (head_rows c.args.file.now) (refuses refl c.refuse_if.ensures c.in_err-refuse_if.was refl c.from_residual.ensures.1)

pub returns-in_err-refuse_if-2 : goal.returns-in_err-refuse_if-2
unfolding head_rows
returns-in_err-refuse_if-2 c =
    given (head_rows c.args.file.now)
    (goes_on c.refuse_if.ensures c.in_ok-refuse_if.was refl
    (refuses refl c.refuse_if-2.ensures c.in_err-refuse_if-2.was (ap not c.is_known.ensures) c.from_residual-in_err-refuse_if-2.ensures.1))

pub returns-in_err-refuse_if-3 : goal.returns-in_err-refuse_if-3
unfolding head_rows
returns-in_err-refuse_if-3 c =
    given (head_rows c.args.file.now)
    (goes_on c.refuse_if.ensures c.in_ok-refuse_if.was refl
    (goes_on c.refuse_if-2.ensures c.in_ok-refuse_if-2.was (ap not c.is_known.ensures)
    (refuses refl c.refuse_if-3.ensures c.in_err-refuse_if-3.was (params_asked _ c.params.ensures c.in_range.ensures) c.from_residual-in_err-refuse_if-3.ensures.1)))

pub returns-in_err-refuse_if-4 : goal.returns-in_err-refuse_if-4
unfolding head_rows
returns-in_err-refuse_if-4 c =
    given (head_rows c.args.file.now)
    (goes_on c.refuse_if.ensures c.in_ok-refuse_if.was refl
    (goes_on c.refuse_if-2.ensures c.in_ok-refuse_if-2.was (ap not c.is_known.ensures)
    (goes_on c.refuse_if-3.ensures c.in_ok-refuse_if-3.was (params_asked _ c.params.ensures c.in_range.ensures)
    (refuses refl c.refuse_if-4.ensures c.in_err-refuse_if-4.was (counts_asked _ c.inputs.ensures.0 c.gate_count-gates.ensures.0 c.are_bad_counts.ensures)
    c.from_residual-in_err-refuse_if-4.ensures.1))))

pub returns : goal.returns
unfolding head_rows
returns c =
    given (head_rows c.args.file.now)
    (goes_on c.refuse_if.ensures c.in_ok-refuse_if.was refl
    (goes_on c.refuse_if-2.ensures c.in_ok-refuse_if-2.was (ap not c.is_known.ensures)
    (goes_on c.refuse_if-3.ensures c.in_ok-refuse_if-3.was (params_asked _ c.params.ensures c.in_range.ensures)
    (goes_on c.refuse_if-4.ensures c.in_ok-refuse_if-4.was (counts_asked _ c.inputs.ensures.0 c.gate_count-gates.ensures.0 c.are_bad_counts.ensures)
    (last_row refl c.refuse_if-5.ensures (length_asked _ c.gate_count-gates.ensures.0))))))
