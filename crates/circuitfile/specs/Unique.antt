-- Each promise of the calls on a circuit file has one answer: what meets a promise on the same loans is the same, buffers included. It is one law, `same_answer`, for each field.
use Rattle.std.specs.Prelude.{◌≡◌, List, ℕ, Result, Ok, Err}
use Rattle.std.proofs.Common.{sym, ap}
use Rattle.refusal.specs.declared.Refusal.{Refusal}
use Rattle.refusal.specs.Answer.{refused_not_done, same_refusal}
use Rattle.refusal.specs.First.{same_answer}
use Rattle.circuitfile.specs.File.{CheckPromise, PlanFilePromise}
use Rattle.circuitfile.specs.Text.{Printed, printed_of, TextPromise}

pub check_unique : (file : List ℕ) {r r' : ℕ} → CheckPromise file r → CheckPromise file r' → r ≡ r'
check_unique file x y = same_answer x.answer y.answer

pub plan_file_unique : (file buffer : List ℕ) {r r' : ℕ} {bounds bounds' : List ℕ} → PlanFilePromise file buffer r bounds → PlanFilePromise file buffer r' bounds'
    → (r ≡ r') × (bounds ≡ bounds')
plan_file_unique file buffer x y = (same_answer x.answer y.answer, same_answer x.bounds_left y.bounds_left)

pub text_unique : (file buffer : List ℕ) {r r' : Printed} {printed printed' : List ℕ} → TextPromise file buffer r printed → TextPromise file buffer r' printed'
    → (r ≡ r') × (printed ≡ printed')
text_unique file buffer x y = (same_answer x.answer y.answer, same_answer x.buffer_left y.buffer_left)

-- the paper's form of the answer tells the answer: so what the call returns is one too

pub printed_told : {r r' : Result ℕ Refusal} → printed_of r ≡ printed_of r' → r ≡ r'
printed_told {r = Ok n} {r' = Ok m} e = ap Ok (ap (λ (x : Printed). x.bytes) e)
printed_told {r = Ok n} {r' = Err d} e = absurd (refused_not_done d (ap (λ (x : Printed). x.number) e))
printed_told {r = Err d} {r' = Ok n} e = absurd (refused_not_done d (sym (ap (λ (x : Printed). x.number) e)))
printed_told {r = Err d} {r' = Err d'} e = ap Err (same_refusal d d' (ap (λ (x : Printed). x.number) e) (ap (λ (x : Printed). x.place) e))
