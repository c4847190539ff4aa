-- How XOR, NOT and AND end, by what their checks x answered: refused with all as found, and done with the bound and what was written.
use Rattle.std.proofs.Common.{◌≡◌, List, ℕ, ◌*◌, ℤ, pos, replicate, Result, Ok, Err, sym, ap, ◌∙◌}
use Rattle.refusal.specs.declared.Refusal.{Refusal}
use Rattle.refusal.specs.First.{first_of}
use Rattle.refusal.proofs.Given.{refused_kept, done_written}
use Rattle.scheme.specs.Arithmetic.{XOR, XOR_bound, NOT, NOT_bound, AND}
use Rattle.scheme.specs.Calls.{bounded_of, XorLoans, xor_rows, xor_answer, xor_result, XorPromise, NotLoans, not_rows, not_answer, not_result, NotPromise, AndLoans, and_bound, and_rows, and_answer, and_result, and_scratch, AndPromise}
use Rattle.keys.specs.Chain.{bound_stated, bound_refused}

-- where the check is passed no row applies, and what is answered is what it answered
module _ {x : Result ℕ Refusal} where
  same_end : {r y : Result ℕ Refusal} → x ≡ y → r ≡ y → bounded_of r ≡ bounded_of x
  same_end f g = ap bounded_of (g ∙ sym f)

  module _ (a : XorLoans) (told : bounded_of x ≡ xor_answer a) where
    pub xor_passed : {B : ℕ} → x ≡ Ok B → first_of (xor_rows a) ≡ 0
    unfolding xor_answer
    xor_passed h = bound_stated (xor_rows a) (XOR_bound a.left_bound a.right_bound) told h

    pub xor_refused : {r : Result ℕ Refusal} {e : Refusal} → x ≡ Err e → r ≡ Err e → XorPromise a (bounded_of r) a.result
    unfolding xor_answer xor_result
    xor_refused h g =
        record {
          answer = same_end h g ∙ told;
          result_left = refused_kept (bound_refused (xor_rows a) (XOR_bound a.left_bound a.right_bound) told h) _ _;
        }

    pub xor_done : {r : Result ℕ Refusal} {B : ℕ} {result : List ℤ} → x ≡ Ok B → r ≡ Ok B → result ≡ XOR a.p.q a.left a.right → XorPromise a (bounded_of r) result
    unfolding xor_result
    xor_done h g w = record { answer = same_end h g ∙ told; result_left = done_written _ _ (xor_passed h) w }

  module _ (a : NotLoans) (told : bounded_of x ≡ not_answer a) where
    pub not_passed : {B : ℕ} → x ≡ Ok B → first_of (not_rows a) ≡ 0
    unfolding not_answer
    not_passed h = bound_stated (not_rows a) (NOT_bound a.bound) told h

    pub not_refused : {r : Result ℕ Refusal} {e : Refusal} → x ≡ Err e → r ≡ Err e → NotPromise a (bounded_of r) a.result
    unfolding not_answer not_result
    not_refused h g =
        record { answer = same_end h g ∙ told; result_left = refused_kept (bound_refused (not_rows a) (NOT_bound a.bound) told h) _ _ }

    pub not_done : {r : Result ℕ Refusal} {B : ℕ} {result : List ℤ} → x ≡ Ok B → r ≡ Ok B → result ≡ NOT a.p.q a.ciphertext → NotPromise a (bounded_of r) result
    unfolding not_result
    not_done h g w = record { answer = same_end h g ∙ told; result_left = done_written _ _ (not_passed h) w }

  module _ (a : AndLoans) (told : bounded_of x ≡ and_answer a) where
    pub and_passed : {B : ℕ} → x ≡ Ok B → first_of (and_rows a) ≡ 0
    unfolding and_answer
    and_passed h = bound_stated (and_rows a) (and_bound a) told h

    pub and_refused : {r : Result ℕ Refusal} {e : Refusal} → x ≡ Err e → r ≡ Err e → AndPromise a (bounded_of r) a.result a.scratch
    unfolding and_answer and_result and_scratch
    and_refused h g =
        let f = bound_refused (and_rows a) (and_bound a) told h in
        record { answer = same_end h g ∙ told; result_left = refused_kept f _ _; scratch_left = refused_kept f _ _ }

    pub and_done : {r : Result ℕ Refusal} {B : ℕ} {result scratch : List ℤ} → x ≡ Ok B → r ≡ Ok B → result ≡ AND a.p.n a.p.q a.key a.left a.right
        → scratch ≡ replicate (a.p.n * a.p.n) (pos 0) → AndPromise a (bounded_of r) result scratch
    unfolding and_result and_scratch
    and_done h g w s =
        record {
          answer = same_end h g ∙ told;
          result_left = done_written _ _ (and_passed h) w;
          scratch_left = done_written _ _ (and_passed h) s;
        }
