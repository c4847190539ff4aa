-- How the maker of a switching key ends: refused with all as found, and done with the key.
use Rattle.std.proofs.Common.{◌≡◌, List, ℤ, ap, ◌∙◌, Result, Ok, Err, sym}
use Rattle.refusal.specs.declared.Refusal.{Refusal}
use Rattle.refusal.specs.Answer.{answer_to}
use Rattle.refusal.specs.First.{answer_of}
use Rattle.refusal.proofs.Given.{refused_by, done_by, refused_kept, done_written}
use Rattle.scheme.specs.Arithmetic.{switching_key}
use Rattle.scheme.specs.Calls.{MakeKeyLoans, make_key_rows, make_key_answer, make_key_result, MakeKeyPromise}

-- its check answered x, and it answers r
module _ (a : MakeKeyLoans) {x : Result (Unit {0}) Refusal} (told : answer_to x ≡ answer_of (make_key_rows a)) where
  pub make_key_refused : {r : Result (Unit {0}) Refusal} {e : Refusal} → x ≡ Err e → r ≡ Err e → MakeKeyPromise a (answer_to r) a.result
  unfolding make_key_answer make_key_result
  make_key_refused h g = record { answer = ap answer_to (g ∙ sym h) ∙ told; result_left = refused_kept (refused_by (make_key_rows a) told h) _ _ }

  pub make_key_done : {result : List ℤ} → x ≡ Ok (tt {0}) → result ≡ switching_key a.p.n a.p.q a.key a.masks a.errors → MakeKeyPromise a (answer_to (Ok (tt {0}))) result
  unfolding make_key_answer make_key_result
  make_key_done h w = record { answer = ap answer_to (sym h) ∙ told; result_left = done_written _ _ (done_by (make_key_rows a) told h) w }
