-- `keys::check_key` answers by the rows of the key check: each `refuse_if` asks the next row's test.
use Rattle.std.proofs.Common.{refl, sym, ap, ◌∙◌, not}
use Rattle.scheme.specs.Calls.{bad_params, key_check_loans, key_check_rows, key_check_answer}
use Rattle.refusal.proofs.Given.{given, refuses, goes_on, last_row, was_false}
use Rattle.keys.specs.Chain.{short, answered_range}
use Rattle.keys.proofs.check_key.Goals as goal

pub returns-in_err-refuse_if : goal.returns-in_err-refuse_if
unfolding key_check_answer key_check_rows bad_params
returns-in_err-refuse_if c =
    record {
      answer = given (key_check_rows (key_check_loans c.args.p c.args.s.now))
          (refuses refl c.refuse_if.ensures c.in_err-refuse_if.was (ap not c.in_range.ensures) c.from_residual.ensures.1);
    }

pub returns-in_err-refuse_if-2 : goal.returns-in_err-refuse_if-2
unfolding key_check_answer key_check_rows bad_params
returns-in_err-refuse_if-2 c =
    record {
      answer = given (key_check_rows (key_check_loans c.args.p c.args.s.now))
          (goes_on c.refuse_if.ensures c.in_ok-refuse_if.was (ap not c.in_range.ensures)
          (refuses refl c.refuse_if-2.ensures c.in_err-refuse_if-2.was c.length_differs.ensures c.from_residual-in_err-refuse_if-2.ensures.1));
    }

pub is_bad_key-requires : goal.is_bad_key-requires
is_bad_key-requires c =
    short (answered_range _ c.in_range.ensures (was_false c.refuse_if.ensures c.in_ok-refuse_if.was))
    (sym c.length_differs.ensures ∙ was_false c.refuse_if-2.ensures c.in_ok-refuse_if-2.was)

pub returns : goal.returns
unfolding key_check_answer key_check_rows bad_params
returns c =
    record {
      answer = given (key_check_rows (key_check_loans c.args.p c.args.s.now))
          (goes_on c.refuse_if.ensures c.in_ok-refuse_if.was (ap not c.in_range.ensures)
          (goes_on c.refuse_if-2.ensures c.in_ok-refuse_if-2.was c.length_differs.ensures
          (last_row refl c.refuse_if-3.ensures c.is_bad_key.ensures)));
    }
