-- `regev::check_decrypt` answers by the rows of decryption: each `refuse_if` asks the next row's test.
use Rattle.std.proofs.Common.{refl, sym, ap, ◌∙◌, not}
use Rattle.whole.specs.Tests.{or_left}
use Rattle.refusal.proofs.Given.{given, refuses, goes_on, last_row, was_false}
use Rattle.scheme.specs.Calls.{bad_params, decrypt_loans, decrypt_rows}
use Rattle.keys.specs.Chain.{params_modulus, short, answered_range, or_same}
use Rattle.regev.proofs.check_decrypt.Goals as goal

pub returns-in_err-refuse_if : goal.returns-in_err-refuse_if
unfolding decrypt_rows bad_params
returns-in_err-refuse_if c =
    given (decrypt_rows (decrypt_loans c.args.p c.args.s.now c.args.c.now))
    (refuses refl c.refuse_if.ensures c.in_err-refuse_if.was (ap not c.in_range.ensures) c.from_residual.ensures.1)

pub returns-in_err-refuse_if-2 : goal.returns-in_err-refuse_if-2
unfolding decrypt_rows bad_params
returns-in_err-refuse_if-2 c =
    given (decrypt_rows (decrypt_loans c.args.p c.args.s.now c.args.c.now))
    (goes_on c.refuse_if.ensures c.in_ok-refuse_if.was (ap not c.in_range.ensures)
    (refuses refl c.refuse_if-2.ensures c.in_err-refuse_if-2.was (or_same c.length_differs.ensures c.length_differs-2.ensures) c.from_residual-in_err-refuse_if-2.ensures.1))

pub returns-in_err-refuse_if-3 : goal.returns-in_err-refuse_if-3
unfolding decrypt_rows bad_params
returns-in_err-refuse_if-3 c =
    given (decrypt_rows (decrypt_loans c.args.p c.args.s.now c.args.c.now))
    (goes_on c.refuse_if.ensures c.in_ok-refuse_if.was (ap not c.in_range.ensures)
    (goes_on c.refuse_if-2.ensures c.in_ok-refuse_if-2.was (or_same c.length_differs.ensures c.length_differs-2.ensures)
    (refuses refl c.refuse_if-3.ensures c.in_err-refuse_if-3.was (c.is_bad_key.ensures) c.from_residual-in_err-refuse_if-3.ensures.1)))

pub returns : goal.returns
unfolding decrypt_rows bad_params
returns c =
    given (decrypt_rows (decrypt_loans c.args.p c.args.s.now c.args.c.now))
    (goes_on c.refuse_if.ensures c.in_ok-refuse_if.was (ap not c.in_range.ensures)
    (goes_on c.refuse_if-2.ensures c.in_ok-refuse_if-2.was (or_same c.length_differs.ensures c.length_differs-2.ensures)
    (goes_on c.refuse_if-3.ensures c.in_ok-refuse_if-3.was (c.is_bad_key.ensures)
    (last_row refl c.refuse_if-4.ensures (rw c.of-q.ensures at c.is_outside.ensures)))))

pub is_bad_key-requires : goal.is_bad_key-requires
is_bad_key-requires c = short (answered_range _ c.in_range.ensures (was_false c.refuse_if.ensures c.in_ok-refuse_if.was)) (sym c.length_differs.ensures ∙ or_left _ _ (was_false c.refuse_if-2.ensures c.in_ok-refuse_if-2.was))

pub of-q-requires : goal.of-q-requires
of-q-requires c = params_modulus (answered_range _ c.in_range.ensures (was_false c.refuse_if.ensures c.in_ok-refuse_if.was))
