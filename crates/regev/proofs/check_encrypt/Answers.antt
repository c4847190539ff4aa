-- `regev::check_encrypt` answers by the rows of encryption: each `refuse_if` asks the next row's test.
use Rattle.std.proofs.Common.{refl, sym, ap, ◌∙◌, not, arith, to_z-of_z}
use Rattle.whole.specs.Tests.{or_left}
use Rattle.refusal.proofs.Given.{given, refuses, goes_on, last_row, was_false}
use Rattle.scheme.specs.Calls.{bad_params, encrypt_loans, encrypt_rows}
use Rattle.keys.specs.Chain.{params_modulus, short, answered_range, or_same}
use Rattle.regev.proofs.check_encrypt.Goals as goal

pub returns-in_err-refuse_if : goal.returns-in_err-refuse_if
unfolding encrypt_rows bad_params
returns-in_err-refuse_if c =
    given (encrypt_rows (encrypt_loans c.args.p c.args.s.now c.args.bit c.args.mask.now c.args.error c.args.out.now))
    (refuses refl c.refuse_if.ensures c.in_err-refuse_if.was (ap not c.in_range.ensures) c.from_residual.ensures.1)

pub returns-in_err-refuse_if-2 : goal.returns-in_err-refuse_if-2
unfolding encrypt_rows bad_params
returns-in_err-refuse_if-2 c =
    given (encrypt_rows (encrypt_loans c.args.p c.args.s.now c.args.bit c.args.mask.now c.args.error c.args.out.now))
    (goes_on c.refuse_if.ensures c.in_ok-refuse_if.was (ap not c.in_range.ensures)
    (refuses refl c.refuse_if-2.ensures c.in_err-refuse_if-2.was (or_same (or_same c.length_differs.ensures c.length_differs-2.ensures) c.length_differs-3.ensures) c.from_residual-in_err-refuse_if-2.ensures.1))

pub returns-in_err-refuse_if-3 : goal.returns-in_err-refuse_if-3
unfolding encrypt_rows bad_params
returns-in_err-refuse_if-3 c =
    given (encrypt_rows (encrypt_loans c.args.p c.args.s.now c.args.bit c.args.mask.now c.args.error c.args.out.now))
    (goes_on c.refuse_if.ensures c.in_ok-refuse_if.was (ap not c.in_range.ensures)
    (goes_on c.refuse_if-2.ensures c.in_ok-refuse_if-2.was (or_same (or_same c.length_differs.ensures c.length_differs-2.ensures) c.length_differs-3.ensures)
    (refuses refl c.refuse_if-3.ensures c.in_err-refuse_if-3.was (c.is_bad_key.ensures) c.from_residual-in_err-refuse_if-3.ensures.1)))

pub returns-in_err-refuse_if-4 : goal.returns-in_err-refuse_if-4
unfolding encrypt_rows bad_params
returns-in_err-refuse_if-4 c =
    given (encrypt_rows (encrypt_loans c.args.p c.args.s.now c.args.bit c.args.mask.now c.args.error c.args.out.now))
    (goes_on c.refuse_if.ensures c.in_ok-refuse_if.was (ap not c.in_range.ensures)
    (goes_on c.refuse_if-2.ensures c.in_ok-refuse_if-2.was (or_same (or_same c.length_differs.ensures c.length_differs-2.ensures) c.length_differs-3.ensures)
    (goes_on c.refuse_if-3.ensures c.in_ok-refuse_if-3.was (c.is_bad_key.ensures)
    (refuses refl c.refuse_if-4.ensures c.in_err-refuse_if-4.was (c.is_bad_bit.ensures) c.from_residual-in_err-refuse_if-4.ensures.1))))

pub returns-in_err-refuse_if-5 : goal.returns-in_err-refuse_if-5
unfolding encrypt_rows bad_params
returns-in_err-refuse_if-5 c =
    given (encrypt_rows (encrypt_loans c.args.p c.args.s.now c.args.bit c.args.mask.now c.args.error c.args.out.now))
    (goes_on c.refuse_if.ensures c.in_ok-refuse_if.was (ap not c.in_range.ensures)
    (goes_on c.refuse_if-2.ensures c.in_ok-refuse_if-2.was (or_same (or_same c.length_differs.ensures c.length_differs-2.ensures) c.length_differs-3.ensures)
    (goes_on c.refuse_if-3.ensures c.in_ok-refuse_if-3.was (c.is_bad_key.ensures)
    (goes_on c.refuse_if-4.ensures c.in_ok-refuse_if-4.was (c.is_bad_bit.ensures)
    (refuses refl c.refuse_if-5.ensures c.in_err-refuse_if-5.was (rw c.of-q.ensures at c.is_outside.ensures) c.from_residual-in_err-refuse_if-5.ensures.1)))))

pub returns : goal.returns
unfolding encrypt_rows bad_params
returns c =
    given (encrypt_rows (encrypt_loans c.args.p c.args.s.now c.args.bit c.args.mask.now c.args.error c.args.out.now))
    (goes_on c.refuse_if.ensures c.in_ok-refuse_if.was (ap not c.in_range.ensures)
    (goes_on c.refuse_if-2.ensures c.in_ok-refuse_if-2.was (or_same (or_same c.length_differs.ensures c.length_differs-2.ensures) c.length_differs-3.ensures)
    (goes_on c.refuse_if-3.ensures c.in_ok-refuse_if-3.was (c.is_bad_key.ensures)
    (goes_on c.refuse_if-4.ensures c.in_ok-refuse_if-4.was (c.is_bad_bit.ensures)
    (goes_on c.refuse_if-5.ensures c.in_ok-refuse_if-5.was (rw c.of-q.ensures at c.is_outside.ensures)
    (last_row refl c.refuse_if-6.ensures (rw (to_z-of_z c.ranges.error) at c.is_exceeding.ensures)))))))

pub overflow_sub-n : goal.overflow_sub-n
overflow_sub-n c = omega (arith, (answered_range _ c.in_range.ensures (was_false c.refuse_if.ensures c.in_ok-refuse_if.was)).n_low)

pub is_bad_key-requires : goal.is_bad_key-requires
is_bad_key-requires c = short (answered_range _ c.in_range.ensures (was_false c.refuse_if.ensures c.in_ok-refuse_if.was)) (sym c.length_differs.ensures ∙ or_left _ _ (or_left _ _ (was_false c.refuse_if-2.ensures c.in_ok-refuse_if-2.was)))

pub of-q-requires : goal.of-q-requires
of-q-requires c = params_modulus (answered_range _ c.in_range.ensures (was_false c.refuse_if.ensures c.in_ok-refuse_if.was))
