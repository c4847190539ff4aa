-- `switchingkey::check_make_key` answers by the rows of the maker: each `refuse_if` asks the next row's test. That no length wraps follows from the parameters' ranges.
use Rattle.std.proofs.Common.{refl, sym, ap, ◌∙◌, not, ◌-◌, ◌≤◌, mul-le-mul, arith}
use Rattle.whole.specs.Tests.{or_left}
use Rattle.refusal.proofs.Given.{given, refuses, goes_on, last_row, was_false}
use Rattle.scheme.specs.Calls.{bad_params, make_key_loans, make_key_rows}
use Rattle.keys.specs.Chain.{params_modulus, short, answered_range, or_same}
use Rattle.switchingkey.proofs.check_make_key.Goals as goal

pub returns-in_err-refuse_if : goal.returns-in_err-refuse_if
unfolding make_key_rows bad_params
returns-in_err-refuse_if c =
    given (make_key_rows (make_key_loans c.args.p c.args.s.now c.args.masks.now c.args.errors.now c.args.out.now))
    (refuses refl c.refuse_if.ensures c.in_err-refuse_if.was (ap not c.in_range.ensures) c.from_residual.ensures.1)

pub returns-in_err-refuse_if-2 : goal.returns-in_err-refuse_if-2
unfolding make_key_rows bad_params
returns-in_err-refuse_if-2 c =
    given (make_key_rows (make_key_loans c.args.p c.args.s.now c.args.masks.now c.args.errors.now c.args.out.now))
    (goes_on c.refuse_if.ensures c.in_ok-refuse_if.was (ap not c.in_range.ensures)
    (refuses refl c.refuse_if-2.ensures c.in_err-refuse_if-2.was (or_same (or_same (or_same c.length_differs.ensures c.length_differs-2.ensures) c.length_differs-3.ensures) c.length_differs-4.ensures) c.from_residual-in_err-refuse_if-2.ensures.1))

pub returns-in_err-refuse_if-3 : goal.returns-in_err-refuse_if-3
unfolding make_key_rows bad_params
returns-in_err-refuse_if-3 c =
    given (make_key_rows (make_key_loans c.args.p c.args.s.now c.args.masks.now c.args.errors.now c.args.out.now))
    (goes_on c.refuse_if.ensures c.in_ok-refuse_if.was (ap not c.in_range.ensures)
    (goes_on c.refuse_if-2.ensures c.in_ok-refuse_if-2.was (or_same (or_same (or_same c.length_differs.ensures c.length_differs-2.ensures) c.length_differs-3.ensures) c.length_differs-4.ensures)
    (refuses refl c.refuse_if-3.ensures c.in_err-refuse_if-3.was (c.is_bad_key.ensures) c.from_residual-in_err-refuse_if-3.ensures.1)))

pub returns-in_err-refuse_if-4 : goal.returns-in_err-refuse_if-4
unfolding make_key_rows bad_params
returns-in_err-refuse_if-4 c =
    given (make_key_rows (make_key_loans c.args.p c.args.s.now c.args.masks.now c.args.errors.now c.args.out.now))
    (goes_on c.refuse_if.ensures c.in_ok-refuse_if.was (ap not c.in_range.ensures)
    (goes_on c.refuse_if-2.ensures c.in_ok-refuse_if-2.was (or_same (or_same (or_same c.length_differs.ensures c.length_differs-2.ensures) c.length_differs-3.ensures) c.length_differs-4.ensures)
    (goes_on c.refuse_if-3.ensures c.in_ok-refuse_if-3.was (c.is_bad_key.ensures)
    (refuses refl c.refuse_if-4.ensures c.in_err-refuse_if-4.was (rw c.of-q.ensures at c.is_outside_big.ensures) c.from_residual-in_err-refuse_if-4.ensures.1))))

pub returns : goal.returns
unfolding make_key_rows bad_params
returns c =
    given (make_key_rows (make_key_loans c.args.p c.args.s.now c.args.masks.now c.args.errors.now c.args.out.now))
    (goes_on c.refuse_if.ensures c.in_ok-refuse_if.was (ap not c.in_range.ensures)
    (goes_on c.refuse_if-2.ensures c.in_ok-refuse_if-2.was (or_same (or_same (or_same c.length_differs.ensures c.length_differs-2.ensures) c.length_differs-3.ensures) c.length_differs-4.ensures)
    (goes_on c.refuse_if-3.ensures c.in_ok-refuse_if-3.was (c.is_bad_key.ensures)
    (goes_on c.refuse_if-4.ensures c.in_ok-refuse_if-4.was (rw c.of-q.ensures at c.is_outside_big.ensures)
    (last_row refl c.refuse_if-5.ensures (c.is_exceeding.ensures))))))

pub overflow_sub-n : goal.overflow_sub-n
overflow_sub-n c = omega (arith, (answered_range _ c.in_range.ensures (was_false c.refuse_if.ensures c.in_ok-refuse_if.was)).n_low)

pub overflow_mul-n : goal.overflow_mul-n
overflow_mul-n c =
    let high = (answered_range _ c.in_range.ensures (was_false c.refuse_if.ensures c.in_ok-refuse_if.was)).n_high in
    let less : c.args.p.n - 1 ≤ 1024 = omega (arith, high) in
    omega (arith, mul-le-mul less (mul-le-mul high high))

pub overflow_mul-n-2 : goal.overflow_mul-n-2
overflow_mul-n-2 c =
    let high = (answered_range _ c.in_range.ensures (was_false c.refuse_if.ensures c.in_ok-refuse_if.was)).n_high in
    omega (arith, mul-le-mul high (mul-le-mul high high))

pub is_bad_key-requires : goal.is_bad_key-requires
is_bad_key-requires c = short (answered_range _ c.in_range.ensures (was_false c.refuse_if.ensures c.in_ok-refuse_if.was)) (sym c.length_differs.ensures ∙ or_left _ _ (or_left _ _ (or_left _ _ (was_false c.refuse_if-2.ensures c.in_ok-refuse_if-2.was))))

pub of-q-requires : goal.of-q-requires
of-q-requires c = params_modulus (answered_range _ c.in_range.ensures (was_false c.refuse_if.ensures c.in_ok-refuse_if.was))
