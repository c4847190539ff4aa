-- `gates::check_xor` comes to the answer of XOR row by row: each `refuse_if` asks the next row's test.
use Rattle.std.proofs.Common.{refl, sym, ap, ◌∙◌, not, arith}
use Rattle.refusal.proofs.Given.{refuses, goes_on, no_rows, passed_up, was_false}
use Rattle.scheme.specs.Arithmetic.{XOR_bound}
use Rattle.scheme.specs.Calls.{bad_params, xor_rows, xor_answer}
use Rattle.scheme.specs.Passed.{bound_fits}
use Rattle.keys.specs.Chain.{params_modulus, answered_range, or_same, bounded_refused, bounded_done}
use Rattle.gates.proofs.check_xor.Goals as goal

pub returns-in_err-refuse_if : goal.returns-in_err-refuse_if
unfolding xor_answer xor_rows bad_params XOR_bound
returns-in_err-refuse_if c =
    bounded_refused _
    (refuses refl c.refuse_if.ensures c.in_err-refuse_if.was (ap not c.in_range.ensures) c.from_residual.ensures.1)
    (passed_up _ c.from_residual.ensures.1)

pub returns-in_err-refuse_if-2 : goal.returns-in_err-refuse_if-2
unfolding xor_answer xor_rows bad_params XOR_bound
returns-in_err-refuse_if-2 c =
    bounded_refused _
    (goes_on c.refuse_if.ensures c.in_ok-refuse_if.was (ap not c.in_range.ensures)
    (refuses refl c.refuse_if-2.ensures c.in_err-refuse_if-2.was (or_same (or_same c.length_differs.ensures c.length_differs-2.ensures) c.length_differs-3.ensures) c.from_residual-in_err-refuse_if-2.ensures.1))
    (passed_up _ c.from_residual-in_err-refuse_if-2.ensures.1)

pub returns-in_err-refuse_if-3 : goal.returns-in_err-refuse_if-3
unfolding xor_answer xor_rows bad_params XOR_bound
returns-in_err-refuse_if-3 c =
    bounded_refused _
    (goes_on c.refuse_if.ensures c.in_ok-refuse_if.was (ap not c.in_range.ensures)
    (goes_on c.refuse_if-2.ensures c.in_ok-refuse_if-2.was (or_same (or_same c.length_differs.ensures c.length_differs-2.ensures) c.length_differs-3.ensures)
    (refuses refl c.refuse_if-3.ensures c.in_err-refuse_if-3.was (rw c.of-q.ensures at (or_same c.is_outside.ensures c.is_outside-2.ensures)) c.from_residual-in_err-refuse_if-3.ensures.1)))
    (passed_up _ c.from_residual-in_err-refuse_if-3.ensures.1)

pub returns-in_err-refuse_if-4 : goal.returns-in_err-refuse_if-4
unfolding xor_answer xor_rows bad_params XOR_bound
returns-in_err-refuse_if-4 c =
    bounded_refused _
    (goes_on c.refuse_if.ensures c.in_ok-refuse_if.was (ap not c.in_range.ensures)
    (goes_on c.refuse_if-2.ensures c.in_ok-refuse_if-2.was (or_same (or_same c.length_differs.ensures c.length_differs-2.ensures) c.length_differs-3.ensures)
    (goes_on c.refuse_if-3.ensures c.in_ok-refuse_if-3.was (rw c.of-q.ensures at (or_same c.is_outside.ensures c.is_outside-2.ensures))
    (refuses refl c.refuse_if-4.ensures c.in_err-refuse_if-4.was (or_same c.is_over.ensures c.is_over-2.ensures) c.from_residual-in_err-refuse_if-4.ensures.1))))
    (passed_up _ c.from_residual-in_err-refuse_if-4.ensures.1)

pub returns-in_err-refuse_if-5 : goal.returns-in_err-refuse_if-5
unfolding xor_answer xor_rows bad_params XOR_bound
returns-in_err-refuse_if-5 c =
    bounded_refused _
    (goes_on c.refuse_if.ensures c.in_ok-refuse_if.was (ap not c.in_range.ensures)
    (goes_on c.refuse_if-2.ensures c.in_ok-refuse_if-2.was (or_same (or_same c.length_differs.ensures c.length_differs-2.ensures) c.length_differs-3.ensures)
    (goes_on c.refuse_if-3.ensures c.in_ok-refuse_if-3.was (rw c.of-q.ensures at (or_same c.is_outside.ensures c.is_outside-2.ensures))
    (goes_on c.refuse_if-4.ensures c.in_ok-refuse_if-4.was (or_same c.is_over.ensures c.is_over-2.ensures)
    (refuses refl c.refuse_if-5.ensures c.in_err-refuse_if-5.was (c.is_over-3.ensures) c.from_residual-in_err-refuse_if-5.ensures.1)))))
    (passed_up _ c.from_residual-in_err-refuse_if-5.ensures.1)

pub returns : goal.returns
unfolding xor_answer xor_rows bad_params XOR_bound
returns c =
    bounded_done
    (goes_on c.refuse_if.ensures c.in_ok-refuse_if.was (ap not c.in_range.ensures)
    (goes_on c.refuse_if-2.ensures c.in_ok-refuse_if-2.was (or_same (or_same c.length_differs.ensures c.length_differs-2.ensures) c.length_differs-3.ensures)
    (goes_on c.refuse_if-3.ensures c.in_ok-refuse_if-3.was (rw c.of-q.ensures at (or_same c.is_outside.ensures c.is_outside-2.ensures))
    (goes_on c.refuse_if-4.ensures c.in_ok-refuse_if-4.was (or_same c.is_over.ensures c.is_over-2.ensures)
    (goes_on c.refuse_if-5.ensures c.in_ok-refuse_if-5.was (c.is_over-3.ensures)
    (no_rows _))))))
    refl

pub overflow_add-result : goal.overflow_add-result
overflow_add-result c =
    let range = answered_range _ c.in_range.ensures (was_false c.refuse_if.ensures c.in_ok-refuse_if.was) in
    let fits = bound_fits _ _ (sym c.is_over-3.ensures ∙ was_false c.refuse_if-5.ensures c.in_ok-refuse_if-5.was) in
    omega (arith, fits, range.q_high)

pub of-q-requires : goal.of-q-requires
of-q-requires c = params_modulus (answered_range _ c.in_range.ensures (was_false c.refuse_if.ensures c.in_ok-refuse_if.was))
