-- `gates::not` answers and writes as NOT is defined: where its check refuses nothing, and otherwise (`not_ready`) what `not_into` writes.
use Rattle.std.proofs.Common.{refl}
use Rattle.refusal.proofs.Given.{passed_up}
use Rattle.scheme.specs.Calls.{not_loans}
use Rattle.keys.specs.Chain.{params_modulus}
use Rattle.gates.proofs.Ready.{not_ready}
use Rattle.gates.proofs.Ends.{not_passed, not_refused, not_done}
use Rattle.gates.proofs.not.Goals as goal

pub returns-in_err-bound : goal.returns-in_err-bound
returns-in_err-bound c =
    not_refused (not_loans c.args.p c.args.c.now c.args.bound c.args.out.now) c.check_not.ensures c.in_err-bound.was (passed_up _ c.from_residual.ensures.1)

pub of-requires : goal.of-requires
of-requires c =
    let lent = not_loans c.args.p c.args.c.now c.args.bound c.args.out.now in
    params_modulus (not_ready lent (not_passed lent c.check_not.ensures c.in_ok-bound.was)).range

pub not_into-requires : goal.not_into-requires
not_into-requires c =
    let lent = not_loans c.args.p c.args.c.now c.args.bound c.args.out.now in
    rw c.of.ensures (not_ready lent (not_passed lent c.check_not.ensures c.in_ok-bound.was)).into

pub returns : goal.returns
returns c = not_done (not_loans c.args.p c.args.c.now c.args.bound c.args.out.now) c.check_not.ensures c.in_ok-bound.was refl (rw c.of.ensures at c.not_into.ensures)
