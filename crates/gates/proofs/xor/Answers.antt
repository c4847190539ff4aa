-- `gates::xor` answers and writes as XOR is defined: where its check refuses nothing, and otherwise (`XorReady`) what `xor_into` writes.
use Rattle.std.proofs.Common.{refl}
use Rattle.refusal.proofs.Given.{passed_up}
use Rattle.scheme.specs.Calls.{xor_loans}
use Rattle.keys.specs.Chain.{params_modulus}
use Rattle.gates.proofs.Ready.{xor_ready}
use Rattle.gates.proofs.Ends.{xor_passed, xor_refused, xor_done}
use Rattle.gates.proofs.xor.Goals as goal

pub returns-in_err-bound : goal.returns-in_err-bound
returns-in_err-bound c =
    xor_refused (xor_loans c.args.p c.args.c.now c.args.b1 c.args.d.now c.args.b2 c.args.out.now) c.check_xor.ensures c.in_err-bound.was (passed_up _ c.from_residual.ensures.1)

pub of-requires : goal.of-requires
of-requires c =
    let lent = xor_loans c.args.p c.args.c.now c.args.b1 c.args.d.now c.args.b2 c.args.out.now in
    params_modulus (xor_ready lent (xor_passed lent c.check_xor.ensures c.in_ok-bound.was)).range

pub xor_into-requires : goal.xor_into-requires
xor_into-requires c =
    let lent = xor_loans c.args.p c.args.c.now c.args.b1 c.args.d.now c.args.b2 c.args.out.now in
    rw c.of.ensures (xor_ready lent (xor_passed lent c.check_xor.ensures c.in_ok-bound.was)).into

pub returns : goal.returns
returns c = xor_done (xor_loans c.args.p c.args.c.now c.args.b1 c.args.d.now c.args.b2 c.args.out.now) c.check_xor.ensures c.in_ok-bound.was refl (rw c.of.ensures at c.xor_into.ensures)
