-- `gates::and` answers and writes as AND is defined: where its check refuses nothing, and otherwise (`AndReady`) what `and_into` writes, and zeros into the scratch.
use Rattle.std.proofs.Common.{refl, ◌∙◌}
use Rattle.refusal.proofs.Given.{passed_up}
use Rattle.scheme.specs.Wording.{length_tensor}
use Rattle.scheme.specs.Calls.{and_loans}
use Rattle.keys.specs.Chain.{params_modulus}
use Rattle.gates.proofs.Ready.{and_ready}
use Rattle.gates.proofs.Ends.{and_passed, and_refused, and_done}
use Rattle.gates.proofs.and.Goals as goal

pub returns-in_err-bound : goal.returns-in_err-bound
returns-in_err-bound c =
    and_refused (and_loans c.args.p c.args.c.now c.args.b1 c.args.d.now c.args.b2 c.args.key.now c.args.scratch.now c.args.out.now) c.check_and.ensures c.in_err-bound.was (passed_up _ c.from_residual.ensures.1)

pub of-requires : goal.of-requires
of-requires c =
    let lent = and_loans c.args.p c.args.c.now c.args.b1 c.args.d.now c.args.b2 c.args.key.now c.args.scratch.now c.args.out.now in
    params_modulus (and_ready lent (and_passed lent c.check_and.ensures c.in_ok-bound.was)).bound.range

pub and_into-requires : goal.and_into-requires
and_into-requires c =
    let lent = and_loans c.args.p c.args.c.now c.args.b1 c.args.d.now c.args.b2 c.args.key.now c.args.scratch.now c.args.out.now in
    rw c.of.ensures (and_ready lent (and_passed lent c.check_and.ensures c.in_ok-bound.was)).into

pub returns : goal.returns
returns c =
    let lent = and_loans c.args.p c.args.c.now c.args.b1 c.args.d.now c.args.b2 c.args.key.now c.args.scratch.now c.args.out.now in
    let r = and_ready lent (and_passed lent c.check_and.ensures c.in_ok-bound.was) in
    and_done lent c.check_and.ensures c.in_ok-bound.was refl
    (rw (r.room, c.of.ensures) at c.and_into.ensures.out_after)
    (c.fill.ensures.after (λ y e. e) ∙ rw (c.and_into.ensures.scratch_after, length_tensor, r.into.left_long, r.into.right_long, r.room))
