-- `range::all_within`: one error more is counted where it is beyond the limit. Leans on `Beyond` for what one error adds.
use Rattle.std.proofs.Common.{◌≡◌, ap, ◌∙◌, arith, rules, get_or, pos, nat_abs, nat_le, to_z-of_z, SFits, w64, leb-true, leb-false}
use Rattle.whole.specs.Lists.{count_start, count_step}
use Rattle.passes.proofs.Beyond.{bit}
use Rattle.passes.proofs.range.all_within.Goals as goal

pub loop-e-init : goal.loop-e-init
loop-e-init c = count_start _ _

pub loop-e-preserved : goal.loop-e-preserved
loop-e-preserved c =
    let fits : SFits w64 (get_or c.args.errors.now c.loop-e.e-index (pos 0)) = search rules in
    let size_is : c.unsigned_abs.result ≡ nat_abs (get_or c.args.errors.now c.loop-e.e-index (pos 0)) = c.unsigned_abs.ensures.value ∙ ap nat_abs (to_z-of_z fits) in
    count_step c.loop-e.invariant (pos 0) c.loop-e-test.true
    (bit _ (nat_le (nat_abs (get_or c.args.errors.now c.loop-e.e-index (pos 0))) c.args.limit)
    (omega arith)
    (λ e. omega (arith, leb-true (nat_abs (get_or c.args.errors.now c.loop-e.e-index (pos 0))) c.args.limit e))
    (λ e. omega (arith, leb-false (nat_abs (get_or c.args.errors.now c.loop-e.e-index (pos 0))) c.args.limit e)))
