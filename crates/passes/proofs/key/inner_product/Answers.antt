-- `inner_product` returns <s,c>. That no product and no sum wraps follows from the invariant: the sizes of s sum to at most 4,096, and no entry of c is
-- above 2^39 (`turn` of Sums). Assumes nothing.
use Rattle.std.proofs.Common.{◌∙◌, ap, arith, rules, length, length-append, pos, to_z, to_z-of_z, w32, w64, SFits}
use Rattle.std.proofs.lemmas.Slice.Zip.{zip_turn}
use Rattle.whole.specs.Machine.{word, widened}
use Rattle.passes.proofs.Sums.{Turn, sum_start, turn}
use Rattle.passes.proofs.key.inner_product.Goals as goal

pub loop-x-init : goal.loop-x-init
loop-x-init c = sum_start _ _

-- one product more
step : (c : goal.After-sum-1) → Turn c.args.s.now c.args.c.now (length c.loop-x.yielded) (to_z w64 c.loop-x.sum-bits) (word w64 c.from.result) (word w64 c.in-Some.y.now)
step c =
    let t = zip_turn c.args.s.now c.args.c.now c.loop-x.yielded c.into_iter-x-iterator.result c.loop-x.x-iterator c.next.new.self c.next.result (cc) (cc) c.loop-x.yielded_by (c.in-Some.x, c.in-Some.y) c.in-Some.is c.next.ensures.steps in
    let p : SFits w32 c.in-Some.x.now = search rules in
    let q : SFits w64 c.in-Some.y.now = search rules in
    turn c.loop-x.invariant (omega (arith, c.requires.1)) c.requires.2 t.0 t.1 (ap (word w64) c.from.ensures ∙ widened p ∙ t.2 (pos 0)) (to_z-of_z q ∙ t.3 (pos 0))

pub overflow_mul-sum : goal.overflow_mul-sum
overflow_mul-sum c = (step c).product

pub overflow_add-sum : goal.overflow_add-sum
overflow_add-sum c = (step c).total

pub loop-x-preserved : goal.loop-x-preserved
loop-x-preserved c = rw length-append (step c).next
