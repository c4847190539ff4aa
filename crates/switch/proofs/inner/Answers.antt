-- `inner` returns the inner product of two slices of one length, at most 16. That no product and no sum wraps follows from the invariant: t's sizes sum to at most
-- 16·2^19, and no entry of the row is above 2^39 (`turn` of Sums). Assumes nothing.
use Rattle.std.proofs.Common.{◌≡◌, ◌∙◌, arith, rules, length, length-append, pos, to_z, to_z-of_z, w64, SFits}
use Rattle.std.proofs.lemmas.Slice.Zip.{zip_turn, zip_end}
use Rattle.whole.specs.Inner.{inner, inner_most, sizes_most}
use Rattle.whole.specs.Machine.{word}
use Rattle.passes.proofs.Sums.{Turn, sum_start, sum_end, turn}
use Rattle.switch.proofs.inner.Goals as goal

pub loop-x-init : goal.loop-x-init
loop-x-init c = sum_start _ _

-- one product more
step : (c : goal.After-sum-in-loop-x-1) → Turn c.args.t.now c.args.row.now (length c.loop-x.yielded) (to_z w64 c.loop-x.sum-bits) (word w64 c.in-Some.x.now) (word w64 c.in-Some.y.now)
step c =
    let t = zip_turn c.args.t.now c.args.row.now c.loop-x.yielded c.into_iter-x-iterator.result c.loop-x.x-iterator c.next.new.self c.next.result (cc) (cc) c.loop-x.yielded_by (c.in-Some.x, c.in-Some.y) c.in-Some.is c.next.ensures.steps in
    let p : SFits w64 c.in-Some.x.now = search rules in
    let q : SFits w64 c.in-Some.y.now = search rules in
    turn c.loop-x.invariant (omega (arith, sizes_most c.requires.2)) c.requires.3 t.0 t.1 (to_z-of_z p ∙ t.2 (pos 0)) (to_z-of_z q ∙ t.3 (pos 0))

pub overflow_mul-sum : goal.overflow_mul-sum
overflow_mul-sum c = (step c).product

pub overflow_add-sum : goal.overflow_add-sum
overflow_add-sum c = (step c).total

pub loop-x-preserved : goal.loop-x-preserved
loop-x-preserved c = rw length-append (step c).next

-- all products
total : (c : goal.In-None) → to_z w64 c.loop-x.sum-bits ≡ inner c.args.t.now c.args.row.now
total c =
    let e = zip_end c.args.t.now c.args.row.now c.loop-x.yielded c.into_iter-x-iterator.result c.loop-x.x-iterator c.next.new.self c.next.result (cc) (cc) c.loop-x.yielded_by c.in-None.is c.next.ensures.steps in
    sum_end c.loop-x.invariant (omega arith) (omega arith)

pub returns-clause-small : goal.returns-clause-small
returns-clause-small c = rw (total c) (omega (arith, inner_most c.requires.2 c.requires.3))
