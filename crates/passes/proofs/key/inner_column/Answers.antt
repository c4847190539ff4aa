-- `inner_column` returns <s,column j> of a table in rows. That no product and no sum wraps follows from the invariant, as for `inner_product` (`turn` of Sums),
-- since an entry of a column is one of the table (`each_column_cut`). Assumes nothing.
use Rattle.std.proofs.Common.{◌*◌, ◌+◌, sym, ap, ◌∙◌, arith, rules, length, get_or, pos, to_z, to_z-of_z, w32, w64, SFits}
use Rattle.whole.specs.Inner.{column, get_or_column_cut, length_column_cut, each_column_cut}
use Rattle.whole.specs.Lists.{cut}
use Rattle.whole.specs.Machine.{word, widened}
use Rattle.passes.proofs.Sums.{Turn, sum_start, sum_end, turn}
use Rattle.passes.proofs.key.inner_column.Goals as goal

pub loop-i-init : goal.loop-i-init
loop-i-init c = sum_start _ _

-- one product more
step : (c : goal.After-sum-1)
    → Turn c.args.s.now (column c.args.j (cut c.args.width (length c.args.s.now) c.args.table.now)) c.loop-i.i (to_z w64 c.loop-i.sum-bits)
    (word w64 c.from.result) (word w64 (get_or c.args.table.now (c.loop-i.i * c.args.width + c.args.j) (pos 0)))
step c =
    let p : SFits w32 (get_or c.args.s.now c.loop-i.i (pos 0)) = search rules in
    let q : SFits w64 (get_or c.args.table.now (c.loop-i.i * c.args.width + c.args.j) (pos 0)) = search rules in
    turn c.loop-i.invariant (omega (arith, c.requires.2)) (each_column_cut c.args.width (length c.args.s.now) c.args.j (omega (arith, c.requires.0)) c.requires.1 c.requires.3)
    c.loop-i-test.true (rw length_column_cut c.loop-i-test.true) (ap (word w64) c.from.ensures ∙ widened p)
    (to_z-of_z q ∙ sym (get_or_column_cut c.args.width (length c.args.s.now) c.args.table.now c.loop-i.i c.args.j c.loop-i-test.true c.requires.1))

pub overflow_mul-sum-in-loop-i : goal.overflow_mul-sum-in-loop-i
overflow_mul-sum-in-loop-i c = (step c).product

pub overflow_add-sum-in-loop-i : goal.overflow_add-sum-in-loop-i
overflow_add-sum-in-loop-i c = (step c).total

pub loop-i-preserved : goal.loop-i-preserved
loop-i-preserved c = (step c).next

pub returns : goal.returns
returns c = sum_end c.loop-i.invariant c.loop-i-test.false (rw length_column_cut c.loop-i-test.false)
