-- `copy` puts a list's entries at the front of a buffer that has room for them, and answers their count. Assumes nothing.
use Rattle.std.proofs.Common.{arith, ap, sym, ◌∙◌}
use Rattle.std.proofs.lemmas.List.{length-map}
use Rattle.whole.specs.Lists.{get_or_map}
use Rattle.calls.specs.Lent.{took_none, took_all}
use Rattle.stream.specs.Front.{put_none, put_more, put_all}
use Rattle.calls.proofs.entry.copy.Goals as goal

pub returns-then-xs-out : goal.returns-then-xs-out
returns-then-xs-out g c = took_none _ _ (rw length-map (omega arith))

pub loop-i-init : goal.loop-i-init
loop-i-init g c = put_none _ _

pub loop-i-preserved : goal.loop-i-preserved
loop-i-preserved g c =
    let f = g.T.Entry.entry in
    let x = c.index-xs-i.result in
    put_more c.loop-i.invariant c.entry.result (f x) (rw length-map (omega arith)) (rw length-map (omega arith))
    (c.entry.ensures ∙ ap f c.index-xs-i.is ∙ sym (get_or_map f c.args.xs.now c.loop-i.i x (f x) (omega arith)))

pub returns : goal.returns
returns g c =
    let l = length-map c.args.xs.now g.T.Entry.entry in
    rw l at (took_all _ _ _ (omega (arith, l)) c.loop-i.invariant.kept (put_all c.loop-i.invariant (omega (arith, l))))
