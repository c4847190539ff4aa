-- `guard::narrow` puts the entries of `from` at the front of `to`, up to the first that is no number of 32 bits. Assumes nothing.
use Rattle.std.proofs.Common.{get_or, pos, refl, sym, arith, rules, SFits, w64, to_z-of_z}
use Rattle.whole.specs.Lists.{every}
use Rattle.stream.specs.Front.{put_none, put_more, put_all}
use Rattle.stream.specs.Ranges.{is_narrow}
use Rattle.edges.specs.Guard.{every_more, every_less, every_passed, leading_less, leading_all, narrow_is, narrow_is_not}
use Rattle.edges.proofs.guard.narrow.Goals as goal

pub loop-i-init : goal.loop-i-init
unfolding every
loop-i-init c = (put_none _ _, refl)

pub returns-in_default-clause-value : goal.returns-in_default-clause-value
returns-in_default-clause-value c =
    let f : SFits w64 (get_or c.args.from.now c.loop-i.i (pos 0)) = search rules in
    sym (every_less is_narrow c.args.from.now c.loop-i.i (omega arith) (narrow_is_not _ (simp (to_z-of_z, f) at c.in_default.ensures)))

pub returns-in_default-clause-to_after : goal.returns-in_default-clause-to_after
returns-in_default-clause-to_after c =
    let f : SFits w64 (get_or c.args.from.now c.loop-i.i (pos 0)) = search rules in
    let e = narrow_is_not _ (simp (to_z-of_z, f) at c.in_default.ensures) in
    rw (leading_less is_narrow c.args.from.now c.loop-i.i (omega arith) c.loop-i.invariant.1 e) c.loop-i.invariant.0.so_far

pub loop-i-preserved : goal.loop-i-preserved
loop-i-preserved c =
    let f : SFits w64 (get_or c.args.from.now c.loop-i.i (pos 0)) = search rules in
    let fits = simp (to_z-of_z, f) at c.in-Ok.ensures in (
      put_more c.loop-i.invariant.0 _ (pos 0) (omega arith) (omega arith) (rw fits.1 (simp (to_z-of_z, fits.0) refl)),
      every_more is_narrow c.args.from.now c.loop-i.i (omega arith) c.loop-i.invariant.1 (narrow_is _ fits.0),
    )

pub returns-clause-to_after : goal.returns-clause-to_after
returns-clause-to_after c =
    let e = every_passed is_narrow c.args.from.now c.loop-i.i (omega arith) c.loop-i.invariant.1 in
    rw (leading_all is_narrow c.args.from.now e) (put_all c.loop-i.invariant.0 (omega arith))
