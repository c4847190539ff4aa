-- `Output::numbers` puts each number after those before it. Assumes nothing.
use Rattle.std.proofs.Common.{get_or, pos, arith, rules, sym, ◌∙◌, SFits, w64, to_z-of_z}
use Rattle.stream.specs.Held.{put_numbers_next, put_numbers_all}
use Rattle.stream.proofs.output.Output.numbers.Goals as goal

pub loop-x-preserved : goal.loop-x-preserved
loop-x-preserved g c =
    let f : SFits w64 (get_or c.args.xs.now c.loop-x.x-index (pos 0)) = search rules in
    rw (simp (to_z-of_z, f) at c.number.ensures) (sym (put_numbers_next c.args.xs.now c.loop-x.x-index c.loop-x.self (omega arith)) ∙ c.loop-x.invariant)

pub returns : goal.returns
returns g c = sym (put_numbers_all c.args.xs.now c.loop-x.x-index c.loop-x.self (omega arith)) ∙ c.loop-x.invariant
