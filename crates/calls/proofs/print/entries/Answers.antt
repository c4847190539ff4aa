-- `entries` puts each entry's number after those before it. Assumes nothing.
use Rattle.std.proofs.Common.{sym, ◌++◌, ◌∷◌, [], ap, arith, refl, SFits, w64, to_z-of_z, ◌∙◌, take_all}
use Rattle.std.proofs.lemmas.List.{take_more}
use Rattle.std.proofs.lemmas.Slice.Zip.{all_zipped_more}
use Rattle.stream.specs.Held.{put_number, put_numbers}
use Rattle.calls.specs.Print.{put_numbers_more, put_as_holds}
use Rattle.calls.proofs.print.entries.Goals as goal

pub loop-x-init : goal.loop-x-init
unfolding put_numbers
loop-x-init g c = ([], tt, refl)

pub loop-x-preserved : goal.loop-x-preserved
loop-x-preserved g c =
    let (ys, zipped, held) = c.loop-x.invariant in
    let y = c.into.result in
    let f : SFits w64 y = record { sfits = c.into.type_inv } in (
      ys ++ y ∷ [],
      rw (take_more c.args.xs.now c.loop-x.x-index c.x-item.result (omega arith), ← c.x-item.is) (all_zipped_more g.T.Into.converts _ ys c.x-item.result y zipped c.into.ensures),
      simp (to_z-of_z, f) at c.number.ensures ∙ ap (put_number y) held ∙ sym (put_numbers_more ys y c.args.output.now),
    )

pub returns-clause-holds : goal.returns-clause-holds
returns-clause-holds g c =
    let passed = c.loop-x-test.false in
    put_as_holds g.T.Into.converts c.args.xs.now c.args.output.now _ (rw take_all at c.loop-x.invariant)
