-- `words` puts each number after those before it. Assumes nothing.
use Rattle.std.proofs.Common.{◌++◌, ◌∷◌, [], arith, refl, take_all}
use Rattle.std.proofs.lemmas.List.{take_more}
use Rattle.std.proofs.lemmas.Slice.Zip.{all_zipped_more}
use Rattle.calls.specs.Print.{put_words, put_words_next, put_word_holds}
use Rattle.calls.proofs.print.words.Goals as goal

pub loop-n-init : goal.loop-n-init
unfolding put_words
loop-n-init g c = (([], tt, refl), λ h. omega (arith, h))

pub loop-n-preserved : goal.loop-n-preserved
loop-n-preserved g c =
    let (ns, zipped, held) = c.loop-n.invariant.0 in
    let n = c.into.result in (
      (
        ns ++ n ∷ [],
        rw (take_more c.args.xs.now c.loop-n.n-index c.n-item.result (omega arith), ← c.n-item.is) (all_zipped_more g.T.Into.converts _ ns c.n-item.result n zipped c.into.ensures),
        put_words_next ns c.args.output.now held c.unsigned.ensures (omega arith),
      ),
      λ h. rw c.unsigned.ensures (put_word_holds _ _ (omega (arith, c.into.type_inv))),
    )

pub returns : goal.returns
returns g c =
    let passed = c.loop-n-test.false in
    record {
      put = rw take_all at c.loop-n.invariant.0;
      holds = λ h. c.loop-n.invariant.1 (omega (arith, h, passed));
    }
