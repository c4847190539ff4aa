-- `range::bench_range` counts the runs of one test. Leans on what `is_modulus` and `all_big_residues` ensure.
use Rattle.std.proofs.Common.{◌≡◌, sym, ◌∙◌, true, false, arith}
use Rattle.loops.specs.Lent.{is_modulus, big_residues}
use Rattle.loops.proofs.range.bench_range.Goals as goal

pub returns-then-not-is_modulus : goal.returns-then-not-is_modulus
unfolding big_residues
returns-then-not-is_modulus c = let no : is_modulus c.args.q ≡ false = sym c.is_modulus.ensures.value ∙ c.if-not-is_modulus.true in simp no

pub returns : goal.returns
unfolding big_residues
returns c =
    let yes : is_modulus c.args.q ≡ true = sym c.is_modulus.ensures.value ∙ c.if-not-is_modulus.false in
    let all : c.loop.counter ≡ c.args.times = omega arith in
    rw (yes, ← all) c.loop.invariant
