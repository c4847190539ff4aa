-- `switches::bench_switch` runs `fill_switch` over the same buffer. Leans on what `switch_lent` and `fill_switch` ensure.
use Rattle.std.proofs.Common.{sym, ◌∙◌}
use Rattle.loops.specs.Lent.{switch_loans}
use Rattle.loops.proofs.switches.bench_switch.Goals as goal

-- past the test the loans are right
pub of-modulus-requires : goal.of-modulus-requires
of-modulus-requires c = (switch_loans _ _ _ _ (sym c.switch_lent.ensures ∙ c.if-not-switch_lent.false)).0

pub fill_switch-requires : goal.fill_switch-requires
fill_switch-requires c =
    let t = switch_loans _ _ _ _ (sym c.switch_lent.ensures ∙ c.if-not-switch_lent.false) in
    rw (c.of-modulus.ensures, c.loop.invariant.kept) (t.1, t.2, t.3, t.4, t.5)
