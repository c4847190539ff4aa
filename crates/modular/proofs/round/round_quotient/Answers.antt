-- `round_quotient` answers round(a/q), by `rounds` of Rounded. Assumes nothing.
use Rattle.std.proofs.Common.{rules, ◌∙◌, to_z-of_z, SFits, w64}
use Rattle.modular.proofs.Rounded.{rounds}
use Rattle.modular.proofs.round.round_quotient.Goals as goal

pub returns : goal.returns
returns c =
    let read : SFits w64 c.div_euclid.result = search rules in
    to_z-of_z read ∙ c.div_euclid.ensures ∙ rw c.from-modulus.ensures (rw c.get.ensures.value (rounds c.args.q c.args.a c.get.ensures.modulus c.requires c.ranges.a))
