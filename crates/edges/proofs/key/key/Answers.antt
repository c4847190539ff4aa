-- `key::key` lends the entries where all of them are of 32 bits. Assumes nothing.
use Rattle.std.proofs.Common.{◌∙◌, sym, arith, length-take-le}
use Rattle.edges.specs.Guard.{narrowed}
use Rattle.edges.proofs.key.key.Goals as goal

pub returns : goal.returns
returns c = (c.narrow.ensures.to_after ∙ narrowed _ _ (sym c.narrow.ensures.value ∙ c.if-not-narrow.false) (length-take-le _ _ (omega arith)), omega arith)
