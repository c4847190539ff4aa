-- `Params::in_range` tests each range as `in_range` has it: by what `is_within` ensures of three of them.
use Rattle.std.proofs.Common.{rules}
use Rattle.refusal.specs.Parameters.{in_range}
use Rattle.refusal.proofs.Params.in_range.Goals as goal

pub returns : goal.returns
unfolding in_range
returns c = search rules
