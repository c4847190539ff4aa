-- `range::all_within`: the count of the errors beyond is 0 exactly where each error passed is within the limit, and it is at most their number, so that it fits.
use Rattle.std.proofs.Common.{nat_le, unsigned_abs}
use Rattle.whole.specs.Lists.{Counted}
use Rattle.passes.proofs.range.all_within.Given as goal

abbrev pub invariant-loop-e : goal.invariant-loop-e
invariant-loop-e l = Counted (λ e. nat_le (unsigned_abs e) l.limit) l.errors l.beyond l.e-index
