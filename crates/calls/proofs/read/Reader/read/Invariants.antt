-- The store is the one that was lent.
use Rattle.std.proofs.Common.{◌≡◌}
use Rattle.calls.proofs.read.Reader.read.Given as goal

abbrev pub invariant-loop-part : goal.invariant-loop-part
invariant-loop-part g l = l.self.store.ghost_name ≡ l.initial.self.store.ghost_name
