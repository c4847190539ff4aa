-- The store is the one that was lent.
use Rattle.std.proofs.Common.{◌≡◌}
use Rattle.calls.proofs.read.Reader.numbers.Given as goal

abbrev pub invariant-loop : goal.invariant-loop
invariant-loop g l = l.self.store.ghost_name ≡ l.initial.self.store.ghost_name
