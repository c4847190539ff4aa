-- Before each number, as after the last, the input stands where the one before it ended.
use Rattle.stream.specs.White.{WhiteNext}
use Rattle.stream.proofs.input.Input.list.Given as goal

abbrev pub invariant-loop-x : goal.invariant-loop-x
invariant-loop-x g l = WhiteNext l.self
