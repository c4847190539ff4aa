-- Once the numbers that are left are put too, all are.
use Rattle.std.proofs.Common.{◌≡◌, drop}
use Rattle.stream.specs.Held.{put_numbers}
use Rattle.stream.proofs.output.Output.numbers.Given as goal

abbrev pub invariant-loop-x : goal.invariant-loop-x
invariant-loop-x g l = put_numbers (drop l.x-index l.xs) l.self ≡ put_numbers l.xs l.initial.self
