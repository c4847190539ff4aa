-- The numbers passed are put, and where there was one the block holds something.
use Rattle.std.proofs.Common.{take, ◌+◌, ◌<◌, length}
use Rattle.calls.specs.Print.{PutWords}
use Rattle.calls.proofs.print.words.Given as goal

abbrev pub invariant-loop-n : goal.invariant-loop-n
invariant-loop-n g l =
    PutWords g.T.Into.converts (take l.n-index l.xs) l.initial.output l.output × (0 < length l.initial.output + l.n-index → 0 < length l.output)
