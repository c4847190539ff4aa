-- `main` lends its buffers whole: each is as long as it was made. They are so long that no tactic is to count their zeros.
use Rattle.std.proofs.Common.{pos, sym}
use Rattle.std.proofs.lemmas.List.{length-replicate}
use Rattle.replay.proofs.main.Goals as goal

pub slice_bounds-answer_all-end : goal.slice_bounds-answer_all-end
slice_bounds-answer_all-end c = sym (length-replicate 550000 (pos 0))

pub slice_bounds-answer_all-end-2 : goal.slice_bounds-answer_all-end-2
slice_bounds-answer_all-end-2 c = sym (length-replicate 262400 (pos 0))
