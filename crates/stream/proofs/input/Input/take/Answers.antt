-- `Input::take` passes over the first byte of what is left. Assumes nothing.
use Rattle.stream.proofs.Left.{left_further}
use Rattle.stream.proofs.input.Input.take.Goals as goal

pub returns : goal.returns
returns g c = rw (← c.self.view_is) (left_further c.self.inside.block.now c.self.inside.at c.self.inside.end (rw (← c.self.view_is) at c.requires))
