-- `gates::and_into` writes the AND of c and d: their tensor into the scratch, and its switch into out.
-- Leans on what the two callees ensure: the tensor's entries are residues, and there are as many as the scratch has.
use Rattle.scheme.specs.Arithmetic.{AND}
use Rattle.gates.proofs.and_into.Goals as goal

pub returns-clause-out_after : goal.returns-clause-out_after
unfolding AND
returns-clause-out_after c = rw (c.fill_switch.ensures, c.fill_tensor.ensures.entries)
