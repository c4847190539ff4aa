-- `tensors::bench_tensor` runs `fill_tensor` over the same buffer. Leans on what `tensor_lent` and `fill_tensor` ensure.
use Rattle.std.proofs.Common.{sym, ◌∙◌}
use Rattle.loops.specs.Lent.{tensor_loans}
use Rattle.loops.proofs.tensors.bench_tensor.Goals as goal

-- past the test the loans are right
pub of-modulus-requires : goal.of-modulus-requires
of-modulus-requires c = (tensor_loans _ _ _ _ (sym c.tensor_lent.ensures ∙ c.if-not-tensor_lent.false)).0

pub fill_tensor-requires : goal.fill_tensor-requires
fill_tensor-requires c =
    let t = tensor_loans _ _ _ _ (sym c.tensor_lent.ensures ∙ c.if-not-tensor_lent.false) in
    rw (c.of-modulus.ensures, c.loop.invariant.kept) (t.1, t.2, t.3, t.4, t.5)
