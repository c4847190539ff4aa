-- `Output::number` puts a minus where the number is below 0, and then its distance from 0. Assumes nothing.
use Rattle.std.proofs.Common.{arith, to_z-of_z}
use Rattle.stream.proofs.Digits.{put_plain, put_minus}
use Rattle.stream.proofs.output.Output.number.Goals as goal
use Rattle.stream.proofs.output.Output.number.Goals.{then-x-lt0, else-x-lt0}

pub returns : goal.returns
returns g c =
    let size = simp (to_z-of_z, c.ranges.x) at c.unsigned_abs.ensures.value in
    elim c.if-x-lt0.branch [
      | then-x-lt0 w ↦ rw (c.unsigned.ensures, w.self-is, w.append.ensures, c.room.ensures, size)
          (put_minus c.args.x c.args.self.now (omega (arith, size, c.unsigned_abs.ensures.bound)) (simp (to_z-of_z, c.ranges.x) at w.if-x-lt0.true))
      | else-x-lt0 w ↦ rw (c.unsigned.ensures, w.self-is, c.room.ensures, size)
          (put_plain c.args.x c.args.self.now (omega (arith, size, c.unsigned_abs.ensures.bound)) (simp (to_z-of_z, c.ranges.x) at w.if-x-lt0.false))
    ]
