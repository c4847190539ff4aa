-- `plan::write_bounds` writes four bytes for each bound, by the laws of `PartsWritten`.
use Rattle.std.proofs.Common.{refl, sym, ◌≡◌, ◌∙◌, List, ℕ, ◌+◌, ◌*◌, ◌-◌, ◌≤◌, length, append_assoc, arith}
use borrow.Rule.Slice.PartMut.{put_mid}
use Rattle.std.proofs.lemmas.Slice.{put_mid-paste}
use Rattle.std.proofs.lemmas.List.Edits.{paste_all}
use Rattle.circuitfile.specs.File.{four_bytes}
use Rattle.gatfile.specs.Writing.{Written, parts_start, parts_step}
use Rattle.gatfile.proofs.plan.write_bounds.Goals as goal

-- a part of the buffer that was copied
copied : (bs old : List ℕ) (at to : ℕ) → to ≡ at + length bs → to ≤ length old → Written bs old (put_mid at (to - at) old bs) at to
copied bs old at to e h =
    let long : length bs ≡ to - at = omega arith in
    record {
      stop = e;
      room = h;
      whole = put_mid-paste at (to - at) old bs bs (length bs) refl long refl ∙ paste_all old at bs (length bs) refl ∙ rw e (sym (append_assoc _ bs _));
    }

pub loop-i-init : goal.loop-i-init
loop-i-init c = parts_start four_bytes _ _

pub loop-i-preserved : goal.loop-i-preserved
unfolding four_bytes
loop-i-preserved c =
    let next : 4 * (c.loop-i.i + 1) ≡ 4 * c.loop-i.i + 4 = omega arith in
    rw (next, c.copy_from_slice.ensures.after, c.to_be_bytes.ensures)
    (parts_step c.loop-i.invariant 0 c.loop-i-test.true (copied _ _ (4 * c.loop-i.i) (4 * c.loop-i.i + 4) refl (omega arith)))
