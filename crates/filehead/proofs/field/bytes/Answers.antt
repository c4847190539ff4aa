-- `field::bytes` reads byte after byte, by the laws of `Filled`.
use Rattle.std.proofs.Common.{◌≡◌, ◌+◌, ◌<◌, List, ℕ, length, min, slice_index, sym, ap, ◌∙◌, arith}
use Rattle.std.proofs.lemmas.Grind.{common_steps}
use Rattle.std.proofs.lemmas.List.{length-replicate}
use Rattle.whole.specs.Lists.{fill_start, fill_step, length_tabulate, get_or_tabulate}
use Rattle.filehead.proofs.field.bytes.Goals as goal

-- where a place passes the largest number, that number is past the end too
byte_at : (file : List ℕ) (i : ℕ) → length file < 18446744073709551616 → slice_index file (min i 18446744073709551615) ≡ slice_index file i
byte_at file i room = grind (arith, common_steps)

pub loop-i-init : goal.loop-i-init
loop-i-init g c = fill_start _ _ (length_tabulate _ _ ∙ sym (length-replicate _ _))

pub loop-i-preserved : goal.loop-i-preserved
loop-i-preserved g c =
    let read = c.byte.ensures ∙ ap (λ (n : ℕ). slice_index c.args.file.now n) c.saturating_add.ensures in
    let more : c.loop-i.i < g.row.WIDTH = omega arith in
    let entry = get_or_tabulate g.row.WIDTH (λ i. slice_index c.args.file.now (c.args.at + i)) c.loop-i.i 0 more in
    fill_step c.loop-i.invariant c.byte.result 0 (simp length-replicate more) (rw entry (read ∙ byte_at c.args.file.now _ (omega arith)))
