-- `fill_switch` writes the switch of t: entry i is that of row i of the key, which lies at i·width. A turn stores what `switch_entry` gives for the row.
-- Assumes nothing.
use Rattle.std.proofs.Common.{◌≡◌, ◌+◌, ◌-◌, ◌*◌, ◌≤◌, ◌<◌, ℕ, length, take, drop, sym, ap, ◌∙◌, arith, rules, pos, w64, SFits, to_z-of_z}
use Rattle.std.proofs.Math.Nat.{mul-le-mul, add-sub_cancel_left}
use borrow.Rule.Slice.PartMut.{mid_len}
use Rattle.whole.specs.Lists.{every_part, row_ends, fill_start, fill_step}
use Rattle.scheme.specs.Arithmetic.{is_residue, switch_entry}
use Rattle.switch.proofs.Switching.{length_switch, get_or_switch}
use Rattle.switch.proofs.fill_switch.Goals as goal

pub loop-i-init : goal.loop-i-init
loop-i-init c = fill_start _ _ (rw length_switch)

pub switch_entry-requires : goal.switch_entry-requires
switch_entry-requires c =
    let q : ℕ = c.args.q in
    let width : ℕ = length c.args.t.now in
    let at : ℕ = c.loop-i.i * width in
    let key = c.args.key.now in
    let inside : at + width ≤ length key = omega (arith, row_ends width (length c.args.out.now) c.loop-i.i (omega arith)) in (
      omega (arith, mul-le-mul c.requires.0 c.requires.0),
      mid_len at (at + width) key inside ∙ add-sub_cancel_left at width,
      c.requires.3,
      every_part (is_residue (q * q)) at (at + width - at) key c.requires.4,
    )

pub loop-i-preserved : goal.loop-i-preserved
loop-i-preserved c =
    let q : ℕ = c.args.q in
    let t = c.args.t.now in
    let key = c.args.key.now in
    let i : ℕ = c.loop-i.i in
    let at : ℕ = i * length t in
    let n : ℕ = length c.args.out.now in
    let h : i < n = omega arith in
    let row : take (at + length t - at) (drop at key) ≡ take (length t) (drop at key) = rw (add-sub_cancel_left at (length t)) in
    let read : SFits w64 c.value.result = search rules in
    fill_step c.loop-i.invariant _ (pos 0) h
    (to_z-of_z read
    ∙ c.value.ensures
    ∙ c.switch_entry.ensures
    ∙ ap (switch_entry q t) row
    ∙ sym (get_or_switch n q (length t) key t i c.requires.1 h))
