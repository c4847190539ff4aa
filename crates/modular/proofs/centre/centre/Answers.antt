-- `centre` answers [x]m. x and its remainder differ by a multiple of m, so they have the same residue (`centred_turn`), and the remainder is below m in size, near
-- enough for `one_turn`. Assumes nothing.
use Rattle.std.proofs.Common.{◌≡◌, ◌<◌, ℕ, sym, ap, ◌∙◌, arith, w64, SFits, ℤ, pos, ◌*ℤ◌, to_z, to_z-of_z, rules}
use Rattle.std.proofs.Math.Facts.{to_z_pos}
use Rattle.std.proofs.Math.IntN.{+ℤ_comm}
use Rattle.std.specs.Int.Signed.{quot_z, rem_z}
use Rattle.whole.specs.Rem.{quot_rem}
use Rattle.whole.specs.Centred.{centred}
use Rattle.whole.proofs.Centred.{centred_turn}
use Rattle.whole.specs.Machine.{rem_fits}
use Rattle.modular.proofs.centre.centre.Goals as goal

-- a number and its remainder have the same residue
centred_rem : (m : ℕ) (x : ℤ) → 0 < m → centred m (rem_z x (pos m)) ≡ centred m x
centred_rem m x p =
    let k : ℤ = quot_z x (pos m) in
    sym (centred_turn m (rem_z x (pos m)) k p)
    ∙ ap (centred m) (+ℤ_comm (rem_z x (pos m)) (k *ℤ pos m) ∙ sym (quot_rem x m))

pub returns : goal.returns
returns c =
    let m = c.args.m in
    let x = c.args.x in
    let back : to_z w64 m ≡ pos m = to_z_pos w64 (omega (arith, c.requires.1)) in
    let fits : SFits w64 (rem_z x (pos m)) = rem_fits x m c.ranges.x in
    let read : SFits w64 c.one_turn.result = search rules in
    to_z-of_z read ∙ simp (to_z-of_z, c.ranges.x, back, fits) at c.one_turn.ensures ∙ centred_rem m x c.requires.0
