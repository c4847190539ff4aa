-- `Wide::plus`: x is its quotient by 2^20 times 2^20 and its remainder (`quot_rem`), which the two parts take. Assumes nothing.
use Rattle.std.proofs.Common.{◌≡◌, sym, ap, ◌∙◌, [], ◌∷◌, arith, rules, ℤ, pos, ◌+ℤ◌, ◌*ℤ◌, w64, SFits, to_z-of_z}
use Rattle.std.specs.Int.Signed.{quot_z, rem_z}
use Rattle.whole.specs.Size.{size_add}
use Rattle.whole.specs.Ring.{by_ring, quote}
use Rattle.whole.specs.Rem.{quot_rem, quot_times_size, rem_size}
use Rattle.whole.specs.Machine.{fits64, quot_fits, rem_fits}
use Rattle.modular.proofs.wide.Wide.plus.Goals as goal

parts : (hi lo k r m : ℤ) → (hi +ℤ k) *ℤ m +ℤ (lo +ℤ r) ≡ (hi *ℤ m +ℤ lo) +ℤ (k *ℤ m +ℤ r)
parts hi lo k r m = by_ring (hi ∷ lo ∷ k ∷ r ∷ m ∷ []) (search quote depth 100 fits 100000) tt

pub returns-clause-sum : goal.returns-clause-sum
returns-clause-sum c =
    let hi = c.args.self.hi in
    let lo = c.args.self.lo in
    let x = c.args.x in
    let q : ℤ = quot_z x (pos 1048576) in
    let r : ℤ = rem_z x (pos 1048576) in
    let held_hi : SFits w64 hi = search rules in
    let held_lo : SFits w64 lo = search rules in
    let hi_fits : SFits w64 (hi +ℤ q) = fits64 (hi +ℤ q) (omega (arith, size_add hi q, quot_times_size x 1048576, c.requires.0, c.requires.2)) in
    let lo_fits : SFits w64 (lo +ℤ r) = fits64 (lo +ℤ r) (omega (arith, size_add lo r, rem_size x 1048576 (omega arith), c.requires.1)) in
    simp (to_z-of_z, held_hi, held_lo, c.ranges.x, quot_fits x 1048576 c.ranges.x, rem_fits x 1048576 c.ranges.x, hi_fits, lo_fits)
    (parts hi lo q r (pos 1048576) ∙ ap (λ (z : ℤ). (hi *ℤ pos 1048576 +ℤ lo) +ℤ z) (sym (quot_rem x 1048576)))
