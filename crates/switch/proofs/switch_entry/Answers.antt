-- `switch_entry` gives [round(S/q)]q for the exact sum S of the row. `row_sum` hands S over in two parts, of which `of_wide` makes [S]Q; that lies within Q/2, so
-- that `round` takes it (`centred_half`), and it gives the entry that S does (`entry_reduced`). Assumes nothing.
use Rattle.std.proofs.Common.{◌≡◌, ◌*◌, ℕ, ℤ, ap, ◌∙◌}
use Rattle.std.proofs.Math.Nat.{mul-pos, mul-le-mul}
use Rattle.whole.specs.Round.{round}
use Rattle.whole.specs.Inner.{inner}
use Rattle.whole.specs.Centred.{centred}
use Rattle.whole.proofs.Centred.{centred_half}
use Rattle.scheme.specs.Arithmetic.{switch_entry}
use Rattle.scheme.specs.Residues.{residues_upto}
use Rattle.switch.proofs.Switching.{entry_reduced}
use Rattle.switch.proofs.switch_entry.Goals as goal

pub row_sum-requires : goal.row_sum-requires
row_sum-requires c =
    let q : ℕ = c.args.q in
    let high = c.get.ensures.modulus.high in (
      c.requires.0,
      c.requires.1,
      residues_upto q 524288 c.args.t.now high c.requires.2,
      residues_upto (q * q) 549755813888 c.args.row.now (mul-le-mul high high) c.requires.3,
    )

-- the residue is that of the exact sum
pub round-requires : goal.round-requires
round-requires c =
    let q : ℕ = c.args.q in
    let m = c.get.ensures.modulus in
    let sum : c.of_wide.result.0 ≡ centred (q * q) (inner c.args.t.now c.args.row.now) = c.of_wide.ensures ∙ ap (centred (q * q)) c.row_sum.ensures.0 in
    rw sum (centred_half _ _ (mul-pos m.positive m.positive))

pub returns : goal.returns
unfolding switch_entry
returns c =
    let q : ℕ = c.args.q in
    let S : ℤ = inner c.args.t.now c.args.row.now in
    let sum : c.of_wide.result.0 ≡ centred (q * q) S = c.of_wide.ensures ∙ ap (centred (q * q)) c.row_sum.ensures.0 in
    c.round.ensures ∙ ap (λ (x : ℤ). centred q (round x q)) sum ∙ entry_reduced q S c.get.ensures.modulus.positive
