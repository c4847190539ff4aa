-- `regev::decrypt_bit` is `decrypt`: d is [<s,c>]q by what `inner_product` and `Residue::of` ensure, at most q/2 in size (`centred_half`), so that `bit_of`
-- takes it. Assumes nothing.
use Rattle.std.proofs.Common.{◌≡◌, ◌*◌, cond, ltb, ℤ, nat_abs, ap, ◌∙◌, arith, rules, to_z-of_z, SFits, w64}
use Rattle.whole.specs.Centred.{centred}
use Rattle.whole.proofs.Centred.{centred_half}
use Rattle.whole.specs.Inner.{inner}
use Rattle.scheme.specs.Arithmetic.{decrypt}
use Rattle.scheme.specs.Residues.{residues_upto}
use Rattle.regev.proofs.decrypt_bit.Goals as goal

pub inner_product-requires : goal.inner_product-requires
inner_product-requires c =
    (c.requires.0, c.requires.1, residues_upto c.args.q 549755813888 c.args.c.now (omega (arith, c.get.ensures.modulus.high)) c.requires.2)

pub bit_of-requires : goal.bit_of-requires
bit_of-requires c =
    let fits : SFits w64 c.inner_product.result = search rules in
    let d_is : c.of.result.0 ≡ centred c.args.q (inner c.args.s.now c.args.c.now) =
    c.of.ensures ∙ ap (centred c.args.q) (to_z-of_z fits ∙ c.inner_product.ensures) in
    rw d_is (centred_half _ _ c.get.ensures.modulus.positive)

pub returns : goal.returns
unfolding decrypt
returns c =
    let fits : SFits w64 c.inner_product.result = search rules in
    let d_is : c.of.result.0 ≡ centred c.args.q (inner c.args.s.now c.args.c.now) =
    c.of.ensures ∙ ap (centred c.args.q) (to_z-of_z fits ∙ c.inner_product.ensures) in
    c.bit_of.ensures ∙ ap (λ (d : ℤ). cond (ltb c.args.q (4 * nat_abs d)) 1 0) d_is
