-- `regev::encrypt_into` writes `encrypt`: entry 0 is [b·q/2 − <s',a> + e]q by what `inner_product` and `Residue::of` ensure, where no number
-- on the way wraps (`masked`), and `copy_from_slice` puts the mask behind it (`put_to_end`).
use Rattle.std.proofs.Common.{◌≡◌, ◌*◌, ◌-◌, ◌≤◌, ℕ, List, [], ◌∷◌, ◌++◌, length, drop, set, take, ℤ, pos, ◌+ℤ◌, ◌-ℤ◌, ◌*ℤ◌, nat_abs, ap, ap₂, ◌∙◌, arith, rules, length-drop, take_all, mul-le-mul, SFits, w64, to_z, of_z, to_z-of_z}
use Rattle.std.proofs.Math.Facts.{to_z_pos}
use Rattle.std.proofs.Math.Seq.{take-suc-set}
use Rattle.whole.specs.Lists.{put_to_end}
use Rattle.whole.specs.Centred.{centred}
use Rattle.whole.specs.Inner.{inner, inner_size, sizes_drop}
use Rattle.whole.specs.Machine.{fits64}
use Rattle.scheme.specs.Arithmetic.{half, encrypt}
use Rattle.scheme.specs.Loans.{Modulus}
use Rattle.scheme.specs.Residues.{residues_upto}
use Rattle.keys.specs.Chain.{Masked, masked}
use Rattle.regev.specs.Ready.{EncryptIntoReady}
use Rattle.regev.proofs.encrypt_into.Goals as goal

-- what the machine reads back of q and the bit, and that q/2 and every number on the way to entry 0 fits
module _ {q b : ℕ} {s mask out : List ℤ} {e : ℤ} (m : Modulus q) (r : EncryptIntoReady q s b mask e out) where
  q_back : to_z w64 q ≡ pos q
  q_back = to_z_pos w64 (omega (arith, m.high))

  bit_back : to_z w64 b ≡ pos b
  bit_back = to_z_pos w64 (omega (arith, r.bit_small))

  half_fits : SFits w64 (half q)
  half_fits = fits64 _ (omega (arith, m.high))

  small : nat_abs (inner (drop 1 s) mask) ≤ 2147483648
  small =
      omega (
        arith,
        inner_size (drop 1 s) (residues_upto q 524288 mask m.high r.mask_inside),
        sizes_drop s 1,
        r.key_small,
      )

  steps : {x : ℤ} → x ≡ inner (drop 1 s) mask → Masked (pos b *ℤ half q) x e
  steps is =
      let product : nat_abs (pos b *ℤ half q) ≤ 1 * 524288 = mul-le-mul {m₂ = 524288} r.bit_small (omega (arith, m.high)) in
      masked (omega arith) (rw is (omega (arith, small))) (omega (arith, r.error_small))

-- s without its entry 0 is a part up to the end
rest : (s : List ℤ) → take (length s - 1) (drop 1 s) ≡ drop 1 s
rest s = take_all (length s - 1) (drop 1 s) (omega (arith, length-drop 1 s))

pub inner_product-requires : goal.inner_product-requires
inner_product-requires c =
    let s = c.args.s.now in
    rw (rest s) (
      omega (arith, length-drop 1 s),
      omega (arith, sizes_drop s 1, c.requires.key_small),
      residues_upto c.args.q 549755813888 c.args.mask.now (omega (arith, c.get.ensures.modulus.high)) c.requires.mask_inside,
    )

pub overflow_sub-first : goal.overflow_sub-first
overflow_sub-first c =
    let t = steps c.get.ensures.modulus c.requires (c.inner_product.ensures ∙ rw (rest c.args.s.now)) in
    let back : to_z w64 (of_z w64 c.inner_product.result) ≡ c.inner_product.result = to_z-of_z {w = w64} {z = c.inner_product.result} (search rules) in
    simp (c.get.ensures.value, q_back c.get.ensures.modulus c.requires, bit_back c.get.ensures.modulus c.requires, back, to_z-of_z, half_fits c.get.ensures.modulus c.requires, t.first) t.less

pub overflow_add-first : goal.overflow_add-first
overflow_add-first c =
    let t = steps c.get.ensures.modulus c.requires (c.inner_product.ensures ∙ rw (rest c.args.s.now)) in
    let back : to_z w64 (of_z w64 c.inner_product.result) ≡ c.inner_product.result = to_z-of_z {w = w64} {z = c.inner_product.result} (search rules) in
    simp (c.get.ensures.value, q_back c.get.ensures.modulus c.requires, bit_back c.get.ensures.modulus c.requires, back, to_z-of_z, half_fits c.get.ensures.modulus c.requires, t.first, t.less, c.ranges.error) t.all

pub returns : goal.returns
unfolding encrypt
returns c =
    let r = c.requires in
    let x_is : c.inner_product.result ≡ inner (drop 1 c.args.s.now) c.args.mask.now = c.inner_product.ensures ∙ rw (rest c.args.s.now) in
    let m = c.get.ensures.modulus in
    let t = steps m r x_is in
    let back : to_z w64 (of_z w64 c.inner_product.result) ≡ c.inner_product.result = to_z-of_z {w = w64} {z = c.inner_product.result} (search rules) in
    let value_fits : SFits w64 c.value.result = search rules in
    put_to_end 1 (set c.args.out.now 0 (to_z w64 (of_z w64 c.value.result))) c.copy_from_slice.new.self
    ∙ ap₂ {C = List ℤ} ◌++◌
    (take-suc-set c.args.out.now 0 _ (omega arith)
    ∙ ap (λ (x : ℤ). x ∷ [])
    (to_z-of_z value_fits
    ∙ c.value.ensures
    ∙ simp (c.get.ensures.value, q_back m r, bit_back m r, back, to_z-of_z, half_fits m r, t.first, t.less, c.ranges.error, t.all) at c.of.ensures
    ∙ ap (λ (x : ℤ). centred c.args.q (pos c.args.bit *ℤ half c.args.q -ℤ x +ℤ c.args.error)) x_is))
    c.copy_from_slice.ensures.after
