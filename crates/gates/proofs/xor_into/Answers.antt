-- `gates::xor_into` writes the XOR of c and d: entry i of out is [c_i + d_i]q. In a turn the entries read are residues, at most q/2 in size, so that
-- `Residue::near` reduces their sum (`Added`). Assumes nothing.
use Rattle.std.proofs.Common.{◌≡◌, sym, ap, ◌∙◌, true, List, ℕ, ◌/◌, ◌≤◌, ◌<◌, arith, rules, ℤ, pos, ◌+ℤ◌, nat_abs, length, get_or, w64, SFits, to_z-of_z}
use Rattle.whole.specs.Centred.{centred}
use Rattle.whole.specs.Lists.{every, every_get_or, length_zip_with, get_or_zip_with, fill_start, fill_step}
use Rattle.scheme.specs.Arithmetic.{is_residue, XOR}
use Rattle.scheme.specs.Wording.{residue_size}
use Rattle.gates.proofs.Added.{sum_fits, sum_near, sum_is}
use Rattle.gates.proofs.xor_into.Goals as goal

length_xor : (q : ℕ) (c d : List ℤ) → length c ≡ length d → length (XOR q c d) ≡ length c
unfolding XOR
length_xor q c d e = length_zip_with (λ x y. centred q (x +ℤ y)) c d e

get_or_xor : (q : ℕ) (c d : List ℤ) (i : ℕ) → i < length c → i < length d → get_or (XOR q c d) i (pos 0) ≡ centred q (get_or c i (pos 0) +ℤ get_or d i (pos 0))
unfolding XOR
get_or_xor q c d i h g = get_or_zip_with (λ x y. centred q (x +ℤ y)) c d i (pos 0) (pos 0) (pos 0) h g

entry_size : (q : ℕ) (xs : List ℤ) (i : ℕ) → every (is_residue q) xs ≡ true → i < length xs → nat_abs (get_or xs i (pos 0)) ≤ q / 2
entry_size q xs i r h = residue_size q (get_or xs i (pos 0)) (every_get_or (is_residue q) xs i (pos 0) r h)

pub loop-i-init : goal.loop-i-init
loop-i-init c = fill_start _ _ (length_xor _ _ _ (c.requires.left_long ∙ sym c.requires.right_long) ∙ c.requires.left_long)

-- the entries of a turn; that their sum is safe holds of any two of them
pub overflow_add-c : goal.overflow_add-c
overflow_add-c c =
    let m = c.get.ensures.modulus in
    let left = entry_size c.args.q c.args.c.now c.loop-i.i c.requires.left_inside (omega arith) in
    let right = entry_size c.args.q c.args.d.now c.loop-i.i c.requires.right_inside (omega arith) in
    search (sum_fits, m, left, right)

pub near-requires : goal.near-requires
near-requires c =
    let m = c.get.ensures.modulus in
    let left = entry_size c.args.q c.args.c.now c.loop-i.i c.requires.left_inside (omega arith) in
    let right = entry_size c.args.q c.args.d.now c.loop-i.i c.requires.right_inside (omega arith) in
    search (sum_near, m, left, right)

pub loop-i-preserved : goal.loop-i-preserved
loop-i-preserved c =
    let q : ℕ = c.args.q in
    let i : ℕ = c.loop-i.i in
    let read : SFits w64 c.value.result = search rules in
    fill_step c.loop-i.invariant _ (pos 0) (omega arith)
    (to_z-of_z read
    ∙ c.value.ensures
    ∙ c.near.ensures
    ∙ ap (centred q)
    (sum_is (get_or c.args.c.now i (pos 0)) (get_or c.args.d.now i (pos 0)) c.get.ensures.modulus
    (entry_size _ _ _ c.requires.left_inside (omega arith))
    (entry_size _ _ _ c.requires.right_inside (omega arith)))
    ∙ sym (get_or_xor q c.args.c.now c.args.d.now i (omega arith) (omega arith)))
