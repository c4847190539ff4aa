-- `gates::not_into` writes the NOT of c: out is a copy of c, in which entry 0 is then [c_0 + q/2]q.
-- c_0 is a residue, at most q/2 in size, and so is q divided by 2 or more (`share`): `Residue::near` reduces their sum (`Added`). Assumes nothing.
use Rattle.std.proofs.Common.{◌≡◌, ap, ◌∙◌, refl, true, List, [], ◌∷◌, ℕ, ◌/◌, ◌≤◌, ◌<◌, arith, rules, ℤ, pos, ◌+ℤ◌, nat_abs, length, get_or, set, w64, SFits, to_z, to_z-of_z}
use Rattle.std.proofs.Math.Nat.{mul-le-mul_left, le-div_iff_mul-le, div-mul-le_self}
use Rattle.std.proofs.Math.Dec.{lit≤}
use Rattle.std.proofs.Math.Facts.{to_z_pos}
use Rattle.whole.specs.Centred.{centred}
use Rattle.whole.specs.Lists.{every, every_get_or}
use Rattle.scheme.specs.Arithmetic.{half, is_residue, NOT}
use Rattle.scheme.specs.Wording.{residue_size}
use Rattle.scheme.specs.Loans.{Modulus}
use Rattle.gates.proofs.Added.{sum_fits, sum_near, sum_is}
use Rattle.gates.proofs.not_into.Goals as goal

-- one store makes c its NOT
not_set : (q : ℕ) (c : List ℤ) → 0 < length c → set c 0 (centred q (get_or c 0 (pos 0) +ℤ half q)) ≡ NOT q c
unfolding NOT
not_set q [] h = absurd (omega arith)
not_set q (x ∷ c) h = refl

-- q as the code has it
modulus_is : {q : ℕ} → Modulus q → to_z w64 q ≡ pos q
modulus_is {q} m = to_z_pos w64 (omega (arith, m.high))

-- q divided by 2 or more is at most q/2
share : (q k : ℕ) → 2 ≤ k → q / k ≤ q / 2
share q k h = (le-div_iff_mul-le {k = 2} {x = q / k} {y = q} (omega arith)).1 (omega (arith, mul-le-mul_left (q / k) h, div-mul-le_self q k))

-- entry 0 of c is a residue
first_size : (q : ℕ) (c : List ℤ) → every (is_residue q) c ≡ true → 0 < length c → nat_abs (get_or c 0 (pos 0)) ≤ q / 2
first_size q c inside h = residue_size _ _ (every_get_or (is_residue q) c 0 (pos 0) inside h)

pub overflow_add-c : goal.overflow_add-c
overflow_add-c c =
    let m = c.get.ensures.modulus in
    let f : nat_abs (get_or c.args.c.now 0 (pos 0)) ≤ c.args.q / 2 = first_size _ _ c.requires.inside (omega arith) in
    rw (c.get.ensures.value, modulus_is m) (search (sum_fits, m, f, share, lit≤))

pub near-requires : goal.near-requires
near-requires c =
    let m = c.get.ensures.modulus in
    let f : nat_abs (get_or c.args.c.now 0 (pos 0)) ≤ c.args.q / 2 = first_size _ _ c.requires.inside (omega arith) in
    rw (c.get.ensures.value, modulus_is m) (search (sum_near, m, f, share, lit≤))

pub returns : goal.returns
returns c =
    let q : ℕ = c.args.q in
    let d = c.args.c.now in
    let m = c.get.ensures.modulus in
    let read : SFits w64 c.value.result = search rules in
    ap (set c.copy_from_slice.new.self 0)
    (to_z-of_z read
    ∙ c.value.ensures
    ∙ (rw (c.get.ensures.value, modulus_is m) at c.near.ensures)
    ∙ ap (centred q) (sum_is (get_or d 0 (pos 0)) (half q) m (first_size q d c.requires.inside (omega arith)) (omega arith)))
    ∙ rw c.copy_from_slice.ensures.after (not_set q d (omega arith))
