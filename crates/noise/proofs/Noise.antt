-- Laws about what `specs/Noise` defines that rest on a definition which a must-fail edit turns.
use Rattle.std.specs.Prelude.{◌≡◌, List, [], ◌∷◌, ℕ, ◌+◌, ◌*◌, ◌/◌, ◌≤◌, ◌<◌, ℤ, pos, ◌+ℤ◌, ◌-ℤ◌, ◌*ℤ◌, nat_abs}
use Rattle.std.proofs.Common.{sym, ap, ◌∙◌, arith}
use Rattle.whole.specs.Ring.{by_ring, from_eq, quote}
use Rattle.whole.specs.Size.{size_neg, size_sub}
use Rattle.whole.proofs.Centred.{centred_turn, centred_le, centred_middle}
use Rattle.scheme.specs.Arithmetic.{half, noise}
use Rattle.noise.specs.Noise.{Written, written}

-- a number that lies q/2 off a multiple of q is at least q/2 in size
far : (q : ℕ) (k : ℤ) → 0 < q → q ≡ 2 * (q / 2) → q / 2 ≤ nat_abs (half q +ℤ k *ℤ pos q)
far q k h even = rw (centred_turn q (half q) k h, centred_middle q (q / 2) h even, size_neg (half q)) at (centred_le q (half q +ℤ k *ℤ pos q) h)

-- no ciphertext is quiet for both bits: its two noises make at least q/2
pub noise_both : (q : ℕ) (s c : List ℤ) → 0 < q → q ≡ 2 * (q / 2) → q / 2 ≤ noise q s c 0 + noise q s c 1
noise_both q s c h even =
    let v : Written q s c 0 = written q s c 0 h in
    let w : Written q s c 1 = written q s c 1 h in
    let k : ℤ = w.k -ℤ v.k in
    let off : v.e -ℤ w.e ≡ half q +ℤ k *ℤ pos q = sorted v.k w.k (half q) (pos q) v.e w.e (sym v.sum ∙ w.sum) in
    omega (arith, far q k h even, ap nat_abs off, size_sub v.e w.e)
  where
    sorted : (k l h q e f : ℤ) → k *ℤ q +ℤ pos 0 *ℤ h +ℤ e ≡ l *ℤ q +ℤ pos 1 *ℤ h +ℤ f → e -ℤ f ≡ h +ℤ (l -ℤ k) *ℤ q
    sorted k l h q e f sum = from_eq (pos 1) sum (by_ring (k ∷ l ∷ h ∷ q ∷ e ∷ f ∷ []) (search quote depth 100 fits 100000) tt)
