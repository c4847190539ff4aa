-- What encryption, XOR, NOT and decryption do to the noise, for any key row s; only NOT and encryption use that it begins with 1.
-- What encryption gives is again a list of residues, of the right length; that of XOR, NOT and AND is in scheme's `Wording`.
use Rattle.std.specs.Prelude.{◌≡◌, refl, true, ℕ, suc, ◌*◌, ◌/◌, ◌≤◌, ◌<◌, ℤ, pos, ◌+ℤ◌, ◌-ℤ◌, ◌*ℤ◌, nat_abs, length, get_or, drop}
use Rattle.std.proofs.Common.{◌∙◌}
use mathlib.Core.List.{List, [], ◌∷◌}
use Rattle.whole.specs.Tests.{and_both}
use Rattle.whole.specs.Laws.{one-*ℤ}
use Rattle.whole.specs.Ring.{by_ring, quote}
use Rattle.whole.specs.Centred.{centred, Congruent, congruent_same, congruent_step}
use Rattle.whole.proofs.Centred.{centred_congruent}
use Rattle.whole.specs.Lists.{every}
use Rattle.whole.specs.Inner.{inner, inner_cons}
use Rattle.scheme.specs.Arithmetic.{half, is_residue, encrypt, noise}
use Rattle.scheme.specs.Wording.{centred_residue}
use Rattle.noise.specs.Noise.{noise_reduced}

-- ---- entry 0 of a ciphertext

-- under a key, which begins with 1, entry 0 counts as it stands
pub key_inner : (s c : List ℤ) (y : ℤ) → get_or s 0 (pos 0) ≡ pos 1 → inner s (y ∷ c) ≡ y +ℤ inner (drop 1 s) c
key_inner s c y one = inner_cons s c y ∙ rw (one, one-*ℤ)

-- so that to reduce it changes <s,c> by a multiple of q
pub key_reduced : (q : ℕ) (s c : List ℤ) (y : ℤ) → 0 < q → get_or s 0 (pos 0) ≡ pos 1 → Congruent q (y +ℤ inner (drop 1 s) c) (inner s (centred q y ∷ c))
key_reduced q s c y h one =
    simp (one-*ℤ, ← key_inner s c (centred q y) one) at (congruent_step (pos 1) (centred_congruent q y h) (congruent_same q (inner (drop 1 s) c)))

-- ---- encryption

-- a fresh ciphertext's noise is at most the size of its error, for every mask
pub encrypt_noise : (q : ℕ) (s : List ℤ) (b : ℕ) (a : List ℤ) (e : ℤ) → 0 < q → get_or s 0 (pos 0) ≡ pos 1 → noise q s (encrypt q s b a e) b ≤ nat_abs e
unfolding encrypt
encrypt_noise q s b a e h one =
    let y : ℤ = pos b *ℤ half q -ℤ inner (drop 1 s) a +ℤ e in
    noise_reduced q s (centred q y ∷ a) b (pos 0) e h (key_reduced q s a y h one) (sorted (pos b *ℤ half q) (inner (drop 1 s) a) e (pos q))
  where
    sorted : (b i e q : ℤ) → b -ℤ i +ℤ e +ℤ i ≡ pos 0 *ℤ q +ℤ b +ℤ e
    sorted b i e q = by_ring (b ∷ i ∷ e ∷ q ∷ []) (search quote depth 100 fits 100000) tt

-- it has one entry more than the mask
pub length_encrypt : (q : ℕ) (s : List ℤ) (b : ℕ) (a : List ℤ) (e : ℤ) → length (encrypt q s b a e) ≡ suc (length a)
unfolding encrypt
length_encrypt q s b a e = refl

-- its entries are residues where those of the mask are
pub encrypt_residues : (q : ℕ) (s : List ℤ) (b : ℕ) (a : List ℤ) (e : ℤ) → 0 < q → q ≡ 2 * (q / 2) → every (is_residue q) a ≡ true
    → every (is_residue q) (encrypt q s b a e) ≡ true
unfolding encrypt every
encrypt_residues q s b a e h even r = and_both (centred_residue q (pos b *ℤ half q -ℤ inner (drop 1 s) a +ℤ e) h even) r
