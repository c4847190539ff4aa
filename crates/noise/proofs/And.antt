-- The noise of AND, for any key row s and any switching key built for it: the whole number of the tensor under the first floor, and that
-- of the switch under the second.
use Rattle.std.specs.Prelude.{◌≡◌, true, List, [], ◌∷◌, map, ℕ, ◌*◌, ◌/◌, ◌≤◌, ◌<◌, length, get_or, ℤ, pos, ◌+ℤ◌, ◌-ℤ◌, ◌*ℤ◌, nat_abs}
use Rattle.std.proofs.Common.{sym, ap, ap₂, ◌∙◌, le_of_eq, arith}
use Rattle.whole.specs.Laws.{*ℤ_assoc}
use Rattle.whole.specs.Ring.{by_ring, quote}
use Rattle.whole.specs.Size.{size_add}
use Rattle.whole.specs.Centred.{centred}
use Rattle.whole.specs.Lists.{grid, get_or_grid_place, every}
use Rattle.whole.specs.Inner.{inner, inner_comm, sizes, column}
use Rattle.scheme.specs.Arithmetic.{half, is_residue, noise, tensor, key_rows, switch_entry, switch, AND, AND_bound}
use Rattle.scheme.specs.Wording.{length_tensor}
use Rattle.noise.specs.Noise.{Written, written, noise_le, size_fact}
use Rattle.noise.specs.Reduced.{residues_size}
use Rattle.noise.specs.Tensor.{halves, TensorNoise, tensor_size, tensor_bound}
use Rattle.noise.proofs.Tensor.{tensor_noise}
use Rattle.noise.specs.Switch.{SwitchNoise}
use Rattle.noise.proofs.Switch.{switch_noise}
use Rattle.noise.specs.Built.{BuiltFor}

-- the columns of a key that is built for s stand for s⊗s
stands_for : (n q F : ℕ) (s W : List ℤ) → length s ≡ n → BuiltFor n q F s W → (j : ℕ) → j < n * n
    → nat_abs (centred (q * q) (inner s (column j (key_rows n W)) -ℤ pos q *ℤ get_or (grid ◌*ℤ◌ s s) j (pos 0))) ≤ F
stands_for n q F s W long built j inside =
    rw (get_or_grid_place ◌*ℤ◌ s s j (pos 0) (pos 0) (pos 0) (rw long inside), long, ← *ℤ_assoc)
    (built.errors j inside)

-- <s,out> = turns·q + b1·b2·q/2 + the two whole numbers
and_sum : {q L N F b1 b2 : ℕ} {s c d : List ℤ} {rows : List (List ℤ)} {w1 : Written q s c b1} {w2 : Written q s d b2}
    (t : TensorNoise L w1 w2) (r : SwitchNoise q N F L s (grid ◌*ℤ◌ s s) (tensor q c d) rows)
    → inner s (map (switch_entry q (tensor q c d)) rows) ≡ (t.turns +ℤ r.turns) *ℤ pos q +ℤ pos (b1 * b2) *ℤ half q +ℤ (t.e +ℤ r.e)
and_sum {q} {b1 = b1} {b2 = b2} {s = s} {c = c} {d = d} t r =
    let bits : ℤ = pos (b1 * b2) *ℤ half q in
    r.sum
    ∙ ap (λ z. z +ℤ r.e +ℤ r.turns *ℤ pos q) (inner_comm (tensor q c d) (grid ◌*ℤ◌ s s) ∙ t.sum)
    ∙ by_ring (t.turns ∷ r.turns ∷ pos q ∷ bits ∷ t.e ∷ r.e ∷ []) (search quote depth 100 fits 100000) tt

-- where the noises of two ciphertexts for b1 and b2 are within B1 and B2, and these fit the budget, the noise of their AND for b1·b2 is
-- within the bound of AND
pub and_noise : (n q L F : ℕ) (s W c d : List ℤ) (b1 b2 B1 B2 : ℕ) → 0 < q → q ≡ 2 * (q / 2) → length s ≡ n → length c ≡ n → length d ≡ n
    → every (is_residue q) c ≡ true → every (is_residue q) d ≡ true → sizes s ≤ L → BuiltFor n q F s W
    → noise q s c b1 ≤ B1 → noise q s d b2 ≤ B2 → 4 * B1 < q → 4 * B2 < q
    → noise q s (AND n q W c d) (b1 * b2) ≤ AND_bound n q L F B1 B2
unfolding AND switch AND_bound
and_noise n q L F s W c d b1 b2 B1 B2 h even ls lc ld rc rd key built noise1 noise2 fits1 fits2 =
    let w1 : Written q s c b1 = written q s c b1 h in
    let w2 : Written q s d b2 = written q s d b2 h in
    let near1 : nat_abs (halves w1) ≤ L = size_fact q L s c b1 h even key (residues_size q c rc) (omega arith) w1 in
    let near2 : nat_abs (halves w2) ≤ L = size_fact q L s d b2 h even key (residues_size q d rd) (omega arith) w2 in
    let t : TensorNoise L w1 w2 = tensor_noise q L s c d b1 b2 h even (ls ∙ sym ld) key w1 w2 in
    let long : length (tensor q c d) ≤ n * n = le_of_eq (length_tensor q c d ∙ ap₂ ◌*◌ lc ld) in
    let r = switch_noise q (n * n) F L s (grid ◌*ℤ◌ s s) (tensor q c d) (key_rows n W) h key long (tensor_size q c d h) (stands_for n q F s W ls built) in
    omega (
      arith,
      noise_le q s (AND n q W c d) (b1 * b2) (t.turns +ℤ r.turns) (t.e +ℤ r.e) h (and_sum t r),
      size_add t.e r.e,
      tensor_bound t B1 B2 h (omega (arith, w1.size)) (omega (arith, w2.size)) near1 near2,
      r.small,
    )
