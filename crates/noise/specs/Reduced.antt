-- Lists reduced or rounded entry by entry: what becomes of their inner product with any row s, and the size of residues.
use Rattle.std.specs.Prelude.{◌≡◌, true, List, [], ◌∷◌, map, ℕ, ◌*◌, ◌/◌, ◌≤◌, ◌<◌, ℤ, pos, ◌+ℤ◌, ◌-ℤ◌, ◌*ℤ◌, nat_abs}
use Rattle.std.proofs.Common.{sym, ap, ap₂, ◌∙◌, map-id}
use Rattle.std.proofs.Math.Path.{fun_ext}
use Rattle.std.proofs.lemmas.Simd.{map-map}
use Rattle.whole.specs.Ring.{by_ring, quote, from_eq}
use Rattle.whole.specs.Size.{size_mul}
use Rattle.whole.specs.Round.{round, round_near}
use Rattle.whole.specs.Centred.{Centred, centred, centred_is}
use Rattle.whole.specs.Lists.{every, every_each, Each, each_map, each_always}
use Rattle.whole.specs.Inner.{inner, sizes, inner_map_scale, inner_map_sub, inner_size}
use Rattle.scheme.specs.Arithmetic.{is_residue}
use Rattle.scheme.specs.Wording.{residue_size}

-- ---- reduced

-- how many times q is taken off x to reach [x]q
pub turns_of : (q : ℕ) → 0 < q → ℤ → ℤ
turns_of q h x = (centred_is q x h).turns

-- [x]q = x − q·turns
pub centred_off : (q : ℕ) (h : 0 < q) (x : ℤ) → centred q x ≡ x -ℤ pos q *ℤ turns_of q h x
unfolding turns_of
centred_off q h x =
    let c : Centred q x (centred q x) = centred_is q x h in
    from_eq (pos 1) (sym c.off) (by_ring (x ∷ centred q x ∷ c.turns ∷ pos q ∷ []) (search quote depth 100 fits 100000) tt)

module _ (q : ℕ) (h : 0 < q) (s : List ℤ) where
  -- a list reduced entry by entry has the same inner product, up to a multiple of q
  pub inner_reduced : (zs : List ℤ) → inner s (map (centred q) zs) ≡ inner s zs -ℤ pos q *ℤ inner s (map (turns_of q h) zs)
  inner_reduced zs =
      ap (λ (g : ℤ → ℤ). inner s (map g zs)) (fun_ext (centred_off q h))
      ∙ inner_map_sub (λ z. z) (λ z. pos q *ℤ turns_of q h z) s zs
      ∙ ap₂ ◌-ℤ◌ (ap (inner s) (map-id zs)) (inner_map_scale (pos q) (turns_of q h) s zs)

  -- the same of the values of f on any list
  pub inner_reduced_map {ℓ} : {A : Type ℓ} (f : A → ℤ) (ps : List A)
      → inner s (map (λ p. centred q (f p)) ps) ≡ inner s (map f ps) -ℤ pos q *ℤ inner s (map (λ p. turns_of q h (f p)) ps)
  inner_reduced_map f ps = simp map-map at (inner_reduced (map f ps))

-- ---- rounded

-- q times the inner product of the rounded quotients z/q differs from that of the z by at most (|s₀| + |s₁| + ..)·q/2
pub inner_rounded : (q : ℕ) → 0 < q → (s zs : List ℤ) → nat_abs (pos 2 *ℤ (pos q *ℤ inner s (map (λ z. round z q) zs) -ℤ inner s zs)) ≤ sizes s * q
inner_rounded q h s zs =
    let off : ℤ → ℤ = λ z. pos 2 *ℤ (pos q *ℤ round z q -ℤ z) in
    simp (inner_map_scale, inner_map_sub, map-id) at (inner_size s (each_map off (each_always (λ z. round_near z q h) zs)))

-- q times the inner product of the [round(z/q)]q is that of the z, but for what rounding leaves, at most (|s₀| + |s₁| + ..)·q/2, and a
-- multiple of q²
pub record Rounded (q : ℕ) (s zs : List ℤ) : Type 0 where
  pub turns : ℤ
  pub off : ℤ
  pub sum : pos q *ℤ inner s (map (λ z. centred q (round z q)) zs) ≡ inner s zs +ℤ off -ℤ pos q *ℤ (pos q *ℤ turns)
  pub small : 2 * nat_abs off ≤ sizes s * q

regroup : (q r k z : ℤ) → q *ℤ (r -ℤ q *ℤ k) ≡ z +ℤ (q *ℤ r -ℤ z) -ℤ q *ℤ (q *ℤ k)
regroup q r k z = by_ring (q ∷ r ∷ k ∷ z ∷ []) (search quote depth 100 fits 100000) tt

pub rounded : (q : ℕ) → 0 < q → (s zs : List ℤ) → Rounded q s zs
rounded q h s zs =
    let r : ℤ = inner s (map (λ z. round z q) zs) in
    let k : ℤ = inner s (map (λ z. turns_of q h (round z q)) zs) in
    record {
      turns = k;
      off = pos q *ℤ r -ℤ inner s zs;
      sum = ap (λ z. pos q *ℤ z) (inner_reduced_map q h s (λ z. round z q) zs) ∙ regroup (pos q) r k (inner s zs);
      small = rw (← size_mul (pos 2) (pos q *ℤ r -ℤ inner s zs)) (inner_rounded q h s zs);
    }

-- ---- sizes

-- every entry of a ciphertext is at most q/2 in size
pub residues_size : (q : ℕ) (c : List ℤ) → every (is_residue q) c ≡ true → Each (λ x. nat_abs x ≤ q / 2) c
residues_size q c = every_each (is_residue q) c (residue_size q)
