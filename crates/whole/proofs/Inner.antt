-- Laws about what `specs/Inner` defines that rest on a definition which a must-fail edit turns.
use Rattle.std.specs.Prelude.{ℕ, ◌<◌, ℤ, pos}
use mathlib.Core.List.{List, [], ◌∷◌, map}
use Rattle.whole.specs.Centred.{centred, Congruent, congruent_same, congruent_step}
use Rattle.whole.proofs.Centred.{centred_congruent}
use Rattle.whole.specs.Inner.{inner}

-- ---- the inner product

-- a list reduced entry by entry has the same inner product but for a multiple of q
pub inner_centred : (q : ℕ) (s c : List ℤ) → 0 < q → Congruent q (inner s c) (inner s (map (centred q) c))
unfolding inner
inner_centred q [] c h = congruent_same q (pos 0)
inner_centred q (x ∷ s) [] h = congruent_same q (pos 0)
inner_centred q (x ∷ s) (y ∷ c) h = congruent_step x (centred_congruent q y h) (inner_centred q s c h)
