-- Ties and slips: figures that the table of document 01 leaves open, so that no definition can slip by a half, an index or a
-- floor without one of them failing. They hold by the same computed test.
use Rattle.std.specs.Prelude.{◌≡◌, refl, ℤ, pos}
use mathlib.Core.List.{List, [], ◌∷◌, map, flat_map}
use Rattle.whole.specs.Round.{round}
use Rattle.whole.specs.Centred.{centred, rest}
use Rattle.whole.specs.Lists.{grid}
use Rattle.whole.specs.Inner.{inner}
use Rattle.scheme.specs.Arithmetic.{decrypt, tensor_entry, tensor, switch_entry, AND_bound}
use Rattle.scheme.specs.Figures.{Figure, is, −, pair, four, number}

abbrev s : List ℤ
s = pair (pos 1) (pos 1)

pub ties : List Figure
ties =
    -- a magnitude of exactly q/4 decrypts to 0, from either side; one more decrypts to 1
    is (number (decrypt 16 s (pair (pos 4) (pos 0)))) (number 0)
    ∷ is (number (decrypt 16 s (pair (− 4) (pos 0)))) (number 0)
    ∷ is (number (decrypt 16 s (pair (pos 5) (pos 0)))) (number 1)
    -- a half goes up
    ∷ is (round (pos 9) 2 ∷ []) (pos 5 ∷ [])
    ∷ is (round (− 9) 2 ∷ []) (− 4 ∷ [])
    -- also in the switch, of the whole sum: 24/16 and −24/16
    ∷ is (pair (switch_entry 16 (pair (pos 1) (pos 1)) (pair (pos 20) (pos 4))) (switch_entry 16 (pair (pos 1) (pos 1)) (pair (− 20) (− 4)))) (pair (pos 2) (− 1))
    -- the range of a residue ends at q/2−1, also where q is no power of two
    ∷ is (pair (centred 16 (pos 8)) (centred 16 (pos 7))) (pair (− 8) (pos 7))
    ∷ is (pair (centred 18 (pos 9)) (centred 18 (− 10))) (pair (− 9) (pos 8))
    -- a tensor of two different vectors
    ∷ is (tensor 16 (pair (pos 6) (pos 3)) (pair (pos 5) (pos 1))) (four (pos 4) (pos 1) (pos 2) (pos 0))
    -- (−q/2)·(−q/2) gives q/2, which is −q/2 after reduction
    ∷ is (tensor_entry 16 (− 8) (− 8) ∷ []) (− 8 ∷ [])
    -- the two floors of the AND bound are taken apart: 2 and not 3
    ∷ is (number (AND_bound 2 1024 1 1 0 0)) (number 2)
    ∷ is (number (AND_bound 2 16 1 1 1 0)) (number 3)
    ∷ []

pub ties_hold : map (λ f. f.computed) ties ≡ map (λ f. f.stated) ties
unfolding ties decrypt tensor tensor_entry switch_entry AND_bound centred rest round grid flat_map inner
ties_hold = refl
