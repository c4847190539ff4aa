-- Document 01's slip of rounding each product of the switch by itself: a witness that it is another function. The old engine did so.
use Rattle.std.specs.Prelude.{◌≡◌, refl, ◌≢◌, ℕ, ℤ, pos, ◌*ℤ◌, nat_abs, get_or}
use Rattle.std.proofs.Common.{sym, ap, ◌∙◌, arith}
use mathlib.Core.List.{List, map, zip_with}
use Rattle.whole.specs.Round.{round}
use Rattle.whole.specs.Centred.{centred, rest}
use Rattle.whole.specs.Lists.{tabulate, cut}
use Rattle.whole.specs.Inner.{inner, sum, column}
use Rattle.scheme.specs.Arithmetic.{key_rows, mask_column, row_zero_entry, switching_key, switch_entry, switch}
use Rattle.scheme.specs.Figures.{−, pair, four, switching_key₀}

-- the slip: each product is rounded, and then the sum is taken
unfoldable pub each_product_entry : ℕ → List ℤ → List ℤ → ℤ
each_product_entry q t row = centred q (sum (zip_with (λ x y. round (x *ℤ y) q) t row))

unfoldable pub each_product_switch : ℕ → ℕ → List ℤ → List ℤ → List ℤ
each_product_switch n q W t = map (each_product_entry q t) (key_rows n W)

-- document 01's key switches (2,2,2,2) to (7,1), and the slip gives (−8,2)
pub each_product_slips : each_product_switch 2 16 switching_key₀ (four (pos 2) (pos 2) (pos 2) (pos 2)) ≡ pair (− 8) (pos 2)
unfolding each_product_switch each_product_entry sum zip_with switching_key row_zero_entry mask_column key_rows centred rest round tabulate cut column inner
each_product_slips = refl

switch_right : switch 2 16 switching_key₀ (four (pos 2) (pos 2) (pos 2) (pos 2)) ≡ pair (pos 7) (pos 1)
unfolding switch switch_entry switching_key row_zero_entry mask_column key_rows centred rest round tabulate cut column inner
switch_right = refl

pub each_product_is_another : each_product_switch ≢ switch
each_product_is_another same =
    let clash : ◌≡◌ {A = ℕ} 8 7 = ap (λ (r : List ℤ). nat_abs (get_or r 0 (pos 0)))
    (sym each_product_slips ∙ ap (λ f. f 2 16 switching_key₀ (four (pos 2) (pos 2) (pos 2) (pos 2))) same ∙ switch_right) in
    omega arith
