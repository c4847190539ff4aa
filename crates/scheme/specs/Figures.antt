-- Document 01, *Sheet 0 and edge figures*: the figures marked P, as one table of the definitions, proved by one computed test.
use Rattle.std.specs.Prelude.{◌≡◌, refl, ℕ, ℤ, pos, neg_ℤ, replicate}
use mathlib.Core.List.{List, [], ◌∷◌, map, zip_with, flat_map}
use Rattle.whole.specs.Round.{round}
use Rattle.whole.specs.Centred.{centred, rest}
use Rattle.whole.specs.Lists.{every, tabulate, grid, cut}
use Rattle.whole.specs.Inner.{inner, column}
use Rattle.refusal.specs.First.{some_true, first_of}
use Rattle.refusal.specs.Parameters.{sheet, sheets, sheet_table, in_range}
use Rattle.scheme.specs.Arithmetic.{is_residue, encrypt, decrypt, noise, XOR, NOT, tensor_entry, tensor, key_rows, mask_column, row_zero_entry, switching_key, switch_entry, switch, AND_bound, fits}
use Rattle.scheme.specs.Calls.{bad_params, differs, outside, over_budget, and_loans, and_rows}

-- what a definition computes, beside what document 01 states
pub record Figure : Type 0 where
  pub computed : List ℤ
  pub stated : List ℤ

abbrev pub is : List ℤ → List ℤ → Figure
is c s = record { computed = c; stated = s }

abbrev pub − : ℕ → ℤ
− n = neg_ℤ (pos n)

abbrev pub pair : ℤ → ℤ → List ℤ
pair x y = x ∷ y ∷ []

abbrev pub four : ℤ → ℤ → ℤ → ℤ → List ℤ
four x y z w = x ∷ y ∷ z ∷ w ∷ []

abbrev pub number : ℕ → List ℤ
number k = pos k ∷ []

-- q = 16, s = (1,1)
abbrev q : ℕ
q = 16

abbrev s : List ℤ
s = pair (pos 1) (pos 1)

abbrev pub switching_key₀ : List ℤ
switching_key₀ = switching_key 2 q s (four (pos 100) (− 100) (pos 7) (pos 0)) (four (pos 1) (pos 0) (pos 0) (− 1))

-- the number that AND answers on sheet 1 for two zero ciphertexts with the bounds B1 and B2, and a zero switching key
abbrev and_number : ℕ → ℕ → ℕ
and_number B1 B2 =
    first_of (and_rows (and_loans (sheet 1) (replicate 4 (pos 0)) B1 (replicate 4 (pos 0)) B2 (replicate 64 (pos 0)) (replicate 16 (pos 0)) (replicate 4 (pos 0))))

pub figures : List Figure
figures =
    -- bit 1, mask 3, error 1
    is (encrypt q s 1 (pos 3 ∷ []) (pos 1)) (pair (pos 6) (pos 3))
    ∷ is (number (decrypt q s (pair (pos 6) (pos 3)))) (number 1)
    ∷ is (number (noise q s (pair (pos 6) (pos 3)) 1)) (number 1)
    -- bit 0, mask −8, error 0
    ∷ is (encrypt q s 0 (− 8 ∷ []) (pos 0)) (pair (− 8) (− 8))
    ∷ is (number (decrypt q s (pair (− 8) (− 8)))) (number 0)
    -- bit 1, mask −8, error −1
    ∷ is (encrypt q s 1 (− 8 ∷ []) (− 1)) (pair (− 1) (− 8))
    ∷ is (number (decrypt q s (pair (− 1) (− 8)))) (number 1)
    ∷ is (number (noise q s (pair (− 1) (− 8)) 1)) (number 1)
    -- s = (1,−1), bit 1, mask 5, error 0
    ∷ is (encrypt q (pair (pos 1) (− 1)) 1 (pos 5 ∷ []) (pos 0)) (pair (− 3) (pos 5))
    ∷ is (number (decrypt q (pair (pos 1) (− 1)) (pair (− 3) (pos 5)))) (number 1)
    -- (6,3) XOR itself
    ∷ is (XOR q (pair (pos 6) (pos 3)) (pair (pos 6) (pos 3))) (pair (− 4) (pos 6))
    ∷ is (number (decrypt q s (pair (− 4) (pos 6)))) (number 0)
    ∷ is (number (noise q s (pair (− 4) (pos 6)) 0)) (number 2)
    -- NOT (6,3)
    ∷ is (NOT q (pair (pos 6) (pos 3))) (pair (− 2) (pos 3))
    ∷ is (number (decrypt q s (pair (− 2) (pos 3)))) (number 0)
    -- (6,3) tensor itself
    ∷ is (tensor q (pair (pos 6) (pos 3)) (pair (pos 6) (pos 3))) (four (pos 5) (pos 2) (pos 2) (pos 1))
    -- masks (100,−100,7,0), errors (1,0,0,−1): row 0, and then the masks
    ∷ is switching_key₀ (− 83 ∷ pos 116 ∷ pos 9 ∷ pos 15 ∷ four (pos 100) (− 100) (pos 7) (pos 0))
    -- that key switches (5,2,2,1)
    ∷ is (switch 2 q switching_key₀ (four (pos 5) (pos 2) (pos 2) (pos 1))) (pair (pos 7) (pos 4))
    ∷ is (number (decrypt q s (pair (pos 7) (pos 4)))) (number 1)
    ∷ is (number (noise q s (pair (pos 7) (pos 4)) 1)) (number 3)
    -- and (2,2,2,2)
    ∷ is (switch 2 q switching_key₀ (four (pos 2) (pos 2) (pos 2) (pos 2))) (pair (pos 7) (pos 1))
    -- q 65,536, n 4, L 4, F 1: AND of two bounds 2,030, accepted; of two bounds 2,031, refused 10
    ∷ is (number (AND_bound 4 65536 4 1 2030 2030)) (number 16383)
    ∷ is (number (and_number 2030 2030)) (number 0)
    ∷ is (number (AND_bound 4 65536 4 1 2031 2031)) (number 16391)
    ∷ is (number (and_number 2031 2031)) (number 10)
    ∷ []

pub figures_hold : map (λ f. f.computed) figures ≡ map (λ f. f.stated) figures
unfolding figures encrypt decrypt noise XOR NOT tensor tensor_entry switching_key row_zero_entry mask_column key_rows switch switch_entry AND_bound fits is_residue some_true first_of centred rest round zip_with flat_map grid tabulate cut column inner and_rows bad_params differs outside over_budget in_range sheet sheets sheet_table every
figures_hold = refl
