-- `tests::is_bad_key` is `bad_key`: an empty key has 0 for its entry 0, which is not 1, and of any other the code compares entry 0
-- by its bits. Leans on what `sum_of_sizes` ensures.
use Rattle.std.proofs.Common.{◌≡◌, ℕ, suc, ◌-◌, true, List, [], ◌∷◌, length, get_or, eqb, ℤ, pos, negsuc, refl, arith, rules, tests, ne_eqb, SFits, of_z, w32}
use Rattle.whole.specs.Tests.{eq_z}
use Rattle.scheme.specs.Arithmetic.{is_key}
use Rattle.scheme.specs.Calls.{bad_key}
use Rattle.keys.proofs.tests.is_bad_key.Goals as goal

empty_bad : (L : ℕ) (s : List ℤ) → length s ≡ 0 → true ≡ bad_key L s
unfolding bad_key is_key eq_z
empty_bad L [] e = refl
empty_bad L (x ∷ s) e = absurd (omega arith)

one_bits : (x : ℤ) → SFits w32 x → eqb (of_z w32 x) 1 ≡ eq_z x (pos 1)
unfolding eq_z
one_bits (pos n) f = refl
one_bits (negsuc n) f = ne_eqb (4294967296 - suc n) 1 (λ e. omega (arith, f.sfits))

pub returns-then-is_empty : goal.returns-then-is_empty
returns-then-is_empty c = empty_bad _ _ (search (rules, tests))

pub returns : goal.returns
unfolding bad_key is_key
returns c = simp (one_bits (get_or c.args.s.now 0 (pos 0)) (search rules), c.sum_of_sizes.ensures)
