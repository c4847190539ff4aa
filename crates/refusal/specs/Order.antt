-- Document 01, *Refusal numbers*: the order in which the numbers are given, for every call but those on a circuit file, which has an order of its own. A call
-- gives the first number of that order that applies, and 0 exactly when none does. A request that adds a number adds it here.
use Rattle.std.specs.Prelude.{◌≡◌, ◌≢◌, Bool, true, cond, ◌&&◌, List, [], ◌∷◌, ℕ, suc, ◌≤◌, leb, eqb, length}
use Rattle.std.proofs.Common.{arith, leb-true}
use Rattle.whole.specs.Tests.{and_left, and_right}
use Rattle.refusal.specs.First.{Row, Clear, Applies}

-- ---- the order

unfoldable pub order : List ℕ
order = 1 ∷ 2 ∷ 3 ∷ 4 ∷ 5 ∷ 6 ∷ 7 ∷ 8 ∷ 9 ∷ 10 ∷ []

-- the position of a number in a list, and the list's length where it is not in it
unfoldable pub position_in : List ℕ → ℕ → ℕ
position_in [] k = 0
position_in (m ∷ ms) k = cond (eqb m k) 0 (suc (position_in ms k))

-- the position of a number in the order
unfoldable pub position : ℕ → ℕ
position k = position_in order k

-- the rows stand in the order from the position `low` on: each number is in the order, behind those of the rows before it
unfoldable pub in_order : ℕ → List Row → Bool
in_order low [] = leb low (length order)
in_order low (r ∷ rows) = leb low (position r.number) && in_order (suc (position r.number)) rows

-- k is the first number of the order that applies, and 0 exactly when none does
pub record Foremost (rows : List Row) (k : ℕ) : Type 0 where
  pub given : k ≢ 0 → Applies rows k
  pub foremost : (j : ℕ) → Applies rows j → position k ≤ position j
  pub done : k ≡ 0 → Clear rows
  pub clear : Clear rows → k ≡ 0

-- ---- the first row that applies has that number, where the rows stand in the order

pub here_up : (low : ℕ) (r : Row) (rows : List Row) → in_order low (r ∷ rows) ≡ true → low ≤ position r.number
unfolding in_order
here_up low r rows up = leb-true low (position r.number) (and_left (leb low (position r.number)) (in_order (suc (position r.number)) rows) up)

pub rest_up : (low : ℕ) (r : Row) (rows : List Row) → in_order low (r ∷ rows) ≡ true → in_order (suc (position r.number)) rows ≡ true
unfolding in_order
rest_up low r rows up = and_right (leb low (position r.number)) (in_order (suc (position r.number)) rows) up

-- each row's number is one of the order
pub inside : (low : ℕ) (rows : List Row) → in_order low rows ≡ true → low ≤ length order
unfolding in_order
inside low [] up = leb-true low (length order) up
inside low (r ∷ rows) up = omega (arith, here_up low r rows up, inside (suc (position r.number)) rows (rest_up low r rows up))
