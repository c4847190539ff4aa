-- Laws about what `specs/Lowest` defines that rest on a definition which a must-fail edit turns.
use Rattle.std.specs.Prelude.{◌≡◌, refl, Bool, true, false, cond, List, [], ◌∷◌, ℕ, suc, ◌≤◌, ◌<◌, ltb, eqb, length}
use Rattle.std.proofs.Common.{ap, ⊎_elim, arith, ltb-true, eqb-true}
use Rattle.whole.specs.Tests.{and_left, and_right}
use Rattle.refusal.specs.First.{Row, first_of, Applies}
use Rattle.refusal.specs.Order.{order, position_in, position, in_order, rest_up, inside}
use Rattle.refusal.proofs.Order.{first_foremost}
use Rattle.refusal.specs.Lowest.{are_rising}

above : (low : ℕ) (ms : List ℕ) (j : ℕ) → are_rising low ms ≡ true → position_in ms j < length ms → low < j
unfolding are_rising position_in
above low [] j up h = absurd (omega (arith, h))
above low (m ∷ ms) j up h = by_test (eqb m j) refl h (above m ms j (and_right (ltb low m) (are_rising m ms) up))
  where
    higher : low < m
    higher = ltb-true low m (and_left (ltb low m) (are_rising m ms) up)

    by_test : (t : Bool) → eqb m j ≡ t → cond t 0 (suc (position_in ms j)) < suc (length ms) → (position_in ms j < length ms → m < j) → low < j
    by_test true e l later = omega (arith, higher, eqb-true m j e)
    by_test false e l later = let h : m < j = later (omega (arith, l)) in omega (arith, higher, h)

rising_position : (low : ℕ) (ms : List ℕ) (k j : ℕ) → are_rising low ms ≡ true → position_in ms k ≤ position_in ms j → position_in ms j < length ms → k ≤ j
unfolding are_rising position_in
rising_position low [] k j up h l = absurd (omega (arith, l))
rising_position low (m ∷ ms) k j up h l = by_tests (eqb m k) (eqb m j) refl refl h l (rising_position m ms k j rest)
  where
    rest : are_rising m ms ≡ true
    rest = and_right (ltb low m) (are_rising m ms) up

    by_tests : (t u : Bool) → eqb m k ≡ t → eqb m j ≡ u → cond t 0 (suc (position_in ms k)) ≤ cond u 0 (suc (position_in ms j))
        → cond u 0 (suc (position_in ms j)) < suc (length ms) → (position_in ms k ≤ position_in ms j → position_in ms j < length ms → k ≤ j) → k ≤ j
    by_tests true true e f h l later = omega (arith, eqb-true m k e, eqb-true m j f)
    by_tests false true e f h l later = absurd (omega (arith, h))
    by_tests true false e f h l later = let b : m < j = above m ms j rest (omega (arith, l)) in omega (arith, eqb-true m k e, b)
    by_tests false false e f h l later = later (omega (arith, h)) (omega (arith, l))

-- what applies is one of the order
applies_inside : (low : ℕ) (rows : List Row) (j : ℕ) → in_order low rows ≡ true → Applies rows j → position j < length order
applies_inside low [] j up a = absurd a
applies_inside low (r ∷ rows) j up a =
    let next : ℕ = suc (position r.number) in
    let up' : in_order next rows ≡ true = rest_up low r rows up in
    ⊎_elim (λ here. omega (arith, inside next rows up', ap position here.1)) (λ there. applies_inside next rows j up' there) a

-- the lowest number that applies
pub first_lowest : (rows : List Row) → in_order 0 rows ≡ true → (j : ℕ) → Applies rows j → first_of rows ≤ j
unfolding are_rising order position
first_lowest rows up j a = rising_position 0 order (first_of rows) j refl ((first_foremost 0 rows up).foremost j a) (applies_inside 0 rows j up a)
