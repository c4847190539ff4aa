-- Document 01, *Refusal numbers*: "A call gives the lowest number that applies". Its order is that of the numbers, so that the first of the order is the lowest.
use Rattle.std.specs.Prelude.{Bool, true, ◌&&◌, List, [], ◌∷◌, ℕ, ltb}

-- each number is above the one before it, and above `low`
unfoldable pub are_rising : ℕ → List ℕ → Bool
are_rising low [] = true
are_rising low (m ∷ ms) = ltb low m && are_rising m ms
