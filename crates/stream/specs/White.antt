-- White space, and where a number ends. Assumes nothing.
use Rattle.std.specs.Prelude.{ℕ, Bool, List, [], ◌∷◌, ◌≡◌, ◌||◌, ◌==◌, true}

-- space, tab, line feed, carriage return
unfoldable pub is_white : ℕ → Bool
is_white b = b == 32 || b == 9 || b == 10 || b == 13

-- nothing is left, or white space is next
abbrev pub WhiteNext : List ℕ → Type 0
WhiteNext [] = Unit {0}
WhiteNext (b ∷ bs) = is_white b ≡ true
