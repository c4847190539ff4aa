-- What the contracts cite: a count is of numbers at the front of a slice. Assumes nothing.
use Rattle.std.specs.Prelude.{ℕ, ◌≤◌, ◌≡◌, List, length, take}

-- n counts numbers at the front of xs. The second part follows from the first. Both are stated so that the proof that Rattle makes of `&xs[0..n]` finds them
abbrev pub CountIn : {A : Type 0} → ℕ → List A → Type 0
CountIn n xs = (n ≤ length xs) × (n ≡ length (take n xs))
