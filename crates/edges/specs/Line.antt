-- The line that a case's answer is given. Assumes nothing.
use Rattle.std.specs.Prelude.{ℕ, List, [], ◌∷◌, Option, Some, None, codes}
use Rattle.stream.specs.Held.{put, put_number, put_numbers, spaced}
use Rattle.edges.specs.declared.Answer.{Answer}
use Rattle.edges.specs.declared.Answer.TheVariants.{Number, Numbers}

-- what a block holds after the words of a line
abbrev pub words : Option Answer → List ℕ → List ℕ
words (Some (Number x)) held = put_number x held
words (Some (Numbers xs)) held = put_numbers xs.now held
words None held = put (spaced (codes "refused")) held

-- and after the line
abbrev pub line : Option Answer → List ℕ → List ℕ
line answer held = put (10 ∷ []) (words answer held)
