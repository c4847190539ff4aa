-- `put_number` writes the digits as `decimal` has them: one, or the last behind the others, which are those of x/10.
use Rattle.std.proofs.Common.{◌≡◌, refl, ◌∙◌, List, [], ◌∷◌, ◌++◌, append_assoc, ℕ, ◌+◌, ◌/◌, ◌%◌, ◌≤◌, ◌<◌, arith}
use Rattle.circuitfile.specs.Text.{decimal}
use Rattle.circuitfile.specs.Digits.{decimal_short, decimal_long}
use Rattle.text.proofs.page.Page.+put_number.Goals as goal
use Rattle.text.proofs.page.Page.+put_number.Goals.{then-x-gt9, else-x-gt9}

-- behind what was there, and the other digits, comes the last
last : (old mid : List ℕ) (x : ℕ) → 10 ≤ x → mid ≡ old ++ decimal (x / 10) → mid ++ ((48 + x % 10) ∷ []) ≡ old ++ decimal x
last old mid x h e = rw (e, append_assoc, ← decimal_long x h) refl

only : (old mid : List ℕ) (x : ℕ) → x < 10 → mid ≡ old → mid ++ ((48 + x % 10) ∷ []) ≡ old ++ decimal x
only old mid x h e = let one : x % 10 ≡ x = omega arith in rw (e, one, decimal_short x h) refl

pub returns-clause-written : goal.returns-clause-written
returns-clause-written t c =
    c.put.ensures.written ∙ elim c.if-x-gt9.branch [
      | then-x-gt9 w ↦ last c.args.self.now c.if-x-gt9.self c.args.x w.if-x-gt9.true (w.self-is ∙ w.put_number.ensures.written)
      | else-x-gt9 w ↦ only c.args.self.now c.if-x-gt9.self c.args.x (omega arith) w.self-is
    ]
