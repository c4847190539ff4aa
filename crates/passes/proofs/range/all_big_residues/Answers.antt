-- `range::all_big_residues` tells whether every entry is a residue of q²: as `all_below` does for q²/2, since q² is even (`square`).
use Rattle.std.proofs.Common.{◌≡◌, ℕ, ℤ, ◌*◌, ◌/◌, Bool, List, sym, ap, ◌∙◌, rules, take_all}
use Rattle.whole.specs.Lists.{every}
use Rattle.scheme.specs.Arithmetic.{is_residue}
use Rattle.scheme.specs.Loans.{Modulus, square}
use Rattle.passes.proofs.range.all_big_residues.Goals as goal

-- a test of w²/2, where w is q, of a list that is xs, tells of q² and xs
of_square : {told : Bool} {w q : ℕ} {tested xs : List ℤ} → told ≡ every (is_residue (2 * (w * w / 2))) tested
    → w ≡ q → Modulus q → tested ≡ xs → told ≡ every (is_residue (q * q)) xs
of_square {told} {w} {q} {tested} {xs} e same m whole = e ∙ rw (same, whole) (ap (λ (k : ℕ). every (is_residue k) xs) (sym (square m).even))

pub returns : goal.returns
returns c = of_square c.all_below.ensures (c.from-wide.ensures ∙ c.get.ensures.value) c.get.ensures.modulus (search (rules, take_all))
