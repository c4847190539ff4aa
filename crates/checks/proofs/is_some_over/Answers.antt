-- `checks::is_some_over`: `any` finds a bound that does not fit exactly where not every one does.
use Rattle.std.proofs.Common.{◌≡◌, refl, sym, ap, Bool, true, false, not, List, ℕ, ◌*◌, ◌≤◌, ◌<◌, length, MatchBool, arith, rules, tests}
use Rattle.std.specs.List.{HoldsAt, AllWithin}
use Rattle.std.proofs.lemmas.Iterator.{cases_from_any, YieldsList-from_slice}
use Rattle.whole.specs.Lists.{every, every_get_or, get_or_every}
use Rattle.whole.specs.Tests.{clash}
use Rattle.scheme.specs.Arithmetic.{fits}
use Rattle.scheme.specs.Passed.{below_fits, above_fits}
use Rattle.checks.proofs.is_some_over.Goals as goal

module _ (q : ℕ) (bounds : List ℕ) where
  some_over : (r : Bool) → MatchBool r ((k : ℕ) × (k < length bounds) × HoldsAt (λ b. q ≤ 4 * b) bounds k) (AllWithin (λ b. 4 * b < q) bounds 0 (length bounds))
      → r ≡ not (every (fits q) bounds)
  some_over true over = by_test (every (fits q) bounds) refl
    where
      by_test : (t : Bool) → every (fits q) bounds ≡ t → true ≡ not t
      by_test true e = clash (every_get_or (fits q) bounds over.0 0 e over.1) (above_fits q _ (over.2 0))
      by_test false e = refl
  some_over false fit = ap not (sym (get_or_every (fits q) bounds 0 (λ i h. below_fits q _ (fit i 0 (omega arith) h))))

pub returns : goal.returns
returns c =
    some_over c.args.q c.args.bounds.now _
    (cases_from_any _ _ _ (λ b. c.args.q ≤ 4 * b) (λ b. 4 * b < c.args.q) c.any.ensures.ran (YieldsList-from_slice c.args.bounds.now cc) (λ x s k. search (rules, tests))
    (λ x s k. search (rules, tests)))
