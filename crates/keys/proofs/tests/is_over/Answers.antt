-- `tests::is_over` is `over_budget`: a bound is at or above a quarter of q, rounded up, exactly where four times it is at or above q.
use Rattle.std.proofs.Common.{◌≡◌, ℕ, ◌*◌, ◌<◌, ◌≤◌, Bool, true, false, leb, sym, refl, arith, leb-false, leb-true}
use Rattle.scheme.specs.Calls.{over_budget}
use Rattle.scheme.specs.Passed.{above_over, below_over}
use Rattle.keys.proofs.tests.is_over.Goals as goal

-- k is the least bound that does not fit
least : (q B k : ℕ) → (k ≤ B → q ≤ 4 * B) → (B < k → 4 * B < q) → leb k B ≡ over_budget q B
least q B k above below = by_test (leb k B) refl
  where
    by_test : (t : Bool) → leb k B ≡ t → t ≡ over_budget q B
    by_test true e = sym (above_over q B (above (leb-true k B e)))
    by_test false e = sym (below_over q B (below (leb-false k B e)))

pub returns : goal.returns
returns c = least c.args.q c.args.bound _ (λ h. omega arith) (λ h. omega arith)
