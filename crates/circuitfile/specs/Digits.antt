-- The digits of a number: one, or the last behind the others; and how many there are.
use Rattle.std.specs.Prelude.{◌≡◌, refl, Bool, true, false, cond, List, [], ◌∷◌, ◌++◌, ℕ, zero, suc, ◌+◌, ◌/◌, ◌%◌, ◌^◌, ◌≤◌, ◌<◌, ltb, length}
use Rattle.std.proofs.Common.{ap, ◌∙◌, pow-suc, not-suc-le-zero, arith, length-append, ltb-true, ltb-false, lt-ltb, le-ltb}
use Rattle.circuitfile.specs.Text.{decimal_up_to, decimal}

-- any limit that is above the number will do
enough : (m k x : ℕ) → x < m → x < k → decimal_up_to m x ≡ decimal_up_to k x
unfolding decimal_up_to
enough zero k x h g = absurd (not-suc-le-zero h)
enough (suc m) zero x h g = absurd (not-suc-le-zero g)
enough (suc m) (suc k) x h g = by_length (ltb x 10) refl (enough m k (x / 10))
  where
    by_length : (t : Bool) → ltb x 10 ≡ t → (x / 10 < m → x / 10 < k → decimal_up_to m (x / 10) ≡ decimal_up_to k (x / 10))
        → cond t ((48 + x) ∷ []) (decimal_up_to m (x / 10) ++ ((48 + x % 10) ∷ [])) ≡ cond t ((48 + x) ∷ []) (decimal_up_to k (x / 10) ++ ((48 + x % 10) ∷ []))
    by_length true e more = refl
    by_length false e more =
        let ten : 10 ≤ x = ltb-false x 10 e in
        rw (more (omega arith) (omega arith))

-- one digit
pub decimal_short : (x : ℕ) → x < 10 → decimal x ≡ (48 + x) ∷ []
unfolding decimal decimal_up_to
decimal_short x h = rw (lt-ltb x 10 h)

-- or the last after the others
pub decimal_long : (x : ℕ) → 10 ≤ x → decimal x ≡ decimal (x / 10) ++ ((48 + x % 10) ∷ [])
unfolding decimal decimal_up_to
decimal_long x h = rw (le-ltb x 10 h) (ap (λ (ds : List ℕ). ds ++ ((48 + x % 10) ∷ [])) (enough x (suc (x / 10)) (x / 10) (omega arith) (omega arith)))

pub length_short : (x : ℕ) → x < 10 → length (decimal x) ≡ 1
length_short x h = ap length (decimal_short x h)

pub length_long : (x : ℕ) → 10 ≤ x → length (decimal x) ≡ length (decimal (x / 10)) + 1
length_long x h = ap length (decimal_long x h) ∙ length-append (decimal (x / 10)) ((48 + x % 10) ∷ [])

-- a number below a power of ten has no more digits than the power
pub decimal_few : (k x : ℕ) → x < 10 ^ suc k → length (decimal x) ≤ suc k
decimal_few zero x h = omega (arith, length_short x (omega (arith, h, pow-suc 10 0)))
decimal_few (suc k) x h = by_length (ltb x 10) refl (decimal_few k (x / 10))
  where
    by_length : (t : Bool) → ltb x 10 ≡ t → (x / 10 < 10 ^ suc k → length (decimal (x / 10)) ≤ suc k) → length (decimal x) ≤ suc (suc k)
    by_length true e fewer = omega (arith, length_short x (ltb-true x 10 e))
    by_length false e fewer =
        let below : x / 10 < 10 ^ suc k = omega (arith, h, pow-suc 10 (suc k)) in
        omega (arith, fewer below, length_long x (ltb-false x 10 e))
