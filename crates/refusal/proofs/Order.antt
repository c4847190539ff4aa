-- Laws about what `specs/Order` defines that rest on a definition which a must-fail edit turns.
use Rattle.std.specs.Prelude.{◌≡◌, refl, Bool, true, false, cond, List, [], ◌∷◌, ℕ, suc, ◌≤◌, length}
use Rattle.std.proofs.Common.{ap, inl, inr, ⊎_elim, le_of_eq, le_of_lt, arith}
use Rattle.whole.specs.Tests.{clash}
use Rattle.refusal.specs.First.{Row, some_true, first_of, Clear, Applies, none_true, all_false}
use Rattle.refusal.specs.Order.{order, position_in, position, in_order, Foremost, here_up, rest_up, inside}

-- ---- the first row that applies has that number, where the rows stand in the order

-- 0 is not
zero_outside : position 0 ≡ length order
unfolding position position_in order
zero_outside = refl

-- what applies stands at the position `low` or behind it
behind : (low : ℕ) (rows : List Row) (j : ℕ) → in_order low rows ≡ true → Applies rows j → low ≤ position j
behind low [] j up a = absurd a
behind low (r ∷ rows) j up a =
    let h : low ≤ position r.number = here_up low r rows up in
    let later : Applies rows j → suc (position r.number) ≤ position j = behind (suc (position r.number)) rows j (rest_up low r rows up) in
    ⊎_elim (λ here. omega (arith, h, ap position here.1)) (λ there. omega (arith, h, later there)) a

-- `in_order 0 rows` is one computed test
pub first_foremost : (low : ℕ) (rows : List Row) → in_order low rows ≡ true → Foremost rows (first_of rows)
unfolding first_of
first_foremost low [] up = record { given = λ h. absurd (h refl); foremost = λ j a. absurd a; done = λ e. tt; clear = λ c. refl }
first_foremost low (r ∷ rows) up = by_test (some_true r.tests) refl (first_foremost next rows up')
  where
    next : ℕ
    next = suc (position r.number)

    up' : in_order next rows ≡ true
    up' = rest_up low r rows up

    by_test : (t : Bool) → some_true r.tests ≡ t → Foremost rows (first_of rows) → Foremost (r ∷ rows) (cond t r.number (first_of rows))
    by_test true e l =
        record {
          given = λ h. inl (e, refl);
          foremost = λ j a. ⊎_elim (λ here. le_of_eq (ap position here.1)) (λ there. le_of_lt (behind next rows j up' there)) a;
          done = λ z. absurd (omega (arith, inside next rows up', ap position z, zero_outside));
          clear = λ c. clash e (none_true r.tests c.0);
        }
    by_test false e l =
        record {
          given = λ h. inr (l.given h);
          foremost = λ j a. ⊎_elim (λ here. clash here.0 e) (λ there. l.foremost j there) a;
          done = λ z. (all_false r.tests e, l.done z);
          clear = λ c. l.clear c.1;
        }

-- number 0 means that every test is false
pub first_clear : (rows : List Row) → in_order 0 rows ≡ true → first_of rows ≡ 0 → Clear rows
first_clear rows up e = (first_foremost 0 rows up).done e
