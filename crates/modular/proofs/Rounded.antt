-- What `round_quotient` rests on. For an even q round(a/q) is (a + q/2)/q rounded down (`round_even`), and so is what the library's div_euclid gives for a divisor
-- above 0 (`euclid_floor`). That nothing wraps follows from |a| ≤ 2^62. Assumes nothing.
use Rattle.std.proofs.Common.{◌≡◌, refl, sym, ◌/◌, ◌≤◌, ◌<◌, ℕ, arith, w64, SFits, ℤ, pos, negsuc, ◌+ℤ◌, nat_abs, to_z-of_z}
use Rattle.std.specs.Int.{int_div_euclid}
use Rattle.std.specs.Int.Signed.{quot_z, shr_z}
use Rattle.whole.specs.Floor.{Floor, floor_is}
use Rattle.whole.specs.Size.{size_add}
use Rattle.whole.specs.Round.{round, round_even}
use Rattle.whole.specs.Machine.{word, fits64}
use Rattle.scheme.specs.Loans.{Modulus}

euclid_shr : (x : ℤ) (m : ℕ) → int_div_euclid x (pos m) ≡ shr_z x m
euclid_shr (pos a) m = refl
euclid_shr (negsuc a) m = refl

euclid_floor : (x : ℤ) (m : ℕ) → 0 < m → Floor x m (int_div_euclid x (pos m))
euclid_floor x m h = rw euclid_shr (floor_is x m h)

-- what the machine reads back of each number
module _ (q : ℕ) (a : ℤ) (modulus : Modulus q) (bounded : nat_abs a ≤ 4611686018427387904) where
  abbrev raised : ℤ
  raised = a +ℤ pos (q / 2)

  q_fits : SFits w64 (pos q)
  q_fits = fits64 _ (omega (arith, modulus.high))

  half_fits : SFits w64 (pos (q / 2))
  half_fits = fits64 _ (omega (arith, modulus.high))

  raised_fits : SFits w64 raised
  raised_fits = fits64 _ (omega (arith, bounded, modulus.high, size_add a (pos (q / 2))))

  pub rounds : SFits w64 a → int_div_euclid (word w64 (word w64 a +ℤ word w64 (quot_z (word w64 (pos q)) (pos 2)))) (word w64 (pos q)) ≡ round a q
  rounds f =
      simp (to_z-of_z, f, q_fits, half_fits, raised_fits)
      (sym (round_even a q (q / 2) _ modulus.positive modulus.even (euclid_floor raised q modulus.positive)))
