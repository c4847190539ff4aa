-- Fields read in two parts: what stands in front, and then the rest, as big-endian has it; and a field past the end of the file, which is 0.
use Rattle.std.specs.Prelude.{◌≡◌, refl, List, ℕ, zero, suc, ◌+◌, ◌*◌, ◌≤◌, length, get_or}
use Rattle.std.proofs.Math.Path.{ap}
use Rattle.std.proofs.Common.{◌∙◌, add-zero}
use native.Mathlib.Omega.{arith}
use Rattle.std.proofs.Math.ListN.{get_or-eq_default}
use Rattle.whole.specs.Lists.{tabulate, tabulate_cong}
use Rattle.circuitfile.specs.File.{big_endian, field}

zeros : (n : ℕ) → big_endian (tabulate n (λ i. 0)) ≡ 0
unfolding big_endian tabulate
zeros zero = refl
zeros (suc n) = zeros n

module _ (file : List ℕ) (at : ℕ) where
  -- a field of one byte is the byte
  pub field_one : field file at 1 ≡ get_or file at 0
  unfolding field big_endian tabulate
  field_one = rw (add-zero at) (omega arith)

  -- one of two bytes is the first and then the second
  pub field_two : field file at 2 ≡ 256 * field file at 1 + field file (at + 1) 1
  unfolding field big_endian tabulate
  field_two = rw (add-zero (at + 1)) (omega arith)

  -- and one of four is the first two and then the other two
  pub field_four : field file at 4 ≡ 65536 * field file at 2 + field file (at + 2) 2
  unfolding field big_endian tabulate
  field_four =
      let last : at + 2 + 1 ≡ at + 3 = omega arith in
      rw (add-zero (at + 2), last) (omega arith)

  pub field_past : (width : ℕ) → length file ≤ at → field file at width ≡ 0
  unfolding field
  field_past width h = ap big_endian (tabulate_cong width _ _ (λ i inside. get_or-eq_default file 0 (omega arith))) ∙ zeros width
