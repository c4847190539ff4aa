-- The calls' own test for residues gives what the arithmetic's code asks of its loans.
use Rattle.std.specs.Prelude.{◌≡◌, true, List, ℕ, ◌*◌, ◌≤◌, ℤ, pos, get_or}
use Rattle.std.proofs.Common.{arith}
use Rattle.whole.specs.Lists.{every, every_get_or, get_or_each}
use Rattle.scheme.specs.Arithmetic.{is_residue}
use Rattle.scheme.specs.Wording.{residue_size}
use Rattle.scheme.specs.Loans.{UpTo}

-- residues modulo m are at most M in size, where m is at most 2·M
pub residues_upto : (m M : ℕ) (xs : List ℤ) → m ≤ 2 * M → every (is_residue m) xs ≡ true → UpTo M xs
residues_upto m M xs h r =
    get_or_each (pos 0) (λ i l. omega (arith, residue_size m (get_or xs i (pos 0)) (every_get_or (is_residue m) xs i (pos 0) r l)))
