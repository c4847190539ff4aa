-- `BigResidue::round` answers [round(s/q)]q. s is at most Q/2 = q·(q/2) in size, so that its quotient by q rounds to at most q/2 (`round_size`), which
-- `up_to_half` takes. Assumes nothing.
use Rattle.std.proofs.Common.{◌≡◌, ◌*◌, ◌/◌, ◌≤◌, ℕ, ap, ◌∙◌, arith, rules, w64, SFits, ℤ, nat_abs, to_z-of_z}
use Rattle.whole.specs.Round.{round}
use Rattle.whole.proofs.Round.{round_size}
use Rattle.whole.specs.Machine.{word}
use Rattle.scheme.specs.Loans.{Modulus}
use Rattle.modular.proofs.big_residue.BigResidue.round.Goals as goal

-- the rounded quotient of a residue modulo Q is at most q/2 in size
half_size : (q : ℕ) (s : ℤ) → Modulus q → 2 * nat_abs s ≤ q * q → nat_abs (round s q) ≤ q / 2
half_size q s m h =
    let even : q * q ≡ q * (2 * (q / 2)) = ap (λ (n : ℕ). q * n) m.even in
    round_size s q (q / 2) m.positive (omega (arith, even))

pub up_to_half-requires : goal.up_to_half-requires
up_to_half-requires c =
    let held : SFits w64 c.args.self.0 = search rules in
    let read : SFits w64 c.round_quotient.result = search rules in
    let rounded : word w64 c.round_quotient.result ≡ round c.args.self.0 c.args.q = to_z-of_z read ∙ simp (to_z-of_z held) at c.round_quotient.ensures in
    rw rounded (half_size _ _ c.get.ensures.modulus c.requires)
