-- What a call on a circuit answers at each of its ends, for planning and evaluation alike: its rows are some in front, and then 9 and 10 for the gates. And the
-- counts that 2 lets pass.
use Rattle.std.specs.Prelude.{◌≡◌, false, not, ℕ, ◌≤◌, leb}
use Rattle.std.proofs.Common.{leb-true}
use Rattle.std.proofs.lemmas.Bool.{not-false}
use Rattle.whole.specs.Tests.{and_right, or_left, or_right}
use Rattle.refusal.specs.Parameters.{within}
use Rattle.circuit.specs.Circuits.{bad_counts}

-- ---- 2

pub inputs_within : (inputs gates : ℕ) → bad_counts inputs gates ≡ false → inputs ≤ 1024
unfolding bad_counts
inputs_within inputs gates e =
    leb-true inputs 1024 (and_right (leb 1 inputs) (leb inputs 1024) (not-false (within 1 1024 inputs) (or_left (not (within 1 1024 inputs)) (not (within 1 4096 gates)) e)))

pub gates_within : (inputs gates : ℕ) → bad_counts inputs gates ≡ false → gates ≤ 4096
unfolding bad_counts
gates_within inputs gates e =
    leb-true gates 4096 (and_right (leb 1 gates) (leb gates 4096) (not-false (within 1 4096 gates) (or_right (not (within 1 1024 inputs)) (not (within 1 4096 gates)) e)))
