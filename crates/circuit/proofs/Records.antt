-- Laws about what `specs/Records` defines that rest on a definition which a must-fail edit turns.
use Rattle.std.specs.Prelude.{◌≡◌, List, ℕ, ◌+◌, ◌<◌, length, get_or, drop}
use Rattle.std.proofs.Common.{◌∙◌, arith}
use Rattle.std.proofs.Math.Bool.{false}
use Rattle.std.proofs.lemmas.List.{length-map}
use Rattle.std.proofs.Math.ListN.{length-drop}
use Rattle.std.proofs.Math.Seq.{get_or-drop}
use Rattle.whole.specs.Lists.{get_or_map}
use Rattle.refusal.specs.declared.Params.{Params}
use Rattle.scheme.specs.Calls.{over_budget}
use Rattle.circuit.specs.declared.Gate.{Gate}
use Rattle.circuit.specs.Circuits.{gate_bound, bounds_of, over_gates}
use Rattle.circuit.proofs.Run.{length_run}

-- ---- the tests for 10

module _ (p : Params) (gs : List Gate) (Bs : List ℕ) where
  pub length_bounds_of : length (bounds_of p gs Bs) ≡ length Bs + length gs
  unfolding bounds_of
  length_bounds_of = length_run (gate_bound p) gs Bs

  pub length_over_gates : length (over_gates p gs Bs) ≡ length gs
  unfolding over_gates
  length_over_gates = simp (length-map, length-drop) (omega (arith, length_bounds_of))

  -- gate i makes the bound of wire inputs+i
  pub get_or_over_gates : (i : ℕ) → i < length gs → get_or (over_gates p gs Bs) i false ≡ over_budget p.q (get_or (bounds_of p gs Bs) (length Bs + i) 0)
  unfolding over_gates
  get_or_over_gates i h =
      get_or_map (over_budget p.q) (drop (length Bs) (bounds_of p gs Bs)) i 0 false (simp length-drop (omega (arith, length_bounds_of)))
      ∙ rw get_or-drop
