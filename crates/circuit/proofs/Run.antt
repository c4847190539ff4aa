-- The run over the gates of a circuit is what document 01 says of wires: inputs are wires 0 up and stand unchanged, and gate g
-- makes wire inputs+g out of the wires before it. Stated for any f, so for bounds, ciphertexts and bits alike.
use Rattle.std.specs.Prelude.{◌≡◌, take}
use Rattle.std.proofs.Math.Path.{refl, sym, ap}
use Rattle.std.proofs.Common.{◌∙◌, add-zero, le_of_suc-le-suc, not-suc-le-zero, arith, length-append, take-suc, take-take, get_or-take}
use mathlib.Core.List.{List, [], ◌∷◌, ◌++◌}
use Prim.Native.Nat.{ℕ, zero, suc, ◌+◌, ◌≤◌, ◌<◌}
use Rattle.std.proofs.Math.ListN.{length, get_or}
use Rattle.std.proofs.Math.Seq.{take-length, take-append_seam, get_or-append_seam}
use Rattle.circuit.specs.declared.Gate.{Gate}
use Rattle.circuit.specs.Circuits.{run}

module _ {A : Type 0} (f : Gate → List A → A) where
  one_more : (ws : List A) (x : A) → length (ws ++ (x ∷ [])) ≡ suc (length ws)
  one_more ws x = length-append ws (x ∷ []) ∙ omega arith

  pub length_run : (gs : List Gate) (ws : List A) → length (run f gs ws) ≡ length ws + length gs
  unfolding run
  length_run [] ws = sym (add-zero (length ws))
  length_run (g ∷ gs) ws = length_run gs (ws ++ (f g ws ∷ [])) ∙ omega (arith, one_more ws (f g ws))

  -- the inputs stand unchanged
  pub run_inputs : (gs : List Gate) (ws : List A) → take (length ws) (run f gs ws) ≡ ws
  unfolding run
  run_inputs [] ws = take-length ws
  run_inputs (g ∷ gs) ws =
      let longer : List A = ws ++ (f g ws ∷ []) in
      let shorter : length ws ≤ length longer = omega (arith, one_more ws (f g ws)) in
      sym (take-take (length ws) (length longer) (run f gs longer) shorter)
      ∙ ap (take (length ws)) (run_inputs gs longer)
      ∙ take-append_seam ws (f g ws ∷ [])

  -- gate g makes wire inputs+g
  pub run_gate : (gs : List Gate) (ws : List A) (i : ℕ) (z : Gate) (d : A) → i < length gs → get_or (run f gs ws) (length ws + i) d ≡ f (get_or gs i z) (take (length ws + i) (run f gs ws))
  unfolding run
  run_gate [] ws i z d h = absurd (not-suc-le-zero h)
  run_gate (g ∷ gs) ws zero z d h =
      let longer : List A = ws ++ (f g ws ∷ []) in
      let inside : length ws < length longer = omega (arith, one_more ws (f g ws)) in
      rw (add-zero, run_inputs (g ∷ gs) ws)
      (sym (get_or-take (length longer) (run f gs longer) (length ws) d inside)
      ∙ ap (λ (l : List A). get_or l (length ws) d) (run_inputs gs longer)
      ∙ get_or-append_seam ws (f g ws) [] d)
  run_gate (g ∷ gs) ws (suc i) z d h =
      let longer : List A = ws ++ (f g ws ∷ []) in
      let next : length ws + suc i ≡ length longer + i = omega (arith, one_more ws (f g ws)) in
      rw next (run_gate gs longer i z d (le_of_suc-le-suc h))

  -- a run in two stages
  pub run_append : (first second : List Gate) (ws : List A) → run f (first ++ second) ws ≡ run f second (run f first ws)
  unfolding run
  run_append [] second ws = refl
  run_append (g ∷ first) second ws = run_append first second (ws ++ (f g ws ∷ []))

  -- one gate more
  pub run_suc : (gs : List Gate) (ws : List A) (g : ℕ) (z : Gate) → g < length gs
      → run f (take (suc g) gs) ws ≡ run f (take g gs) ws ++ (f (get_or gs g z) (run f (take g gs) ws) ∷ [])
  unfolding run
  run_suc gs ws g z h = rw (take-suc gs g z, run_append)
