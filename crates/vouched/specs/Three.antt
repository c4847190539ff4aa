-- Three runs over the gates of one circuit, side by side: what holds of the three entries of each input, and is kept by each gate, holds of
-- the three entries of every wire. Stated for any three runs and any relation, so for bits, bounds and ciphertexts.
use Rattle.std.specs.Prelude.{◌≡◌, List, ℕ, zero, suc, ◌+◌, ◌<◌, length, get_or, take}
use Rattle.std.proofs.Common.{sym, ap, ◌∙◌, add-zero, le_refl, arith, get_or-take}
use Rattle.std.proofs.Math.Nat.{le_step}
use Rattle.std.proofs.Math.Decide.{dec_lt}
use Rattle.circuit.specs.declared.Gate.{Gate}
use Rattle.circuit.specs.Circuits.{run}
use Rattle.circuit.proofs.Run.{run_inputs, run_gate}

-- R holds of the three entries of each of the first n wires
abbrev pub Alike : {A B C : Type 0} → (A → B → C → Type 0) → A → B → C → ℕ → List A → List B → List C → Type 0
Alike R a b c n xs ys zs = (j : ℕ) → j < n → R (get_or xs j a) (get_or ys j b) (get_or zs j c)

-- the wires before that of gate i, where there are m inputs
abbrev pub before : {A : Type 0} → (Gate → List A → A) → ℕ → List Gate → List A → ℕ → List A
before f m gs ws i = take (m + i) (run f gs ws)

module _ {A : Type 0} (f : Gate → List A → A) (m : ℕ) (gs : List Gate) (ws : List A) (long : length ws ≡ m) (d : A) where
  -- an input's wire is the input
  input_wire : (j : ℕ) → j < m → get_or (run f gs ws) j d ≡ get_or ws j d
  input_wire j h =
      sym (get_or-take (length ws) (run f gs ws) j d (omega arith)) ∙ ap (λ (l : List A). get_or l j d) (run_inputs f gs ws)

  -- gate i makes wire m+i
  gate_wire_lem : (i : ℕ) (z : Gate) → i < length gs → get_or (run f gs ws) (m + i) d ≡ f (get_or gs i z) (before f m gs ws i)
  gate_wire_lem i z h = rw (← long) (run_gate f gs ws i z d h)

-- from m to m+k, one step at a time
climb : (P : ℕ → Type 0) (m k : ℕ) → P m → ((i : ℕ) → i < k → P (m + i) → P (m + suc i)) → P (m + k)
climb P m zero base step = rw add-zero base
climb P m (suc k) base step = step k (le_refl (suc k)) (climb P m k base (λ i h. step i (le_step h)))

module _ {A B C : Type 0} (f : Gate → List A → A) (g : Gate → List B → B) (h : Gate → List C → C) (R : A → B → C → Type 0) (a : A) (b : B) (c : C) where
  -- R holds of the three entries of every wire, where it holds of those of each input, and of those of gate i's wire as soon as it holds of
  -- those of all wires before that
  pub three_runs : (m : ℕ) (gs : List Gate) (xs : List A) (ys : List B) (zs : List C) (z : Gate) → length xs ≡ m → length ys ≡ m → length zs ≡ m
      → Alike R a b c m xs ys zs
      → ((i : ℕ) → i < length gs → Alike R a b c (m + i) (before f m gs xs i) (before g m gs ys i) (before h m gs zs i)
      → R (f (get_or gs i z) (before f m gs xs i)) (g (get_or gs i z) (before g m gs ys i)) (h (get_or gs i z) (before h m gs zs i)))
      → Alike R a b c (m + length gs) (run f gs xs) (run g gs ys) (run h gs zs)
  three_runs m gs xs ys zs z lx ly lz inputs kept = climb Made m (length gs) first next
    where
      At : ℕ → Type 0
      At j = R (get_or (run f gs xs) j a) (get_or (run g gs ys) j b) (get_or (run h gs zs) j c)

      Made : ℕ → Type 0
      Made n = (j : ℕ) → j < n → At j

      first : Made m
      first j below =
          rw (input_wire f m gs xs lx a j below, input_wire g m gs ys ly b j below, input_wire h m gs zs lz c j below)
          (inputs j below)

      own : (i : ℕ) → i < length gs → Made (m + i) → At (m + i)
      own i inside made =
          rw (gate_wire_lem f m gs xs lx a i z inside, gate_wire_lem g m gs ys ly b i z inside, gate_wire_lem h m gs zs lz c i z inside)
          (kept i inside
          (λ j below.
          rw (get_or-take (m + i) (run f gs xs) j a below, get_or-take (m + i) (run g gs ys) j b below, get_or-take (m + i) (run h gs zs) j c below)
          (made j below)))

      next : (i : ℕ) → i < length gs → Made (m + i) → Made (m + suc i)
      next i inside made j below = by_place (dec_lt j (m + i))
        where
          by_place : Dec (j < m + i) → At j
          by_place (yes early) = made j early
          by_place (no late) = let here : j ≡ m + i = omega arith in rw here (own i inside made)
