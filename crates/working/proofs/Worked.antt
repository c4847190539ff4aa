-- The invariant of the evaluation's loop: after g gates the buffer begins with the wires of the run over those gates, joined, and each of them is a
-- ciphertext; what lies behind them is as found.
use Rattle.std.proofs.Common.{◌≡◌, refl, sym, ap, ◌∙◌, true, false, List, [], ◌∷◌, ◌++◌, append_assoc, append-nil, ℕ, ◌+◌, ◌*◌, ◌≤◌, ◌<◌, add-zero, suc-mul, mul-le-mul_right, add-one, arith, length, get_or, take, drop, take-append-drop, drop_of_length-le, length-take-le, take_all, take_at, drop_at, drop-drop}
use lib.IntN.{ℤ}
use mathlib.Core.List.{flatten}
use Rattle.whole.specs.Lists.{Each, nil, cons, each_get_or, get_or_each, each_append, every, every_flatten, cut, length_cut, flatten_cut_take, cut_flatten_append, length_flatten, flatten_suc}
use Rattle.refusal.specs.declared.Params.{Params}
use Rattle.refusal.specs.Parameters.{InRange}
use Rattle.scheme.specs.Arithmetic.{is_residue}
use Rattle.circuit.specs.declared.Gate.{Gate}
use Rattle.circuit.specs.Circuits.{run, gate_wire, wrong_gate, wires_of}
use Rattle.circuit.proofs.Run.{length_run, run_suc}
use Rattle.circuit.specs.Wires.{Wire, input_wires, gate_wire_lem}

-- the wires after g gates, from the k inputs that lie in `found`
abbrev pub wires_after : Params → List ℤ → List Gate → ℕ → List ℤ → ℕ → List (List ℤ)
wires_after p W gs k found g = run (gate_wire p W) (take g gs) (cut p.n k found)

pub record Worked (p : Params) (W : List ℤ) (gs : List Gate) (k : ℕ) (found out : List ℤ) (g : ℕ) : Type 0 where
  pub within : g ≤ length gs
  pub kept : length out ≡ length found
  pub wires : Each (Wire p) (wires_after p W gs k found g)
  pub so_far : out ≡ flatten (wires_after p W gs k found g) ++ drop ((k + g) * p.n) found

module _ {p : Params} {W : List ℤ} {gs : List Gate} {k : ℕ} {found : List ℤ} where
  -- at first all is as found
  pub work_start : k * p.n ≤ length found → every (is_residue p.q) (take (k * p.n) found) ≡ true → Worked p W gs k found found 0
  unfolding run
  work_start h e =
      record {
        within = omega arith;
        kept = refl;
        wires = input_wires p k found h e;
        so_far = rw (flatten_cut_take, add-zero) (sym (take-append-drop (k * p.n) found));
      }

  module _ {out : List ℤ} {g : ℕ} (w : Worked p W gs k found out g) where
    -- there are k+g wires of n entries each
    count : length (wires_after p W gs k found g) ≡ k + g
    count = length_run (gate_wire p W) (take g gs) (cut p.n k found) ∙ omega (arith, length_cut p.n k found, length-take-le g gs w.within)

    rows_long : Each (λ (row : List ℤ). length row ≡ p.n) (wires_after p W gs k found g)
    rows_long = get_or_each [] (λ i h. (each_get_or w.wires i [] h).long)

    entries : length (flatten (wires_after p W gs k found g)) ≡ (k + g) * p.n
    entries = length_flatten rows_long ∙ ap (λ (m : ℕ). m * p.n) count

    -- they are what the buffer begins with
    begins : take ((k + g) * p.n) out ≡ flatten (wires_after p W gs k found g)
    begins = rw w.so_far (take_at _ _ _ entries)

    rows_are : cut p.n (k + g) out ≡ wires_after p W gs k found g
    rows_are = rw (w.so_far, ← count) (cut_flatten_append rows_long (drop (length (wires_after p W gs k found g) * p.n) found))

    behind : drop ((k + g) * p.n + p.n) out ≡ drop ((k + (g + 1)) * p.n) found
    behind =
        let ends : drop ((k + g) * p.n) out ≡ drop ((k + g) * p.n) found = ap (drop ((k + g) * p.n)) w.so_far ∙ drop_at (flatten (wires_after p W gs k found g)) (drop ((k + g) * p.n) found) ((k + g) * p.n) entries in
        let next : (k + g) * p.n + p.n ≡ (k + (g + 1)) * p.n = sym (suc-mul (k + g) p.n) ∙ ap (λ (m : ℕ). m * p.n) (omega arith) in
        sym (drop-drop p.n ((k + g) * p.n) out) ∙ ap (drop p.n) ends ∙ drop-drop p.n ((k + g) * p.n) found ∙ ap (λ (m : ℕ). drop m found) next

    -- so all entries there are residues
    pub worked_inside : every (is_residue p.q) (take ((k + g) * p.n) out) ≡ true
    worked_inside = rw begins (every_flatten (is_residue p.q) (get_or_each [] (λ i h. (each_get_or w.wires i [] h).inside)))

    -- one gate more, by what `work_gate` leaves
    pub work_step : {new : List ℤ} {h : Gate} (z : Gate) → InRange p → g < length gs → get_or gs g z ≡ h → wrong_gate (k + g) h ≡ false → length new ≡ length out
        → new ≡ take ((k + g) * p.n) out ++ (gate_wire p W h (cut p.n (k + g) out) ++ drop ((k + g) * p.n + p.n) out)
        → Worked p W gs k found new (g + 1)
    work_step {new} {h} z r below is right same e =
        let rows : List (List ℤ) = wires_after p W gs k found g in
        let after : wires_after p W gs k found (g + 1) ≡ rows ++ (gate_wire p W h rows ∷ []) = rw (add-one, run_suc (gate_wire p W) gs (cut p.n k found) g z below, is) in
        record {
          within = omega arith;
          kept = same ∙ w.kept;
          wires = rw after (each_append w.wires (cons (gate_wire_lem p W h rows r w.wires (rw count right)) nil));
          so_far = e ∙ rw (begins, rows_are, behind, after, flatten_suc, append_assoc);
        }

    -- at the end the buffer holds the wires of the evaluation and nothing else
    pub work_end : length gs ≤ g → length found ≡ (k + length gs) * p.n → out ≡ flatten (wires_of p W gs (cut p.n k found))
    unfolding wires_of
    work_end h l =
        let none : length found ≤ (k + g) * p.n = rw l (mul-le-mul_right p.n (omega arith)) in
        w.so_far ∙ rw (drop_of_length-le found, append-nil, take_all g gs)
