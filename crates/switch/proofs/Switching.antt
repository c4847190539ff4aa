-- The switched entry [round(S/q)]q of a sum S depends on S modulo Q = q² alone, and where the entries of a switch lie.
use Rattle.std.proofs.Common.{◌≡◌, sym, ap, ◌∙◌, List, [], ℕ, ◌*◌, ◌<◌, mul-pos, ℤ, pos, ◌+ℤ◌, ◌*ℤ◌, length, get_or, take, drop}
use Rattle.std.proofs.Math.ListN.{length-map}
use Rattle.whole.specs.Laws.{*ℤ_assoc}
use Rattle.whole.specs.Round.{round, round_turn}
use Rattle.whole.specs.Centred.{centred, Congruent}
use Rattle.whole.proofs.Centred.{centred_turn, centred_congruent}
use Rattle.whole.specs.Lists.{cut, length_cut, get_or_cut, get_or_map}
use Rattle.scheme.specs.Arithmetic.{key_rows, switch_entry, switch}

-- a multiple of Q more gives the same entry: round(S/q) grows by a multiple of q
pub entry_turn : (q : ℕ) (S k : ℤ) → 0 < q → centred q (round (S +ℤ k *ℤ pos (q * q)) q) ≡ centred q (round S q)
entry_turn q S k h =
    ap (λ (m : ℤ). centred q (round (S +ℤ m) q)) (sym (*ℤ_assoc k (pos q) (pos q)))
    ∙ ap (centred q) (round_turn S (k *ℤ pos q) q h)
    ∙ centred_turn q (round S q) k h

-- so the sum may be reduced modulo Q first
pub entry_reduced : (q : ℕ) (S : ℤ) → 0 < q → centred q (round (centred (q * q) S) q) ≡ centred q (round S q)
entry_reduced q S h =
    let c : Congruent (q * q) S (centred (q * q) S) = centred_congruent (q * q) S (mul-pos h h) in
    sym (ap (λ (x : ℤ). centred q (round x q)) c.off ∙ entry_turn q (centred (q * q) S) c.turns h)

-- a switch has n entries, and entry i is that of the row at i·w, with w = n²
pub length_switch : (n q : ℕ) (W t : List ℤ) → length (switch n q W t) ≡ n
unfolding switch key_rows
length_switch n q W t = rw (length-map, length_cut)

pub get_or_switch : (n q w : ℕ) (W t : List ℤ) (i : ℕ) → w ≡ n * n → i < n → get_or (switch n q W t) i (pos 0) ≡ switch_entry q t (take w (drop (i * w) W))
unfolding switch key_rows
get_or_switch n q w W t i e h = rw e (get_or_map (switch_entry q t) (cut (n * n) n W) i [] (pos 0) (rw length_cut h) ∙ ap (switch_entry q t) (get_or_cut (n * n) n W i [] h))
