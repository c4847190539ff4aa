-- A run of gate records: its first gates, as many as there are, and one more than a circuit may have where there are more, so that the run is still seen to be
-- too long; and the kinds, lefts and rights of gates. A caller of the numeric core may list them so. The code lists nothing: it lends a run where it lies (`Records`).
use Rattle.std.specs.Prelude.{◌≡◌, Bool, true, false, cond, List, [], ◌∷◌, ◌++◌, map, ℕ, suc, ◌≤◌, ◌<◌, ltb, length, get_or, set, take, drop, replicate}
use Rattle.std.proofs.Math.Path.{refl, sym}
use Rattle.std.proofs.Common.{ap, ◌∙◌, arith, take_at, length-take-le, ltb-true, ltb-false, lt-ltb, le-ltb}
use Rattle.std.proofs.Math.Nat.{zero-add}
use Rattle.std.proofs.Math.ListN.{length-map}
use Rattle.std.proofs.lemmas.List.{length-replicate}
use Rattle.std.proofs.Math.Seq.{length_front, paste-suc}
use Rattle.circuit.specs.declared.Gate.{Gate}
use Rattle.circuit.specs.Circuits.{gate, records}

-- ---- the first gates of a run

-- how many: 4,096 gates, and one more, at most
unfoldable pub listed_count : ℕ → ℕ
listed_count gates = cond (ltb gates 4097) gates 4097

unfoldable pub no_gates : List Gate
no_gates = replicate 4097 (gate 0 0 0)

-- these gates, and zeros behind them
unfoldable pub first_gates : List Gate → List Gate
first_gates gates = take (listed_count (length gates)) gates ++ drop (listed_count (length gates)) no_gates

-- ---- their fields

unfoldable pub kinds_of : List Gate → List ℕ
kinds_of gates = map (λ g. g.kind) gates

unfoldable pub lefts_of : List Gate → List ℕ
lefts_of gates = map (λ g. g.left) gates

unfoldable pub rights_of : List Gate → List ℕ
rights_of gates = map (λ g. g.right) gates

module _ (gates : List Gate) where
  pub length_kinds : length (kinds_of gates) ≡ length gates
  unfolding kinds_of
  length_kinds = length-map gates (λ g. g.kind)

  pub length_lefts : length (lefts_of gates) ≡ length gates
  unfolding lefts_of
  length_lefts = length-map gates (λ g. g.left)

  pub length_rights : length (rights_of gates) ≡ length gates
  unfolding rights_of
  length_rights = length-map gates (λ g. g.right)

-- the records of the fields are the gates
pub records_fields : (gates : List Gate) → records (kinds_of gates) (lefts_of gates) (rights_of gates) ≡ gates
unfolding records kinds_of lefts_of rights_of
records_fields [] = refl
records_fields (g ∷ gates) = ap (λ (r : List Gate). g ∷ r) (records_fields gates)

-- the fields of the first n gates at the front of three lists
pub record Listed (gates : List Gate) (n : ℕ) (kinds lefts rights : List ℕ) : Type 0 where
  pub kinds_are : take n kinds ≡ kinds_of (take n gates)
  pub lefts_are : take n lefts ≡ lefts_of (take n gates)
  pub rights_are : take n rights ≡ rights_of (take n gates)

-- ---- how many

pub length_no_gates : length no_gates ≡ 4097
unfolding no_gates
length_no_gates = length-replicate 4097 (gate 0 0 0)

module _ (m : ℕ) where
  pub count_few : m < 4097 → m ≡ listed_count m
  unfolding listed_count
  count_few h = rw (lt-ltb m 4097 h)

  pub count_many : 4097 ≤ m → 4097 ≡ listed_count m
  unfolding listed_count
  count_many h = rw (le-ltb m 4097 h)

  count_cases : (t : Bool) → ltb m 4097 ≡ t → (cond t m 4097 ≤ m) × (cond t m 4097 ≤ 4097)
  count_cases true e = (omega arith, omega (arith, ltb-true m 4097 e))
  count_cases false e = (omega (arith, ltb-false m 4097 e), omega arith)

  -- at most as many as there are
  pub count_there : listed_count m ≤ m
  unfolding listed_count
  count_there = (count_cases (ltb m 4097) refl).0

  pub count_most : listed_count m ≤ 4097
  unfolding listed_count
  count_most = (count_cases (ltb m 4097) refl).1

-- these gates, taken again
pub take_first : (gates : List Gate) → take (listed_count (length gates)) (first_gates gates) ≡ take (listed_count (length gates)) gates
unfolding first_gates
take_first gates =
    take_at (take (listed_count (length gates)) gates) (drop (listed_count (length gates)) no_gates) (listed_count (length gates))
    (length-take-le (listed_count (length gates)) gates (count_there (length gates)))

-- ---- listed one gate after the other

-- the first i gates, and zeros behind them
unfoldable pub listed_to : List Gate → ℕ → List Gate
listed_to gates i = take i gates ++ drop i no_gates

module _ (gates : List Gate) where
  pub listed_start : no_gates ≡ listed_to gates 0
  unfolding listed_to
  listed_start = refl

  pub listed_end : listed_to gates (listed_count (length gates)) ≡ first_gates gates
  unfolding listed_to first_gates
  listed_end = refl

  pub length_listed : (i : ℕ) → i ≤ length gates → i ≤ 4097 → length (listed_to gates i) ≡ 4097
  unfolding listed_to
  length_listed i h k =
      length_front no_gates (take i gates) i (length-take-le i gates h ∙ sym (length-take-le i no_gates (omega (arith, length_no_gates)))) ∙ length_no_gates

  -- the next gate stored
  pub listed_next : (i : ℕ) (z : Gate) → i < length gates → i < 4097 → set (listed_to gates i) i (get_or gates i z) ≡ listed_to gates (suc i)
  unfolding listed_to
  listed_next i z h k = simp zero-add at (paste-suc no_gates 0 gates i z (omega (arith, length_no_gates)) h)
