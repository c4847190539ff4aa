-- Document 01, *Circuits*: what a gate makes, the run over all gates, the checks of each gate, and a circuit as it is lent.
use Rattle.std.specs.Prelude.{Bool, false, not, ◌||◌, List, [], ◌∷◌, ◌++◌, map, ℕ, zero, suc, ◌+◌, ◌*◌, ◌-◌, ◌%◌, leb, ltb, eqb, ℤ, length, get_or, drop}
use Rattle.refusal.specs.declared.Params.{Params}
use Rattle.refusal.specs.First.{Row, row_of}
use Rattle.refusal.specs.Parameters.{within}
use Rattle.scheme.specs.Arithmetic.{XOR, XOR_bound, AND, AND_bound, NOT, NOT_bound}
use Rattle.scheme.specs.Calls.{differs, over_budget}
use Rattle.circuit.specs.declared.Gate.{Gate}

-- ---- a gate

abbrev pub gate : ℕ → ℕ → ℕ → Gate
gate k l r = record { kind = k; left = l; right = r }

-- kind 0 XOR, 1 AND, 2 NOT
unfoldable pub by_kind : {A : Type 0} → ℕ → A → A → A → A
by_kind zero x a n = x
by_kind (suc zero) x a n = a
by_kind (suc (suc k)) x a n = n

-- the bound of a gate's wire, from the bounds of the wires before it
unfoldable pub gate_bound : Params → Gate → List ℕ → ℕ
gate_bound p g Bs =
    let B1 = get_or Bs g.left 0 in
    let B2 = get_or Bs g.right 0 in
    by_kind g.kind (XOR_bound B1 B2) (AND_bound p.n p.q p.l p.f B1 B2) (NOT_bound B1)

-- the ciphertext of a gate's wire, from those of the wires before it
unfoldable pub gate_wire : Params → List ℤ → Gate → List (List ℤ) → List ℤ
gate_wire p W g cs =
    let c = get_or cs g.left [] in
    let d = get_or cs g.right [] in
    by_kind g.kind (XOR p.q c d) (AND p.n p.q W c d) (NOT p.q c)

-- the plaintext bit of a gate's wire, from those of the wires before it
unfoldable pub gate_bit : Gate → List ℕ → ℕ
gate_bit g bs =
    let b1 = get_or bs g.left 0 in
    let b2 = get_or bs g.right 0 in
    by_kind g.kind ((b1 + b2) % 2) (b1 * b2) (1 - b1)

-- operands lie below the gate's own wire; NOT has right 0
unfoldable pub wrong_gate : ℕ → Gate → Bool
wrong_gate own g =
    let above = not (ltb g.right own) in
    not (leb g.kind 2) || not (ltb g.left own) || by_kind g.kind above above (not (eqb g.right 0))

-- ---- a circuit

-- inputs are wires 0 up, and each gate makes one wire more
unfoldable pub run : {A : Type 0} → (Gate → List A → A) → List Gate → List A → List A
run f [] ws = ws
run f (g ∷ gs) ws = run f gs (ws ++ (f g ws ∷ []))

-- for each gate whether it is wrong, where the first gate makes the wire `own`
unfoldable pub wrong_gates : ℕ → List Gate → List Bool
wrong_gates own [] = []
wrong_gates own (g ∷ gs) = wrong_gate own g ∷ wrong_gates (suc own) gs

-- the bounds of all wires, from those of the inputs
unfoldable pub bounds_of : Params → List Gate → List ℕ → List ℕ
bounds_of p gates inputBs = run (gate_bound p) gates inputBs

-- for each gate whether its bound is over the budget: every gate counts, used later or not
unfoldable pub over_gates : Params → List Gate → List ℕ → List Bool
over_gates p gates inputBs = map (over_budget p.q) (drop (length inputBs) (bounds_of p gates inputBs))

-- 2: 1 to 1,024 inputs and 1 to 4,096 gates
unfoldable pub bad_counts : ℕ → ℕ → Bool
bad_counts inputs gates = not (within 1 1024 inputs) || not (within 1 4096 gates)

-- 9 and 10, all gates for 9 before any for 10; the place is the first offending gate
unfoldable pub gate_rows : Params → ℕ → List Gate → List ℕ → List Row
gate_rows p inputs gates inputBs = row_of 9 (wrong_gates inputs gates) ∷ row_of 10 (over_gates p gates inputBs) ∷ []

-- the ciphertexts of all wires, from those of the inputs
unfoldable pub wires_of : Params → List ℤ → List Gate → List (List ℤ) → List (List ℤ)
wires_of p W gates inputCs = run (gate_wire p W) gates inputCs

-- the plaintext bits of all wires, from those of the inputs
unfoldable pub bits_of : List Gate → List ℕ → List ℕ
bits_of gates inputBits = run gate_bit gates inputBits

-- ---- a circuit as it is lent: a run of gate records, or three lists, the kinds, the lefts and the rights

-- its gates, how many are lent, and whether it is three lists that have not one length, which is 3
pub record Circuit : Type 0 where
  pub gates : List Gate
  pub count : ℕ
  pub uneven : Bool

abbrev pub as_records : List Gate → Circuit
as_records gates = record { gates = gates; count = length gates; uneven = false }

-- the gate records of three lists, as many as the shortest has
unfoldable pub records : List ℕ → List ℕ → List ℕ → List Gate
records [] ls rs = []
records (k ∷ ks) [] rs = []
records (k ∷ ks) (l ∷ ls) [] = []
records (k ∷ ks) (l ∷ ls) (r ∷ rs) = gate k l r ∷ records ks ls rs

unfoldable pub uneven_lists : List ℕ → List ℕ → List ℕ → Bool
uneven_lists ks ls rs = differs (length ls) (length ks) || differs (length rs) (length ks)

-- as many gates are lent as there are kinds
abbrev pub as_lists : List ℕ → List ℕ → List ℕ → Circuit
as_lists ks ls rs = record { gates = records ks ls rs; count = length ks; uneven = uneven_lists ks ls rs }
