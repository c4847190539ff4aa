-- Document 01, *Circuits* and *Refusal numbers*: every number that planning and evaluation can give, each on loans with that fault alone, with its place; what each
-- buffer holds after a refusal and after all three kinds of gates. One table, proved by one computed test, with numbers written out. n 2, q 16, L 2, E 1, F 0.
use Rattle.std.specs.Prelude.{◌≡◌, refl, ℕ, ℤ, pos, replicate}
use mathlib.Core.List.{List, [], ◌∷◌, ◌++◌, map, zip_with, flat_map, flatten}
use Rattle.whole.specs.Round.{round}
use Rattle.whole.specs.Centred.{centred, rest}
use Rattle.whole.specs.Lists.{every, grid, cut}
use Rattle.whole.specs.Inner.{inner}
use Rattle.refusal.specs.declared.Params.{Params}
use Rattle.refusal.specs.Answer.{Answer}
use Rattle.refusal.specs.First.{first_of, place_of, done_or, some_true, first_true}
use Rattle.refusal.specs.Parameters.{params, in_range}
use Rattle.scheme.specs.Arithmetic.{is_residue, XOR, XOR_bound, NOT, NOT_bound, tensor_entry, tensor, key_rows, switch_entry, switch, AND, AND_bound, fits}
use Rattle.scheme.specs.Calls.{bad_params, differs, outside, over_budget}
use Rattle.scheme.specs.Figures.{Figure, is, −, pair, four}
use Rattle.circuit.specs.declared.Gate.{Gate}
use Rattle.circuit.specs.Circuits.{by_kind, gate_bound, gate_wire, wrong_gate, run, wrong_gates, bounds_of, over_gates, bad_counts, gate_rows, wires_of, Circuit, as_records, as_lists, gate, records, uneven_lists}
use Rattle.circuit.specs.Plan.{plan_loans, plan_front, plan_rows, plan_answer, plan_bounds}
use Rattle.circuit.specs.Evaluate.{EvaluateLoans, evaluate_loans, evaluate_front, evaluate_rows, evaluate_answer, evaluate_wires, evaluate_bounds, evaluate_scratch}

-- ---- loans

abbrev good : Params
good = params 2 16 2 1 0

-- n is 1
abbrev bad : Params
bad = params 1 16 2 1 0

abbrev xor_gate : ℕ → ℕ → Gate
xor_gate l r = gate 0 l r

abbrev and_gate : ℕ → ℕ → Gate
and_gate l r = gate 1 l r

abbrev not_gate : ℕ → Gate
not_gate l = gate 2 l 0

-- document 01's switching key
abbrev W : List ℤ
W = − 83 ∷ pos 116 ∷ pos 9 ∷ pos 15 ∷ four (pos 100) (− 100) (pos 7) (pos 0)

abbrev masks : List ℤ
masks = four (pos 127) (− 128) (pos 0) (pos 0)

-- what a call answers
abbrev returned : Answer → List ℤ
returned r = pair (pos r.number) (pos r.place)

abbrev gives : ℕ → ℕ → List ℤ
gives k at = pair (pos k) (pos at)

-- ---- planning

abbrev planned : Params → ℕ → List Gate → List ℕ → List ℤ
planned p inputs gates Bs = returned (plan_answer (plan_loans p inputs (as_records gates) Bs))

abbrev bounds : List ℕ → List ℤ
bounds Bs = map pos Bs

pub planning : List Figure
planning =
    -- the gates' bounds may arrive with anything in them
    is (planned good 1 (not_gate 0 ∷ []) (3 ∷ 9 ∷ [])) (gives 0 0)
    ∷ is (planned good 2 (xor_gate 1 1 ∷ []) (3 ∷ 1 ∷ 99 ∷ [])) (gives 0 0)
    ∷ is (planned bad 1 (not_gate 0 ∷ []) (3 ∷ 9 ∷ [])) (gives 1 0)
    -- 2: 0 and 1,025 inputs, 0 and 4,097 gates; with 1,024 and 4,096 it is another number
    ∷ is (planned good 0 (not_gate 0 ∷ []) (3 ∷ [])) (gives 2 0)
    ∷ is (planned good 1025 (not_gate 0 ∷ []) (replicate 1026 0)) (gives 2 0)
    ∷ is (planned good 1 [] (3 ∷ [])) (gives 2 0)
    ∷ is (planned good 1 (replicate 4097 (not_gate 0)) []) (gives 2 0)
    ∷ is (planned good 1024 (not_gate 0 ∷ []) []) (gives 3 0)
    ∷ is (planned good 1 (replicate 4096 (not_gate 0)) []) (gives 3 0)
    -- 3 and 8
    ∷ is (planned good 1 (not_gate 0 ∷ []) (3 ∷ [])) (gives 3 0)
    ∷ is (planned good 1 (not_gate 0 ∷ []) (3 ∷ 3 ∷ 3 ∷ [])) (gives 3 0)
    ∷ is (planned good 2 (not_gate 0 ∷ []) (3 ∷ 4 ∷ 0 ∷ [])) (gives 8 0)
    -- 9: the kind, the left, the right of XOR and of AND, NOT's right; the first gate, before any 10
    ∷ is (planned good 2 (gate 3 0 1 ∷ []) (1 ∷ 1 ∷ 0 ∷ [])) (gives 9 0)
    ∷ is (planned good 2 (xor_gate 2 0 ∷ []) (1 ∷ 1 ∷ 0 ∷ [])) (gives 9 0)
    ∷ is (planned good 2 (xor_gate 0 1 ∷ xor_gate 2 3 ∷ []) (1 ∷ 1 ∷ 0 ∷ 0 ∷ [])) (gives 9 1)
    ∷ is (planned good 2 (not_gate 0 ∷ and_gate 2 3 ∷ []) (1 ∷ 1 ∷ 0 ∷ 0 ∷ [])) (gives 9 1)
    ∷ is (planned good 2 (gate 2 0 1 ∷ gate 3 0 0 ∷ []) (1 ∷ 1 ∷ 0 ∷ 0 ∷ [])) (gives 9 0)
    ∷ is (planned good 2 (xor_gate 0 1 ∷ gate 2 0 1 ∷ []) (1 ∷ 3 ∷ 0 ∷ 0 ∷ [])) (gives 9 1)
    -- 10: the first gate, used later or not
    ∷ is (planned good 2 (xor_gate 0 1 ∷ not_gate 0 ∷ []) (1 ∷ 3 ∷ 0 ∷ 0 ∷ [])) (gives 10 0)
    ∷ is (planned good 2 (not_gate 1 ∷ xor_gate 0 1 ∷ xor_gate 0 1 ∷ []) (1 ∷ 3 ∷ 0 ∷ 0 ∷ 0 ∷ [])) (gives 10 1)
    ∷ is (planned good 1 (and_gate 0 0 ∷ []) (1 ∷ 0 ∷ [])) (gives 10 0)
    -- three lists: the same, and 3 where the three lists have not one length
    ∷ is (returned (plan_answer (plan_loans good 2 (as_lists (2 ∷ 0 ∷ []) (1 ∷ 0 ∷ []) (0 ∷ 1 ∷ [])) (1 ∷ 3 ∷ 0 ∷ 0 ∷ [])))) (gives 10 1)
    ∷ is (returned (plan_answer (plan_loans good 1 (as_lists (2 ∷ []) [] (0 ∷ [])) (3 ∷ 9 ∷ [])))) (gives 3 0)
    ∷ is (returned (plan_answer (plan_loans good 1 (as_lists (2 ∷ []) (0 ∷ []) (0 ∷ 0 ∷ [])) (3 ∷ 9 ∷ [])))) (gives 3 0)
    -- the bounds: of all kinds, and as found after a refusal
    ∷ is (bounds (plan_bounds (plan_loans good 2 (as_records (and_gate 0 0 ∷ xor_gate 2 0 ∷ not_gate 1 ∷ xor_gate 1 1 ∷ [])) (0 ∷ 1 ∷ 9 ∷ 9 ∷ 9 ∷ 9 ∷ [])))) (bounds (0 ∷ 1 ∷ 3 ∷ 3 ∷ 1 ∷ 2 ∷ []))
    ∷ is (bounds (plan_bounds (plan_loans good 2 (as_records (not_gate 1 ∷ xor_gate 0 1 ∷ [])) (1 ∷ 3 ∷ 9 ∷ 9 ∷ [])))) (bounds (1 ∷ 3 ∷ 9 ∷ 9 ∷ []))
    ∷ is (bounds (plan_bounds (plan_loans good 2 (as_lists (2 ∷ 0 ∷ []) (1 ∷ 0 ∷ []) (0 ∷ 1 ∷ [])) (1 ∷ 3 ∷ 9 ∷ 9 ∷ [])))) (bounds (1 ∷ 3 ∷ 9 ∷ 9 ∷ []))
    ∷ []

pub planning_holds : map (λ f. f.computed) planning ≡ map (λ f. f.stated) planning
unfolding planning plan_answer plan_bounds plan_rows plan_front records uneven_lists gate_rows bad_counts wrong_gates wrong_gate over_gates bounds_of run gate_bound by_kind XOR_bound AND_bound NOT_bound first_of place_of done_or some_true first_true bad_params in_range differs over_budget fits every
planning_holds = refl

-- ---- evaluation

abbrev evaluates : Params → ℕ → Circuit → List ℤ → List ℕ → List ℤ → List ℤ → EvaluateLoans
evaluates p inputs circuit wires Bs key scratch = evaluate_loans (plan_loans p inputs circuit Bs) wires key scratch

abbrev evaluated : Params → ℕ → List Gate → List ℤ → List ℕ → List ℤ → ℕ → List ℤ
evaluated p inputs gates wires Bs key scratch = returned (evaluate_answer (evaluates p inputs (as_records gates) wires Bs key (replicate scratch (pos 99))))

-- one input (7,−8) and a gate, whose stretch may arrive with anything in it
abbrev wires : List ℤ
wires = four (pos 7) (− 8) (pos 99) (pos 99)

abbrev nots : List Gate
nots = not_gate 0 ∷ []

abbrev Bs : List ℕ
Bs = 3 ∷ 9 ∷ []

abbrev scratch : List ℤ
scratch = replicate 4 (pos 99)

-- an input (6,3) of bound 0, its AND with itself, the XOR of the two, and the NOT of the AND
abbrev three : List Gate
three = and_gate 0 0 ∷ xor_gate 1 0 ∷ not_gate 1 ∷ []

abbrev wires₄ : List ℤ
wires₄ = pos 6 ∷ pos 3 ∷ replicate 6 (pos 99)

abbrev Bs₄ : List ℕ
Bs₄ = 0 ∷ 9 ∷ 9 ∷ 9 ∷ []

pub evaluation : List Figure
evaluation =
    is (evaluated good 1 nots wires Bs W 4) (gives 0 0)
    ∷ is (evaluated bad 1 nots wires Bs W 4) (gives 1 0)
    ∷ is (evaluated good 0 nots (pair (pos 0) (pos 0)) (3 ∷ []) W 4) (gives 2 0)
    ∷ is (evaluated good 1 [] (pair (pos 0) (pos 0)) (3 ∷ []) W 4) (gives 2 0)
    -- 3 of each of four loans
    ∷ is (evaluated good 1 nots (pair (pos 7) (− 8)) Bs W 4) (gives 3 0)
    ∷ is (evaluated good 1 nots wires (3 ∷ []) W 4) (gives 3 0)
    ∷ is (evaluated good 1 nots wires Bs masks 4) (gives 3 0)
    ∷ is (evaluated good 1 nots wires Bs W 2) (gives 3 0)
    -- 6 of an input and of the key, 8, 9, 10
    ∷ is (evaluated good 1 nots (four (pos 8) (pos 0) (pos 0) (pos 0)) Bs W 4) (gives 6 0)
    ∷ is (evaluated good 1 nots (four (pos 0) (− 9) (pos 0) (pos 0)) Bs W 4) (gives 6 0)
    ∷ is (evaluated good 1 nots wires Bs (masks ++ four (pos 0) (pos 0) (pos 0) (pos 128)) 4) (gives 6 0)
    ∷ is (evaluated good 1 nots wires Bs (four (− 129) (pos 0) (pos 0) (pos 0) ++ masks) 4) (gives 6 0)
    ∷ is (evaluated good 1 nots wires (4 ∷ 0 ∷ []) W 4) (gives 8 0)
    ∷ is (evaluated good 1 (gate 2 0 1 ∷ []) wires Bs W 4) (gives 9 0)
    ∷ is (evaluated good 1 (xor_gate 0 0 ∷ xor_gate 1 1 ∷ []) (wires ++ pair (pos 0) (pos 0)) (1 ∷ 9 ∷ 9 ∷ []) W 4) (gives 10 1)
    -- the core: 3 where the three lists have not one length
    ∷ is (returned (evaluate_answer (evaluates good 1 (as_lists (2 ∷ []) (0 ∷ []) (0 ∷ [])) wires Bs W scratch))) (gives 0 0)
    ∷ is (returned (evaluate_answer (evaluates good 1 (as_lists (2 ∷ []) [] (0 ∷ [])) wires Bs W scratch))) (gives 3 0)
    -- the buffers, of all kinds of gates
    ∷ is (evaluate_wires (evaluates good 1 (as_records three) wires₄ Bs₄ W scratch)) (pos 6 ∷ pos 3 ∷ pos 7 ∷ pos 4 ∷ − 3 ∷ pos 7 ∷ − 1 ∷ pos 4 ∷ [])
    ∷ is (bounds (evaluate_bounds (evaluates good 1 (as_records three) wires₄ Bs₄ W scratch))) (bounds (0 ∷ 3 ∷ 3 ∷ 3 ∷ []))
    ∷ is (evaluate_scratch (evaluates good 1 (as_records three) wires₄ Bs₄ W scratch)) (replicate 4 (pos 0))
    -- and as found after a refusal
    ∷ is (evaluate_wires (evaluates good 1 (as_records nots) wires (4 ∷ 9 ∷ []) W scratch)) wires
    ∷ is (bounds (evaluate_bounds (evaluates good 1 (as_records nots) wires (4 ∷ 9 ∷ []) W scratch))) (bounds (4 ∷ 9 ∷ []))
    ∷ is (evaluate_scratch (evaluates good 1 (as_records nots) wires (4 ∷ 9 ∷ []) W scratch)) scratch
    ∷ []

pub evaluation_holds : map (λ f. f.computed) evaluation ≡ map (λ f. f.stated) evaluation
unfolding evaluation evaluate_answer evaluate_wires evaluate_bounds evaluate_scratch evaluate_rows evaluate_front records uneven_lists gate_rows bad_counts wrong_gates wrong_gate over_gates bounds_of wires_of run gate_bound gate_wire by_kind XOR XOR_bound NOT NOT_bound AND AND_bound switch switch_entry key_rows tensor tensor_entry grid zip_with flat_map flatten cut inner round centred rest outside is_residue first_of place_of done_or some_true first_true bad_params in_range differs over_budget fits every
evaluation_holds = refl
