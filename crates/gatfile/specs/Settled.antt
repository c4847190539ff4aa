-- Planning a file whose head is right: it lends its gates, and its inputs at bound E, and what planning then answers and leaves is what 9, 10 and the
-- bounds of the file are.
use Rattle.std.specs.Prelude.{◌≡◌, refl, ◌≢◌, ℕ, zero, suc, ◌+◌, ◌*◌, ◌≤◌, ◌<◌, length, get_or, take, Result, Ok, Err, IfOk}
use Rattle.std.proofs.Math.Path.{sym, ap, ap₂}
use Rattle.std.proofs.Common.{◌∙◌, arith, length-drop, take_at, length-take-le}
use Rattle.std.proofs.Math.Bool.{true, false, not}
use mathlib.Core.List.{List, ◌∷◌, ◌++◌}
use Rattle.std.proofs.Math.ListN.{drop, replicate, length-append}
use Rattle.std.proofs.lemmas.List.{get_or-replicate}
use Rattle.std.proofs.Math.Seq.{take-append_seam}
use Rattle.whole.specs.Lists.{tabulate, length_tabulate, get_or_tabulate, every, get_or_every}
use Rattle.refusal.specs.declared.Params.{Params}
use Rattle.refusal.specs.declared.Refusal.{Refusal}
use Rattle.refusal.specs.Answer.{Answer, refusal_number, refusal_place, answer_to}
use Rattle.refusal.specs.First.{Row, refused, first_of, answer_of, Clear, answer_rest, first_rest, done_or, done_or_done, done_or_refused}
use Rattle.refusal.proofs.Given.{refused_by, done_by, refused_kept, done_written}
use Rattle.scheme.specs.Arithmetic.{fits}
use Rattle.scheme.specs.Passed.{lengths_same, below_fits}
use Rattle.circuit.specs.declared.Gate.{Gate}
use Rattle.circuit.specs.Circuits.{Circuit, gate, bad_counts, records, as_records, as_lists}
use Rattle.circuit.specs.Records.{lists_records}
use Rattle.circuit.specs.Plan.{PlanLoans, plan_loans, wire_count, circuit_rows, plan_front, plan_rows, plan_answer, plan_bounds, PlanPromise, plan_alike}
use Rattle.circuitfile.specs.File.{field, file_params, file_inputs, file_gate_count, file_gate, file_gates, file_input_bounds, file_bounds, head_rows, file_gate_rows, check_rows}
use Rattle.circuitfile.specs.Order.{HeadRight, head_right, gate_answer, check_refusal}
use Rattle.circuitfile.specs.Wires.{length_inputs, length_bounds}

-- one part of each gate, and so the kinds, the lefts and the rights, of which the circuit can be made too; the code lends the gates as they lie (`CircuitFile`)
unfoldable pub file_column : List ℕ → (Gate → ℕ) → List ℕ
file_column file part = tabulate (file_gate_count file) (λ g. part (file_gate file g))

abbrev pub file_kinds : List ℕ → List ℕ
file_kinds file = file_column file (λ g. g.kind)

abbrev pub file_lefts : List ℕ → List ℕ
file_lefts file = file_column file (λ g. g.left)

abbrev pub file_rights : List ℕ → List ℕ
file_rights file = file_column file (λ g. g.right)

records_tabulate : (n : ℕ) (f : ℕ → Gate) → records (tabulate n (λ i. (f i).kind)) (tabulate n (λ i. (f i).left)) (tabulate n (λ i. (f i).right)) ≡ tabulate n f
unfolding records tabulate
records_tabulate zero f = refl
records_tabulate (suc n) f = ap (λ (gs : List Gate). f zero ∷ gs) (records_tabulate n (λ i. f (suc i)))

-- the circuit that the file lends
abbrev pub file_circuit : List ℕ → Circuit
file_circuit file = as_records (file_gates file)

-- what planning leaves in a table: the bounds of all wires where 9 and 10 let the file pass, and otherwise those of the inputs before what was found
unfoldable pub settled_bounds : List ℕ → List ℕ → List ℕ
settled_bounds file table = done_or (first_of (file_gate_rows file)) (file_bounds file) (file_input_bounds file ++ drop (file_inputs file) table)

module _ (file : List ℕ) where
  -- the records of the three lists are the file's gates
  pub records_file : records (file_kinds file) (file_lefts file) (file_rights file) ≡ file_gates file
  unfolding file_column file_gates
  records_file = records_tabulate (file_gate_count file) (file_gate file)

  pub length_column : (part : Gate → ℕ) → length (file_column file part) ≡ file_gate_count file
  unfolding file_column
  length_column part = length_tabulate (file_gate_count file) (λ g. part (file_gate file g))

  pub get_or_column : (part : Gate → ℕ) (g : ℕ) → g < file_gate_count file → get_or (file_column file part) g 0 ≡ part (file_gate file g)
  unfolding file_column
  get_or_column part g h = get_or_tabulate (file_gate_count file) (λ g. part (file_gate file g)) g 0 h

  -- in three lists it is the same circuit
  pub file_lists : as_lists (file_kinds file) (file_lefts file) (file_rights file) ≡ file_circuit file
  file_lists =
      lists_records (file_kinds file) (file_lefts file) (file_rights file) (length_column _ ∙ sym (length_column _), length_column _ ∙ sym (length_column _))
      ∙ ap as_records records_file

  -- as many as the head says
  pub length_gates : length (file_gates file) ≡ file_gate_count file
  unfolding file_gates
  length_gates = length_tabulate (file_gate_count file) (file_gate file)

  pub few_gates : first_of (head_rows file) ≡ 0 → length (file_gates file) ≤ 4096
  few_gates right = omega (arith, length_gates, (head_right file right).gates_high)

  -- the five bytes of gate g lie in the file
  pub gate_within : first_of (head_rows file) ≡ 0 → (g : ℕ) → g < length (file_gates file) → 23 + 5 * g + 4 < length file
  gate_within right g h = omega (arith, h, length_gates, (head_right file right).long)

  -- gate g, and its kind
  pub gate_lent : (g : ℕ) → g < length (file_gates file) → get_or (file_gates file) g (gate 0 0 0) ≡ file_gate file g
  unfolding file_gates
  gate_lent g h = get_or_tabulate (file_gate_count file) (file_gate file) g _ (omega (arith, h, length_gates))

  pub kind_lent : (g : ℕ) {found : Gate} → found ≡ get_or (file_gates file) g (gate 0 0 0) → g < length (file_gates file) → found.kind ≡ field file (23 + 5 * g) 1
  unfolding file_gate
  kind_lent g e h = ap (λ (g : Gate). g.kind) (e ∙ gate_lent g h)

  -- each input's bound fits
  inputs_fit : HeadRight file → every (fits (file_params file).q) (file_input_bounds file) ≡ true
  unfolding file_input_bounds
  inputs_fit r =
      get_or_every (fits (file_params file).q) (file_input_bounds file) 0
      (λ i h.
      let below : i < file_inputs file = rw length_inputs at h in
      rw (get_or-replicate (file_inputs file) i (file_params file).e 0 below) (below_fits (file_params file).q (file_params file).e r.range.e_fits))

  module _ (r : HeadRight file) (Bs : List ℕ) (front : take (file_inputs file) Bs ≡ file_input_bounds file) (room : length Bs ≡ file_inputs file + file_gate_count file) where
    abbrev loans : PlanLoans
    loans = plan_loans (file_params file) (file_inputs file) (file_circuit file) Bs

    -- the rows of planning up to 8 do not apply
    clear : Clear (plan_front loans)
    unfolding plan_front
    clear =
        let counts : bad_counts (file_inputs file) (length (file_gates file)) ≡ false = rw length_gates r.counts in
        let lengths = lengths_same (length Bs) (wire_count loans) (room ∙ rw length_gates) in
        let fit : every (fits (file_params file).q) (take (file_inputs file) Bs) ≡ true = rw front (inputs_fit r) in
        ((r.ranges, tt), ((counts, tt), ((lengths, tt), ((ap not fit, tt), tt))))

    rows_file : circuit_rows loans ≡ file_gate_rows file
    unfolding file_gate_rows
    rows_file = rw front

    -- and so its answer is that of the gates
    pub circuit_answer : plan_answer loans ≡ gate_answer file
    unfolding plan_answer plan_rows
    circuit_answer = answer_rest (plan_front loans) (circuit_rows loans) clear ∙ ap (λ (rows : List Row). answer_of rows) rows_file

    pub circuit_bounds : plan_bounds loans ≡ done_or (first_of (file_gate_rows file)) (file_bounds file) Bs
    unfolding plan_bounds plan_rows file_bounds
    circuit_bounds = rw (first_rest (plan_front loans) (circuit_rows loans) clear, rows_file, front)

    -- the same of the gates in three lists
    abbrev listed : Circuit → PlanLoans
    listed circuit = plan_loans (file_params file) (file_inputs file) circuit Bs

    pub settled_answer : plan_answer (listed (as_lists (file_kinds file) (file_lefts file) (file_rights file))) ≡ gate_answer file
    settled_answer = ap (λ (circuit : Circuit). plan_answer (listed circuit)) file_lists ∙ circuit_answer

    pub settled_bounds_lem : plan_bounds (listed (as_lists (file_kinds file) (file_lefts file) (file_rights file)))
        ≡ done_or (first_of (file_gate_rows file)) (file_bounds file) Bs
    settled_bounds_lem = ap (λ (circuit : Circuit). plan_bounds (listed circuit)) file_lists ∙ circuit_bounds

-- the same of what is lent to planning: the fields that were read, and a table `found` whose first entries were filled with E
module _ (file : List ℕ) (r : HeadRight file) (found : List ℕ) {p : Params} {inputs : ℕ} {Es : List ℕ} (a : p ≡ file_params file) (b : inputs ≡ file_inputs file)
    (e : Es ≡ replicate (length (take inputs found)) p.e) (room : length found ≡ file_inputs file + file_gate_count file) where
  filled : Es ≡ file_input_bounds file
  unfolding file_input_bounds
  filled = e ∙ ap₂ replicate (length-take-le inputs found (omega arith) ∙ b) (ap (λ (p : Params). p.e) a)

  front : take (file_inputs file) (Es ++ drop inputs found) ≡ file_input_bounds file
  front = rw filled (take_at (file_input_bounds file) (drop inputs found) (file_inputs file) (length_inputs file))

  long : length (Es ++ drop inputs found) ≡ file_inputs file + file_gate_count file
  long = length-append Es (drop inputs found) ∙ omega (arith, ap length filled, length_inputs file, length-drop inputs found)

  lent : plan_loans p inputs (file_circuit file) (Es ++ drop inputs found) ≡ plan_loans (file_params file) (file_inputs file) (file_circuit file) (Es ++ drop inputs found)
  lent = rw (a, b)

  pub circuit_planned : {a : Answer} {out : List ℕ} → PlanPromise (plan_loans p inputs (file_circuit file) (Es ++ drop inputs found)) a out
      → (a ≡ gate_answer file) × (out ≡ settled_bounds file found)
  unfolding settled_bounds
  circuit_planned w =
      let v = plan_alike lent w in
      (v.answer ∙ circuit_answer file r _ front long, v.bounds_left ∙ circuit_bounds file r _ front long ∙ rw (filled, b))

  -- and of gates that lie in three lists
  module _ {ks ls rs : List ℕ} (k : ks ≡ file_kinds file) (l : ls ≡ file_lefts file) (m : rs ≡ file_rights file) where
    lists : as_lists ks ls rs ≡ file_circuit file
    lists = rw (k, l, m) (file_lists file)

    pub lent_planned : {a : Answer} {out : List ℕ} → PlanPromise (plan_loans p inputs (as_lists ks ls rs) (Es ++ drop inputs found)) a out
        → (a ≡ gate_answer file) × (out ≡ settled_bounds file found)
    lent_planned w = circuit_planned (plan_alike (ap (λ (circuit : Circuit). plan_loans p inputs circuit (Es ++ drop inputs found)) lists) w)

-- ---- where 9 and 10 let the file pass, the table holds the bounds of all wires

module _ (file : List ℕ) where
  pub settled_all : (found : List ℕ) {a : Answer} {out : List ℕ} → a ≡ gate_answer file → a.number ≡ 0 → out ≡ settled_bounds file found → out ≡ file_bounds file
  unfolding settled_bounds
  settled_all found e z w = w ∙ done_or_done _ _ (sym (ap (λ (a : Answer). a.number) e) ∙ z)

-- ---- the check of a file, with the bounds of all wires

-- number and place, and a table of bounds, which is 0 on a refusal
pub record FileBounds : Type 0 where
  pub number : ℕ
  pub place : ℕ
  pub bounds : List ℕ

-- a table of zeros, one for each wire that a circuit may have
abbrev pub no_bounds : List ℕ
no_bounds = replicate 5120 0

abbrev pub file_bounds_of : Answer → List ℕ → FileBounds
file_bounds_of a table = record { number = a.number; place = a.place; bounds = table }

-- the answer in the paper's form, of a call that answers a table, or why it refuses
abbrev pub bounds_told : Result (List ℕ) Refusal → FileBounds
bounds_told (Ok table) = record { number = 0; place = 0; bounds = table }
bounds_told (Err r) = record { number = refusal_number r; place = refusal_place r; bounds = no_bounds }

told_apart : (r : Result (List ℕ) Refusal) → answer_to r ≡ refused (bounds_told r).number (bounds_told r).place
told_apart (Ok t) = refl
told_apart (Err d) = refl

-- the bounds of all wires at the front of a table
abbrev pub bounds_table : List ℕ → List ℕ
bounds_table file = file_bounds file ++ drop (length (file_bounds file)) no_bounds

-- it has room for a bound of each wire
pub wires_within : (file : List ℕ) {n : ℕ} → first_of (head_rows file) ≡ 0 → n ≡ file_inputs file + file_gate_count file → n ≤ length no_bounds
wires_within file right e = omega (arith, e, (head_right file right).wires_high)

-- and where 9 and 10 let the file pass, planning leaves them there
pub settled_table : (file found : List ℕ) {a : Answer} {Bs : List ℕ} {n : ℕ} → a ≡ gate_answer file → a.number ≡ 0 → Bs ≡ settled_bounds file found
    → n ≡ file_inputs file + file_gate_count file → Bs ++ drop n no_bounds ≡ bounds_table file
settled_table file found e z w l =
    ap₂ (λ (Bs : List ℕ) (n : ℕ). Bs ++ drop n no_bounds) (settled_all file found e z w) (l ∙ sym (length_bounds file))

-- as many entries as there are wires are those bounds
pub table_front : (file : List ℕ) {t : List ℕ} {n : ℕ} → t ≡ bounds_table file → n ≡ file_inputs file + file_gate_count file → (n ≤ length t) × (take n t ≡ file_bounds file)
table_front file {t} {n} e w =
    let wires : n ≡ length (file_bounds file) = w ∙ sym (length_bounds file) in
    rw (e, wires) (omega (arith, length-append (file_bounds file) (drop (length (file_bounds file)) no_bounds)), take-append_seam (file_bounds file) _)

module _ (file : List ℕ) where
  -- the bounds at the front of a table, and the rest as it was; on a refusal all of it
  unfoldable pub bounds_in : List ℕ → List ℕ
  bounds_in table = done_or (first_of (check_rows file)) (file_bounds file ++ drop (length (file_bounds file)) table) table

  unfoldable pub bounds_answer : FileBounds
  bounds_answer = file_bounds_of (check_refusal file) (bounds_in no_bounds)

  -- number and place of the check, of any table
  module _ (table : List ℕ) {a : Answer} (e : a ≡ check_refusal file) where
    number_is : first_of (check_rows file) ≡ a.number
    number_is = sym (ap (λ (a : Answer). a.number) e)

    pub bounds_refused : a.number ≢ 0 → file_bounds_of a table ≡ file_bounds_of (check_refusal file) (bounds_in table)
    unfolding bounds_in
    bounds_refused h = ap₂ file_bounds_of e (sym (done_or_refused _ table (λ z. h (sym number_is ∙ z))))

    pub bounds_done : {Bs : List ℕ} {n : ℕ} → a.number ≡ 0 → Bs ≡ file_bounds file → n ≡ file_inputs file + file_gate_count file
        → file_bounds_of a (Bs ++ drop n table) ≡ file_bounds_of (check_refusal file) (bounds_in table)
    unfolding bounds_in
    bounds_done z f l =
        ap₂ file_bounds_of e (ap₂ (λ (Bs : List ℕ) (n : ℕ). Bs ++ drop n table) f (l ∙ sym (length_bounds file)) ∙ sym (done_or_done _ table (number_is ∙ z)))

  -- of a result, whose table is 0 on a refusal, and past the bounds where it is done
  module _ {r : Result (List ℕ) Refusal} (e : answer_to r ≡ check_refusal file) where
    pub told_refused : {d : Refusal} → r ≡ Err d → bounds_told r ≡ bounds_answer
    unfolding bounds_answer bounds_in
    told_refused h = ap bounds_told h ∙ ap₂ file_bounds_of (sym (ap answer_to h) ∙ e) (refused_kept (refused_by (check_rows file) e h) _ no_bounds)

    pub told_done : {t : List ℕ} → r ≡ Ok t → t ≡ bounds_table file → bounds_told r ≡ bounds_answer
    unfolding bounds_answer bounds_in
    told_done h f = ap bounds_told h ∙ ap₂ file_bounds_of (sym (ap answer_to h) ∙ e) (done_written _ no_bounds (done_by (check_rows file) e h) f)

  pub bounds_ended : (r : Result (List ℕ) Refusal) → answer_to r ≡ check_refusal file → IfOk r (λ t. t ≡ bounds_table file) → bounds_told r ≡ bounds_answer
  bounds_ended (Ok t) e f = told_done e refl f
  bounds_ended (Err d) e f = told_refused e refl

  module _ {r : FileBounds} (e : r ≡ bounds_answer) where
    -- the number and the place are the check's
    pub bounds_refusal : refused r.number r.place ≡ check_refusal file
    unfolding bounds_answer
    bounds_refusal = ap (λ (r : FileBounds). refused r.number r.place) e

    -- and where the number is 0, the bounds stand at the front
    pub bounds_front : r.number ≡ 0 → (length (file_bounds file) ≤ length r.bounds) × (take (length (file_bounds file)) r.bounds ≡ file_bounds file)
    unfolding bounds_answer bounds_in
    bounds_front z = table_front file (ap (λ (r : FileBounds). r.bounds) e ∙ done_or_done _ _ (number_is no_bounds bounds_refusal ∙ z)) (length_bounds file)

  module _ (r : Result (List ℕ) Refusal) (e : bounds_told r ≡ bounds_answer) where
    -- the same of a result
    pub told_refusal : answer_to r ≡ check_refusal file
    told_refusal = told_apart r ∙ bounds_refusal e

    -- where it is done, the bounds stand in the table
    pub bounds_listed : {t : List ℕ} → r ≡ Ok t → t ≡ bounds_table file
    unfolding bounds_answer bounds_in
    bounds_listed h = ap (λ (b : FileBounds). b.bounds) (sym (ap bounds_told h) ∙ e) ∙ done_or_done _ _ (done_by (check_rows file) told_refusal h)

    pub told_front : {t : List ℕ} → r ≡ Ok t → (length (file_bounds file) ≤ length t) × (take (length (file_bounds file)) t ≡ file_bounds file)
    told_front h = table_front file (bounds_listed h) (length_bounds file)
