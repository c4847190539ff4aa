-- The proof of demand 3 (the file Demand3): the inputs are sound, each gate that is neither wrong nor over the budget keeps that, and so all wires
-- are; a sound wire decrypts to its bit.
use Rattle.std.specs.Prelude.{◌≡◌, ℕ, ◌+◌, ◌<◌, ℤ, length, get_or, take}
use Rattle.std.proofs.Common.{sym, ap, ◌∙◌, arith, get_or-take}
use mathlib.Core.List.{List, [], flatten}
use Rattle.whole.specs.Lists.{each_get_or, get_or_each, cut, length_cut, get_or_cut, get_or_flatten}
use Rattle.refusal.specs.declared.Params.{Params}
use Rattle.refusal.specs.Answer.{Answer}
use Rattle.refusal.specs.First.{first_of, done_or_done}
use Rattle.noise.specs.Sound.{key_fits, Sound}
use Rattle.noise.proofs.Sound.{sound_decrypts}
use Rattle.circuit.specs.declared.Gate.{Gate}
use Rattle.circuit.specs.Circuits.{gate, gate_bit, gate_bound, gate_wire, bounds_of, wires_of, bits_of}
use Rattle.circuit.specs.Evaluate.{EvaluateLoans, evaluate_rows, evaluate_answer, evaluate_wires, evaluate_bounds, EvaluatePromise}
use Rattle.circuit.proofs.Exact.{plan_exact, plan_wrong_exact, evaluate_exact, evaluate_wrong_exact}
use Rattle.circuit.proofs.Run.{length_run}
use Rattle.vouched.specs.Demand3.{wire_at, Premises, AllVouched, Demand3}
use Rattle.vouched.specs.Three.{Alike, three_runs}
use Rattle.vouched.specs.Keeps.{gate_keeps}
use Rattle.vouched.specs.Accepted.{Accepted, accepted, stated_long, stated_fits, input_long, input_residues, operands_below, gate_fits}

module _ {l : EvaluateLoans} {s : List ℤ} {bits : List ℕ} (given : Premises l s bits)
    (a : Accepted l.plan.p l.plan.inputs l.plan.circuit.gates l.wires l.plan.bounds) where
  abbrev p : Params
  p = l.plan.p

  abbrev inputs : ℕ
  inputs = l.plan.inputs

  abbrev gates : List Gate
  gates = l.plan.circuit.gates

  abbrev wires : List ℤ
  wires = l.wires

  abbrev Bs : List ℕ
  Bs = l.plan.bounds

  abbrev W : List ℤ
  W = l.key

  -- the inputs are sound
  inputs_sound : Alike (Sound p s) 0 0 [] inputs bits (take inputs Bs) (cut p.n inputs wires)
  inputs_sound i inside =
      record {
        bit = each_get_or given.bits_small i 0 (omega (arith, given.bits_long));
        long = input_long a i inside;
        residues = input_residues a i inside;
        quiet = rw (get_or_cut p.n inputs wires i [] inside, get_or-take inputs Bs i 0 inside) (given.quiet i inside);
        fits = stated_fits a i inside;
      }

  -- and each gate keeps that, so all wires are
  wires_sound : Alike (Sound p s) 0 0 [] (inputs + length gates)
      (bits_of gates bits)
      (bounds_of p gates (take inputs Bs))
      (wires_of p W gates (cut p.n inputs wires))
  unfolding bits_of bounds_of wires_of
  wires_sound =
      let z : Gate = gate 0 0 0 in
      three_runs gate_bit (gate_bound p) (gate_wire p W) (Sound p s) 0 0 [] inputs gates bits (take inputs Bs) (cut p.n inputs wires) z
      given.bits_long (stated_long a) (length_cut p.n inputs wires) inputs_sound
      (λ i inside sound.
      gate_keeps p s (key_fits p s given.key) W given.built (inputs + i) (get_or gates i z) _ _ _ (operands_below a i z inside) sound (gate_fits a i z inside))

  wires_long : length (wires_of p W gates (cut p.n inputs wires)) ≡ inputs + length gates
  unfolding wires_of
  wires_long = length_run (gate_wire p W) gates (cut p.n inputs wires) ∙ omega (arith, length_cut p.n inputs wires)

  -- wire j of the ciphertexts laid side by side is ciphertext j
  wire_at_lem : (j : ℕ) → j < inputs + length gates
      → wire_at p.n (flatten (wires_of p W gates (cut p.n inputs wires))) j ≡ get_or (wires_of p W gates (cut p.n inputs wires)) j []
  wire_at_lem j inside =
      get_or_flatten (get_or_each [] (λ i h. (wires_sound i (omega (arith, wires_long))).long)) j [] (omega (arith, wires_long))

-- ---- the theorem

answered : {a : EvaluateLoans} {r : Answer} {wires : List ℤ} {Bs : List ℕ} {scratch : List ℤ} → EvaluatePromise a r wires Bs scratch → r.number ≡ 0
    → first_of (evaluate_rows a) ≡ 0
unfolding evaluate_answer
answered promise none = sym (ap (λ (x : Answer). x.number) promise.answer) ∙ none

all_vouched : {a : EvaluateLoans} {s : List ℤ} {bits : List ℕ} {r : Answer} {wires : List ℤ} {Bs : List ℕ} {scratch : List ℤ}
    → Premises a s bits → EvaluatePromise a r wires Bs scratch → r.number ≡ 0 → AllVouched a.plan s bits wires Bs
unfolding evaluate_wires evaluate_bounds
all_vouched {a = l} {s} given promise none j inside =
    let done : first_of (evaluate_rows l) ≡ 0 = answered promise none in
    let p : Params = l.plan.p in
    let gates : List Gate = l.plan.circuit.gates in
    let Bs : List ℕ = l.plan.bounds in
    let a = accepted l done in
    let cs : List (List ℤ) = wires_of p l.key gates (cut p.n l.plan.inputs l.wires) in
    let sound = wires_sound given a j inside in
    rw (promise.wires_left, promise.bounds_left, done_or_done (flatten cs) l.wires done, done_or_done (bounds_of p gates (take l.plan.inputs Bs)) Bs done, wire_at_lem given a j inside)
    (record { quiet = sound.quiet; fits = sound.fits; decrypts = sound_decrypts p s (key_fits p s given.key) sound })

pub demand_3 : Demand3
demand_3 =
    record {
      vouches = all_vouched;
      evaluation_exact = λ {a} promise clear. rw promise.answer (evaluate_exact a clear);
      planning_exact = λ {a} promise clear. rw promise.answer (plan_exact a clear);
      evaluation_wrong = λ {a} promise clear. rw promise.answer (evaluate_wrong_exact a clear);
      planning_wrong = λ {a} promise clear. rw promise.answer (plan_wrong_exact a clear);
    }
