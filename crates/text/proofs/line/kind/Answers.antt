-- `line::kind` is the word of the wire, by the laws of `kind_word`.
use Rattle.std.proofs.Common.{◌≡◌, refl, sym, ap, ◌∙◌, List, [], ◌∷◌, ◌++◌, ℕ, ◌+◌, ◌*◌, ◌-◌, ◌≤◌, ◌<◌, length, get_or, arith}
use Rattle.circuit.specs.declared.Gate.{Gate}
use Rattle.circuit.specs.declared.kind.Kind.{Kind}
use Rattle.circuit.specs.Circuits.{gate}
use Rattle.circuit.specs.Kind.{kind_of, among, by_kind_of}
use Rattle.circuitfile.specs.File.{field, file_inputs, file_gate_count, file_gates}
use Rattle.circuitfile.specs.Text.{word_in, word_xor, word_and, word_not, kind_word}
use Rattle.circuitfile.proofs.Lines.{kind_input, kind_gate}
use Rattle.gatfile.specs.Settled.{length_gates, kind_lent}
use Rattle.text.proofs.line.kind.Goals as goal

abbrev spaced : List ℕ → List ℕ
spaced word = word ++ (32 ∷ [])

module _ (file : List ℕ) (wire : ℕ) {from : ℕ} (e : from ≡ file_inputs file) (h : from ≤ wire) (w : wire < file_inputs file + file_gate_count file) where
  -- the wire is that of a gate
  inside : wire - from < length (file_gates file)
  inside = omega (arith, e, length_gates file)

  -- and its word is that of the kind that was read
  word_of : {g : Gate} {k : Kind} → g ≡ get_or (file_gates file) (wire - from) (gate 0 0 0) → k ≡ kind_of g.kind → kind_word file wire ≡ among k word_xor word_and word_not
  word_of {g} r o =
      let read : g.kind ≡ field file (23 + 5 * (wire - file_inputs file)) 1 = kind_lent file (wire - from) r inside ∙ ap (λ (n : ℕ). field file (23 + 5 * (wire - n)) 1) e in
      kind_gate file wire (omega (arith, e, h)) read ∙ by_kind_of g.kind word_xor word_and word_not ∙ ap (λ (k : Kind). among k word_xor word_and word_not) (sym o)

pub returns-then-wire-from-clause-word : goal.returns-then-wire-from-clause-word
unfolding word_in
returns-then-wire-from-clause-word c = ap spaced (sym (kind_input _ _ (omega (arith, c.if-wire-from.true, c.inputs-from.ensures.0))))

pub gate-requires : goal.gate-requires
gate-requires c = record { even = refl; inside = inside _ c.args.wire c.inputs-from.ensures.0 c.if-wire-from.false c.requires }

pub returns-in-Xor-clause-word : goal.returns-in-Xor-clause-word
unfolding word_xor
returns-in-Xor-clause-word c =
    let k = word_of c.args.circuit.file.now c.args.wire c.inputs-from.ensures.0 c.if-wire-from.false c.requires c.gate.ensures c.in-Xor.ensures in
    ap spaced (sym k)

pub returns-in-And-clause-word : goal.returns-in-And-clause-word
unfolding word_and
returns-in-And-clause-word c =
    let k = word_of c.args.circuit.file.now c.args.wire c.inputs-from.ensures.0 c.if-wire-from.false c.requires c.gate.ensures c.in-And.ensures in
    ap spaced (sym k)

pub returns-in-Not-clause-word : goal.returns-in-Not-clause-word
unfolding word_not
returns-in-Not-clause-word c =
    let k = word_of c.args.circuit.file.now c.args.wire c.inputs-from.ensures.0 c.if-wire-from.false c.requires c.gate.ensures c.in-Not.ensures in
    ap spaced (sym k)
