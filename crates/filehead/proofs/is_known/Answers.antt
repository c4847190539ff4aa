-- `is_known` compares the mark and the version, as the definition does.
use Rattle.std.proofs.Common.{◌≡◌, ◌&&◌, true, refl, sym, ◌∙◌, List, [], ◌∷◌, ℕ, eqb, get_or, arith}
use Rattle.std.specs.List.{starts_with}
use Rattle.std.proofs.Math.Bool.{and_assoc, and-true, and-false}
use Rattle.std.proofs.lemmas.Bool.Decides.{nat_tests}
use Rattle.circuitfile.specs.File.{is_known}
use Rattle.filehead.proofs.is_known.Goals as goal

swap : (a b : ℕ) → eqb a b ≡ eqb b a
swap a b = grind (arith, nat_tests)

-- the mark, byte for byte
marked : (file : List ℕ) → starts_with eqb file (71 ∷ 65 ∷ 84 ∷ []) ≡ (eqb (get_or file 0 0) 71 && eqb (get_or file 1 0) 65 && eqb (get_or file 2 0) 84)
marked [] = refl
marked (a ∷ []) = simp and-false
marked (a ∷ b ∷ []) = simp and-false
marked (a ∷ b ∷ c ∷ file) = rw (swap 71 a, swap 65 b, swap 84 c, and-true) (sym (and_assoc (eqb a 71) (eqb b 65) (eqb c 84)))

pub returns-then-starts_with : goal.returns-then-starts_with
unfolding is_known
returns-then-starts_with c =
    let m : true ≡ starts_with eqb c.args.file.now (71 ∷ 65 ∷ 84 ∷ []) = sym c.if-starts_with.true ∙ c.starts_with.ensures.value in
    let e = c.two.ensures.0 in
    rw (e, ← marked c.args.file.now, ← m) refl

pub returns-else-starts_with : goal.returns-else-starts_with
unfolding is_known
returns-else-starts_with c = rw (← marked c.args.file.now, ← c.starts_with.ensures.value, c.if-starts_with.false) refl
