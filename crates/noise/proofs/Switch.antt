-- Laws about what `specs/Switch` defines that rest on a definition which a must-fail edit turns.
use Rattle.std.specs.Prelude.{◌≡◌, List, [], ◌∷◌, map, ℕ, ◌+◌, ◌*◌, ◌/◌, ◌≤◌, ◌<◌, length, get_or, ℤ, pos, negsuc, ◌+ℤ◌, ◌-ℤ◌, ◌*ℤ◌, nat_abs}
use Rattle.std.proofs.Common.{sym, ap, ap₂, ◌∙◌, le_trans, mul-le-mul, mul-le-mul_left, mul-le-mul_right, div-mul-le_self, arith}
use Rattle.std.proofs.lemmas.Simd.{map-map}
use Rattle.std.proofs.Math.Nat.{le_of_mul-le-mul_left}
use Rattle.whole.specs.Laws.{*ℤ_assoc}
use Rattle.whole.specs.Ring.{by_ring, quote, from_eq}
use Rattle.whole.specs.Size.{size_add, size_mul}
use Rattle.whole.specs.Round.{round}
use Rattle.whole.specs.Centred.{centred}
use Rattle.whole.specs.Lists.{tabulate, map_tabulate, Each, each_tabulate}
use Rattle.whole.specs.Inner.{inner, sizes, column, inner_map_scale, inner_map_sub, inner_size, sizes_each, inner_tabulate, rows_columns}
use Rattle.scheme.specs.Arithmetic.{switch_entry}
use Rattle.noise.specs.Reduced.{turns_of, inner_reduced, Rounded, rounded}
use Rattle.noise.specs.Switch.{SwitchNoise}

-- ---- the columns

-- what <s, column j> is beside q·σj
abbrev left : ℕ → List ℤ → List ℤ → List (List ℤ) → ℕ → ℤ
left q s σ rows j = inner s (column j rows) -ℤ pos q *ℤ get_or σ j (pos 0)

-- the table by columns: <t, what is left of each column> = <s, the <t,row> of the rows> − q·<t,σ>
inner_left : (q N : ℕ) (s σ t : List ℤ) (rows : List (List ℤ)) → length t ≤ N
    → inner t (tabulate N (left q s σ rows)) ≡ inner s (map (inner t) rows) -ℤ pos q *ℤ inner t σ
inner_left q N s σ t rows enough =
    let js : List ℕ = tabulate N (λ j. j) in
    let col : ℕ → ℤ = λ j. inner s (column j rows) in
    let σs : ℕ → ℤ = λ j. get_or σ j (pos 0) in
    rw (rows_columns N s t rows, ← inner_tabulate N t σ)
    (simp map_tabulate at
    (inner_map_sub col (λ j. pos q *ℤ σs j) t js ∙ ap (λ z. inner t (map col js) -ℤ z) (inner_map_scale (pos q) σs t js)))

-- so <s, the <t,row> of the rows> = q·<t,σ> + off up to a multiple of q², where off is <t, the errors of the columns>
record Columns (q N F : ℕ) (s σ t : List ℤ) (rows : List (List ℤ)) : Type 0 where
  turns : ℤ
  off : ℤ
  sum : inner s (map (inner t) rows) ≡ pos q *ℤ inner t σ +ℤ off +ℤ pos q *ℤ (pos q *ℤ turns)
  small : 2 * nat_abs off ≤ N * F * q

columns : (q N F : ℕ) (s σ t : List ℤ) (rows : List (List ℤ)) → 0 < q → length t ≤ N → Each (λ x. nat_abs x ≤ q / 2) t
    → ((j : ℕ) → j < N → nat_abs (centred (q * q) (left q s σ rows j)) ≤ F)
    → Columns q N F s σ t rows
columns q N F s σ t rows h enough range errors =
    let zs : List ℤ = tabulate N (left q s σ rows) in
    let h² : 0 < q * q = mul-le-mul h h in
    let k : ℤ = inner t (map (turns_of (q * q) h²) zs) in
    let off : ℤ = inner t (map (centred (q * q)) zs) in
    let each : Each (λ x. nat_abs x ≤ F) (map (centred (q * q)) zs) = simp map_tabulate (each_tabulate N (λ j. centred (q * q) (left q s σ rows j)) errors) in
    record {
      turns = k;
      off = off;
      sum = from_eq (negsuc 0)
          (inner_reduced (q * q) h² t zs ∙ ap₂ ◌-ℤ◌ (inner_left q N s σ t rows enough) (*ℤ_assoc (pos q) (pos q) k))
          (by_ring (inner s (map (inner t) rows) ∷ pos q ∷ inner t σ ∷ k ∷ off ∷ []) (search quote depth 100 fits 100000) tt);
      small = omega (
        arith,
        inner_size t each,
        mul-le-mul_right F (sizes_each range),
        mul-le-mul_right (q / 2 * F) enough,
        mul-le-mul_left (N * F) (div-mul-le_self q 2),
      );
    }

-- ---- what the switch rounds

-- the switch divides the <t,row> by q, rounds and reduces
switch_rounds : (q : ℕ) (t : List ℤ) (rows : List (List ℤ)) → map (switch_entry q t) rows ≡ map (λ z. centred q (round z q)) (map (inner t) rows)
unfolding switch_entry
switch_rounds q t rows = sym (map-map (λ z. centred q (round z q)) (inner t) rows)

-- so q·<s,out> = q·<t,σ>, but for what the columns leave, what rounding leaves, and multiples of q²
inner_switch : {q N F : ℕ} {s σ t : List ℤ} {rows : List (List ℤ)} (c : Columns q N F s σ t rows) (r : Rounded q s (map (inner t) rows))
    → pos q *ℤ inner s (map (switch_entry q t) rows)
    ≡ pos q *ℤ inner t σ +ℤ c.off +ℤ pos q *ℤ (pos q *ℤ c.turns) +ℤ r.off -ℤ pos q *ℤ (pos q *ℤ r.turns)
inner_switch {q} {s = s} {t = t} {rows = rows} c r =
    ap (λ (l : List ℤ). pos q *ℤ inner s l) (switch_rounds q t rows)
    ∙ r.sum
    ∙ ap (λ z. z +ℤ r.off -ℤ pos q *ℤ (pos q *ℤ r.turns)) c.sum

-- ---- the noise

-- |e| is at most the half of N + L, rounded down, where q·e = x + y, 2|x| ≤ N·q and 2|y| ≤ L·q
halved : (q N L : ℕ) (e x y : ℤ) → 0 < q → pos q *ℤ e ≡ x +ℤ y → 2 * nat_abs x ≤ N * q → 2 * nat_abs y ≤ L * q → nat_abs e ≤ (N + L) / 2
halved q N L e x y h parts first second =
    let scaled : q * (2 * nat_abs e) ≤ q * (N + L) = omega (arith, sym (size_mul (pos q) e), ap nat_abs parts, size_add x y) in
    let twice : 2 * nat_abs e ≤ N + L = le_of_mul-le-mul_left scaled h in
    omega arith

-- so it is where the sizes of s sum to at most L, t has no more than N entries and each is at most q/2 in size, and in each of the N
-- columns <s, column j> − q·σj is, as a residue of q², at most F in size
pub switch_noise : (q N F L : ℕ) (s σ t : List ℤ) (rows : List (List ℤ)) → 0 < q → sizes s ≤ L → length t ≤ N → Each (λ x. nat_abs x ≤ q / 2) t
    → ((j : ℕ) → j < N → nat_abs (centred (q * q) (inner s (column j rows) -ℤ pos q *ℤ get_or σ j (pos 0))) ≤ F)
    → SwitchNoise q N F L s σ t rows
switch_noise q N F L s σ t rows h key enough range errors =
    let out : ℤ = inner s (map (switch_entry q t) rows) in
    let c : Columns q N F s σ t rows = columns q N F s σ t rows h enough range errors in
    let r : Rounded q s (map (inner t) rows) = rounded q h s (map (inner t) rows) in
    let m : ℤ = c.turns -ℤ r.turns in
    let e : ℤ = out -ℤ inner t σ -ℤ m *ℤ pos q in
    record {
      turns = m;
      e = e;
      sum = by_ring (out ∷ inner t σ ∷ m ∷ pos q ∷ []) (search quote depth 100 fits 100000) tt;
      small = halved q (N * F) L e c.off r.off h
          (from_eq (pos 1) (inner_switch c r)
          (by_ring (out ∷ inner t σ ∷ pos q ∷ c.off ∷ r.off ∷ c.turns ∷ r.turns ∷ []) (search quote depth 100 fits 100000) tt))
          c.small
          (le_trans r.small (mul-le-mul_right q key));
    }
