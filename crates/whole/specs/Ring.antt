-- A prover of the identities of the ring ℤ: sums, differences, products, negations and numerals over any integers.
--
-- List the integers that an identity speaks of, its atoms, in any order:
--
--     square : (a b : ℤ) → (a -ℤ b) *ℤ (a -ℤ b) ≡ a *ℤ a -ℤ pos 2 *ℤ a *ℤ b +ℤ b *ℤ b
--     square a b = by_ring (a ∷ b ∷ []) (search quote depth 100 fits 100000) tt
--
-- `search` reads the two sides as polynomials in the atoms, and `tt` is checked by computing the normal form of their difference, which has to be 0.
-- Where it is not 0, the refusal shows how it begins, `Left (var ..)` (see `Nf`). No `unfolding` line is needed: import `by_ring`, `quote`, `◌∷◌` and `[]`.
-- An atom may be any term, as `pos n` or `f x`, but no sum, product or negation of other atoms. The two bounds are `search`'s, wide enough for 100 atoms in an equation.
-- `ring` is the same with the polynomials written out by hand, `# i` for the atom with the index i:
--
--     ring (a ∷ b ∷ []) ((# 0 ⊖ # 1) ⊗ (# 0 ⊖ # 1)) (# 0 ⊗ # 0 ⊖ lit (pos 2) ⊗ # 0 ⊗ # 1 ⊕ # 1 ⊗ # 1) tt
--
-- `from_eq` proves an equation from another one. The examples stand at the end. Assumes nothing.
use Rattle.std.specs.Prelude.{◌≡◌, refl, Bool, true, false, not, List, [], ◌∷◌, ℕ, zero, suc, T, leb, ltb, eqb, get_or, ℤ, pos, negsuc, neg_ℤ, ◌+ℤ◌, ◌-ℤ◌, ◌*ℤ◌}
use Rattle.std.proofs.Common.{sym, ap, ap₂, ◌∙◌, eqb→eq}
use Rattle.std.proofs.Math.IntN.{+ℤ_idl, +ℤ_idr, +ℤ_assoc, *ℤ-zero, *ℤ_comm}
use Rattle.whole.specs.Laws.{sum_sort, +ℤ_left_comm, neg_ℤ-*ℤ, *ℤ_distl, *ℤ_left_comm, one-*ℤ, sub_zero→eq, eq→sub_zero}

-- ---- Polynomials

-- a ring expression as data; `# i` is the atom with the index i, and `lit z` a numeral
infixl 6 ◌⊕◌
infixl 6 ◌⊖◌
infixl 7 ◌⊗◌
infix 8 ⊝◌
infix 9 #◌
pub data Poly : Type 0 where
  #◌ : ℕ → Poly
  lit : ℤ → Poly
  ◌⊕◌ ◌⊖◌ ◌⊗◌ : Poly → Poly → Poly
  ⊝◌ : Poly → Poly

-- the atom with an index, 0 past the end
abbrev pub atom : List ℤ → ℕ → ℤ
atom ρ i = get_or ρ i (pos 0)

-- what an expression stands for: where the atoms and the expression are written out, this computes to the plain term over ℤ
abbrev pub eval : List ℤ → Poly → ℤ
eval ρ (# i) = atom ρ i
eval ρ (lit z) = z
eval ρ (p ⊕ q) = eval ρ p +ℤ eval ρ q
eval ρ (p ⊖ q) = eval ρ p -ℤ eval ρ q
eval ρ (p ⊗ q) = eval ρ p *ℤ eval ρ q
eval ρ (⊝ p) = neg_ℤ (eval ρ p)

-- ---- Normal forms

-- a polynomial in normal form: `con c` is the number c, and `var i p q` is xᵢ·p + q, for the atom xᵢ.
-- The operations below keep this: p is not 0, no atom in p has an index below i, and each in q has one above i. So equal polynomials have one form.
-- The proofs do not need that, since a form that broke it would only fail the test.
pub data Nf : Type 0 where
  con : ℤ → Nf
  var : ℕ → Nf → Nf → Nf

-- whether a normal form is 0
abbrev is_zero : Nf → Bool
is_zero (con (pos zero)) = true
is_zero (con (pos (suc n))) = false
is_zero (con (negsuc n)) = false
is_zero (var i p q) = false

-- a choice whose branches wait: an argument is computed before a call, so a recursive call stands under a λ
abbrev ite {ℓ} : {A : Type ℓ} → Bool → (Unit {0} → A) → (Unit {0} → A) → A
ite true f g = f tt
ite false f g = g tt

-- xᵢ·p + q where p may be 0
abbrev node : ℕ → Nf → Nf → Nf
node i p q = ite (is_zero p) (λ _. q) (λ _. var i p q)

-- c + p
abbrev add_con : ℤ → Nf → Nf
add_con c (con d) = con (c +ℤ d)
add_con c (var i p q) = var i p (add_con c q)

-- (xᵢ·p + q) + r, where the functions p+ and q+ add p and q: the atom with the smaller index comes first
abbrev add_var : ℕ → Nf → (Nf → Nf) → (Nf → Nf) → Nf → Nf
add_var i p p+ q+ (con c) = var i p (q+ (con c))
add_var i p p+ q+ (var j r s) = ite (eqb i j) (λ _. node i (p+ r) (q+ s)) (λ _. ite (ltb i j) (λ _. var i p (q+ (var j r s))) (λ _. var j r (add_var i p p+ q+ s)))

-- p + r
abbrev add : Nf → Nf → Nf
add (con c) r = add_con c r
add (var i p q) r = add_var i p (add p) (add q) r

-- c·p
abbrev scale : ℤ → Nf → Nf
scale c (con d) = con (c *ℤ d)
scale c (var i p q) = node i (scale c p) (scale c q)

-- xᵢ·p: the atom goes in behind those with a smaller index
abbrev mul_var : ℕ → Nf → Nf
mul_var i (con c) = node i (con c) (con (pos 0))
mul_var i (var j p q) = ite (leb i j) (λ _. var i (var j p q) (con (pos 0))) (λ _. var j (mul_var i p) (mul_var i q))

-- r·p
abbrev mul : Nf → Nf → Nf
mul r (con c) = scale c r
mul r (var i p q) = add (mul_var i (mul r p)) (mul r q)

-- −p
abbrev neg : Nf → Nf
neg p = scale (negsuc 0) p

-- the normal form of an expression
abbrev pub norm : Poly → Nf
norm (# i) = var i (con (pos 1)) (con (pos 0))
norm (lit z) = con z
norm (p ⊕ q) = add (norm p) (norm q)
norm (p ⊖ q) = add (norm p) (neg (norm q))
norm (p ⊗ q) = mul (norm p) (norm q)
norm (⊝ p) = neg (norm p)

-- a normal form that is not 0, for a refusal to show: no `Left p` has a proof
pub data Left : Nf → Type 0 where

-- the test that a normal form is 0: `tt` proves it, or nothing does
abbrev pub Vanishes : Nf → Type 0
Vanishes p = ite (is_zero p) (λ _. Unit {0}) (λ _. Left p)

-- ---- The normal form has the expression's value: the law with the name of a function and -ok behind it says that the function does what its comment says

-- two polynomials that begin with one atom are added part by part
add_vars : (x p q r s : ℤ) {u v : ℤ} → u ≡ p +ℤ r → v ≡ q +ℤ s → x *ℤ u +ℤ v ≡ (x *ℤ p +ℤ q) +ℤ (x *ℤ r +ℤ s)
add_vars x p q r s e f = simp (e, f, *ℤ_distl) (simp sum_sort)

-- c goes into both parts of x·p + q: the step of every product below
into_var : (x p q c : ℤ) {s t : ℤ} → s ≡ c *ℤ p → t ≡ c *ℤ q → x *ℤ s +ℤ t ≡ c *ℤ (x *ℤ p +ℤ q)
into_var x p q c e f = simp (e, f, *ℤ_distl, *ℤ_left_comm)

-- what `tt` proves of a test, below, says that the test passed
passed : (b : Bool) (p : Nf) → ite b (λ _. Unit {0}) (λ _. Left p) → T b
passed true p v = tt
passed false p v = elim v [ ]

module _ (ρ : List ℤ) where
  -- the value of a normal form
  abbrev ⟦◌⟧ : Nf → ℤ
  ⟦ con c ⟧ = c
  ⟦ var i p q ⟧ = atom ρ i *ℤ ⟦ p ⟧ +ℤ ⟦ q ⟧

  -- the value of a choice, from those of its branches
  split : (b : Bool) (f g : Unit {0} → Nf) (z : ℤ) → (T b → ⟦ f tt ⟧ ≡ z) → (T (not b) → ⟦ g tt ⟧ ≡ z) → ⟦ ite b f g ⟧ ≡ z
  split true f g z then else = then tt
  split false f g z then else = else tt

  is_zero_ok : (p : Nf) → T (is_zero p) → ⟦ p ⟧ ≡ pos 0
  is_zero_ok (con (pos zero)) t = refl
  is_zero_ok (con (pos (suc n))) t = absurd t
  is_zero_ok (con (negsuc n)) t = absurd t
  is_zero_ok (var i p q) t = absurd t

  node_ok : (i : ℕ) (p q : Nf) → ⟦ node i p q ⟧ ≡ atom ρ i *ℤ ⟦ p ⟧ +ℤ ⟦ q ⟧
  node_ok i p q = split (is_zero p) _ _ _ (λ t. sym (simp (is_zero_ok p t, *ℤ-zero, +ℤ_idl))) (λ _. refl)

  -- what is added to the rest of x·p + q passes x·p
  past_var : (i : ℕ) (p q : Nf) (c : ℤ) {z : ℤ} → z ≡ c +ℤ ⟦ q ⟧ → atom ρ i *ℤ ⟦ p ⟧ +ℤ z ≡ c +ℤ ⟦ var i p q ⟧
  past_var i p q c e = rw e (+ℤ_left_comm (atom ρ i *ℤ ⟦ p ⟧) c ⟦ q ⟧)

  add_con_ok : (c : ℤ) (p : Nf) → ⟦ add_con c p ⟧ ≡ c +ℤ ⟦ p ⟧
  add_con_ok c (con d) = refl
  add_con_ok c (var i p q) = past_var i p q c (add_con_ok c q)

  module _ (i : ℕ) (p q : Nf) (p+ q+ : Nf → Nf) (p-ok : (r : Nf) → ⟦ p+ r ⟧ ≡ ⟦ p ⟧ +ℤ ⟦ r ⟧) (q-ok : (r : Nf) → ⟦ q+ r ⟧ ≡ ⟦ q ⟧ +ℤ ⟦ r ⟧) where
    -- the two cases of `add_var` that do not recurse: the indices are equal, and i comes first
    same_ok : (j : ℕ) (r s : Nf) → i ≡ j → ⟦ node i (p+ r) (q+ s) ⟧ ≡ ⟦ var i p q ⟧ +ℤ ⟦ var j r s ⟧
    same_ok j r s e = node_ok i (p+ r) (q+ s) ∙ add_vars (atom ρ i) ⟦ p ⟧ ⟦ q ⟧ ⟦ r ⟧ ⟦ s ⟧ (p-ok r) (q-ok s) ∙ ap (λ k. ⟦ var i p q ⟧ +ℤ ⟦ var k r s ⟧) e

    first_ok : (r : Nf) → ⟦ var i p (q+ r) ⟧ ≡ ⟦ var i p q ⟧ +ℤ ⟦ r ⟧
    first_ok r = simp (q-ok, +ℤ_assoc)

    add_var_ok : (r : Nf) → ⟦ add_var i p p+ q+ r ⟧ ≡ ⟦ var i p q ⟧ +ℤ ⟦ r ⟧
    add_var_ok (con c) = first_ok (con c)
    add_var_ok (var j r s) =
        split (eqb i j) _ _ _ (λ t. same_ok j r s (eqb→eq i j t)) (λ _.
        split (ltb i j) _ _ _ (λ _. first_ok (var j r s)) (λ _. past_var j r s ⟦ var i p q ⟧ (add_var_ok s)))

  add_ok : (p r : Nf) → ⟦ add p r ⟧ ≡ ⟦ p ⟧ +ℤ ⟦ r ⟧
  add_ok (con c) r = add_con_ok c r
  add_ok (var i p q) r = add_var_ok i p q (add p) (add q) (add_ok p) (add_ok q) r

  scale_ok : (c : ℤ) (p : Nf) → ⟦ scale c p ⟧ ≡ c *ℤ ⟦ p ⟧
  scale_ok c (con d) = refl
  scale_ok c (var i p q) = node_ok i (scale c p) (scale c q) ∙ into_var (atom ρ i) ⟦ p ⟧ ⟦ q ⟧ c (scale_ok c p) (scale_ok c q)

  mul_var_ok : (i : ℕ) (p : Nf) → ⟦ mul_var i p ⟧ ≡ atom ρ i *ℤ ⟦ p ⟧
  mul_var_ok i (con c) = node_ok i (con c) (con (pos 0)) ∙ +ℤ_idr _
  mul_var_ok i (var j p q) = split (leb i j) _ _ _ (λ _. +ℤ_idr _) (λ _. into_var (atom ρ j) ⟦ p ⟧ ⟦ q ⟧ (atom ρ i) (mul_var_ok i p) (mul_var_ok i q))

  mul_ok : (r p : Nf) → ⟦ mul r p ⟧ ≡ ⟦ r ⟧ *ℤ ⟦ p ⟧
  mul_ok r (con c) = scale_ok c r ∙ *ℤ_comm c ⟦ r ⟧
  mul_ok r (var i p q) =
      add_ok (mul_var i (mul r p)) (mul r q) ∙ ap (λ z. z +ℤ ⟦ mul r q ⟧) (mul_var_ok i (mul r p))
      ∙ into_var (atom ρ i) ⟦ p ⟧ ⟦ q ⟧ ⟦ r ⟧ (mul_ok r p) (mul_ok r q)

  neg_ok : (p : Nf) → ⟦ neg p ⟧ ≡ neg_ℤ ⟦ p ⟧
  neg_ok p = scale_ok (negsuc 0) p ∙ neg_ℤ-*ℤ (pos 1) ⟦ p ⟧ ∙ ap neg_ℤ (one-*ℤ ⟦ p ⟧)

  norm_ok : (p : Poly) → ⟦ norm p ⟧ ≡ eval ρ p
  norm_ok (# i) = +ℤ_idr _ ∙ *ℤ_comm (atom ρ i) (pos 1) ∙ one-*ℤ (atom ρ i)
  norm_ok (lit z) = refl
  norm_ok (p ⊕ q) = add_ok (norm p) (norm q) ∙ ap₂ ◌+ℤ◌ (norm_ok p) (norm_ok q)
  norm_ok (p ⊖ q) = add_ok (norm p) (neg (norm q)) ∙ ap₂ ◌+ℤ◌ (norm_ok p) (neg_ok (norm q) ∙ ap neg_ℤ (norm_ok q))
  norm_ok (p ⊗ q) = mul_ok (norm p) (norm q) ∙ ap₂ ◌*ℤ◌ (norm_ok p) (norm_ok q)
  norm_ok (⊝ p) = neg_ok (norm p) ∙ ap neg_ℤ (norm_ok p)

  -- two expressions whose difference has the normal form 0 are equal at all atoms
  pub ring : (l r : Poly) → Vanishes (norm (l ⊖ r)) → eval ρ l ≡ eval ρ r
  ring l r v =
      let d = norm (l ⊖ r) in
      sub_zero→eq (sym (norm_ok (l ⊖ r)) ∙ is_zero_ok d (passed (is_zero d) d v))

-- ---- Reading a term as a polynomial, by `search`

-- z is one of the atoms
pub data Atom : List ℤ → ℤ → Type 0 where
  here : {z : ℤ} {ρ : List ℤ} → Atom (z ∷ ρ) z
  there : {y z : ℤ} {ρ : List ℤ} → Atom ρ z → Atom (y ∷ ρ) z

-- the place of an atom in the list
abbrev pub index : {ρ : List ℤ} {z : ℤ} → Atom ρ z → ℕ
index here = 0
index (there t) = suc (index t)

-- a test that passes, by `refl`, at a numeral alone: at any other number it is stuck
abbrev pub numeral : ℤ → Bool
numeral (pos n) = eqb n n
numeral (negsuc n) = eqb n n

-- z is a polynomial in the atoms; a difference x −ℤ y is x +ℤ neg_ℤ y by definition
pub data Quote (ρ : List ℤ) : ℤ → Type 0 where
  q_add : {x y : ℤ} → Quote ρ x → Quote ρ y → Quote ρ (x +ℤ y)
  q_mul : {x y : ℤ} → Quote ρ x → Quote ρ y → Quote ρ (x *ℤ y)
  q_neg : {x : ℤ} → Quote ρ x → Quote ρ (neg_ℤ x)
  q_atom : {z : ℤ} → Atom ρ z → Quote ρ z
  q_lit : (z : ℤ) → numeral z ≡ true → Quote ρ z

-- the polynomial that was read
abbrev pub poly : {ρ : List ℤ} {z : ℤ} → Quote ρ z → Poly
poly (q_add p q) = poly p ⊕ poly q
poly (q_mul p q) = poly p ⊗ poly q
poly (q_neg p) = ⊝ poly p
poly (q_atom t) = # (index t)
poly (q_lit z e) = lit z

-- the two sides of an equation: a type of its own, so that one `search` reads both
pub data Sides (ρ : List ℤ) : ℤ → ℤ → Type 0 where
  sides : {x y : ℤ} → Quote ρ x → Quote ρ y → Sides ρ x y

-- the one side less the other
abbrev pub difference : {ρ : List ℤ} {x y : ℤ} → Sides ρ x y → Poly
difference (sides p q) = poly p ⊖ poly q

-- what `search` reads a term by
pub ruleset quote = (sides, q_add, q_mul, q_neg, q_atom, here, there, q_lit)

index_ok : {ρ : List ℤ} {z : ℤ} (t : Atom ρ z) → atom ρ (index t) ≡ z
index_ok here = refl
index_ok (there t) = index_ok t

poly_ok : {ρ : List ℤ} {z : ℤ} (q : Quote ρ z) → eval ρ (poly q) ≡ z
poly_ok (q_add p q) = ap₂ ◌+ℤ◌ (poly_ok p) (poly_ok q)
poly_ok (q_mul p q) = ap₂ ◌*ℤ◌ (poly_ok p) (poly_ok q)
poly_ok (q_neg p) = ap neg_ℤ (poly_ok p)
poly_ok (q_atom t) = index_ok t
poly_ok (q_lit z e) = refl

-- `ring`, with the two sides read by `search`
pub by_ring : (ρ : List ℤ) {x y : ℤ} (q : Sides ρ x y) → Vanishes (norm (difference q)) → x ≡ y
by_ring ρ (sides p q) v = sym (poly_ok p) ∙ ring ρ (poly p) (poly q) v ∙ poly_ok q

-- x ≡ y from u ≡ v, where x − y is a multiple of u − v: a ring identity
pub from_eq : {x y u v : ℤ} (k : ℤ) → u ≡ v → x -ℤ y ≡ k *ℤ (u -ℤ v) → x ≡ y
from_eq k h e = sub_zero→eq (e ∙ ap (λ d. k *ℤ d) (eq→sub_zero h) ∙ *ℤ-zero k)

-- ---- Examples

-- differences, negations and numerals on both sides
signs : (a b c d e f : ℤ) → (a +ℤ b -ℤ c) *ℤ (neg_ℤ d +ℤ pos 4 *ℤ e -ℤ f) -ℤ pos 2 *ℤ a ≡ (neg_ℤ a -ℤ b +ℤ c) *ℤ (d -ℤ pos 4 *ℤ e +ℤ f) -ℤ a *ℤ pos 2
signs a b c d e f = by_ring (a ∷ b ∷ c ∷ d ∷ e ∷ f ∷ []) (search quote depth 100 fits 100000) tt

-- the product of two noisy values
noise : (h k e l f : ℤ) → (h *ℤ k +ℤ e) *ℤ (h *ℤ l +ℤ f) ≡ h *ℤ h *ℤ (k *ℤ l) +ℤ h *ℤ (k *ℤ f +ℤ l *ℤ e) +ℤ e *ℤ f
noise h k e l f = by_ring (h ∷ k ∷ e ∷ l ∷ f ∷ []) (search quote depth 100 fits 100000) tt

-- the same with the polynomials written out
noise' : (h k e l f : ℤ) → (h *ℤ k +ℤ e) *ℤ (h *ℤ l +ℤ f) ≡ h *ℤ h *ℤ (k *ℤ l) +ℤ h *ℤ (k *ℤ f +ℤ l *ℤ e) +ℤ e *ℤ f
noise' h k e l f =
    ring (h ∷ k ∷ e ∷ l ∷ f ∷ []) ((# 0 ⊗ # 1 ⊕ # 2) ⊗ (# 0 ⊗ # 3 ⊕ # 4)) (# 0 ⊗ # 0 ⊗ (# 1 ⊗ # 3) ⊕ # 0 ⊗ (# 1 ⊗ # 4 ⊕ # 3 ⊗ # 2) ⊕ # 2 ⊗ # 4) tt

-- an equation turned around
turned : (a b c : ℤ) → a +ℤ b *ℤ c ≡ b → a ≡ b *ℤ (pos 1 -ℤ c)
turned a b c h = from_eq (pos 1) h (by_ring (a ∷ b ∷ c ∷ []) (search quote depth 100 fits 100000) tt)

-- Euler's identity: a product of two sums of four squares is one
four_squares : (a b c d x y z w : ℤ)
    → (a *ℤ a +ℤ b *ℤ b +ℤ c *ℤ c +ℤ d *ℤ d) *ℤ (x *ℤ x +ℤ y *ℤ y +ℤ z *ℤ z +ℤ w *ℤ w)
    ≡ (a *ℤ x +ℤ b *ℤ y +ℤ c *ℤ z +ℤ d *ℤ w) *ℤ (a *ℤ x +ℤ b *ℤ y +ℤ c *ℤ z +ℤ d *ℤ w)
    +ℤ (a *ℤ y -ℤ b *ℤ x +ℤ c *ℤ w -ℤ d *ℤ z) *ℤ (a *ℤ y -ℤ b *ℤ x +ℤ c *ℤ w -ℤ d *ℤ z)
    +ℤ (a *ℤ z -ℤ b *ℤ w -ℤ c *ℤ x +ℤ d *ℤ y) *ℤ (a *ℤ z -ℤ b *ℤ w -ℤ c *ℤ x +ℤ d *ℤ y)
    +ℤ (a *ℤ w +ℤ b *ℤ z -ℤ c *ℤ y -ℤ d *ℤ x) *ℤ (a *ℤ w +ℤ b *ℤ z -ℤ c *ℤ y -ℤ d *ℤ x)
four_squares a b c d x y z w = by_ring (a ∷ b ∷ c ∷ d ∷ x ∷ y ∷ z ∷ w ∷ []) (search quote depth 100 fits 100000) tt
