-- What the proofs of several calls share: what a call answers where it refuses and where it does not, and the sum whose residue is entry 0 of a ciphertext, and an entry of row 0 of a switching key.
use Rattle.std.specs.Prelude.{◌≡◌, refl, Bool, false, ◌||◌, List, ℕ, ◌≤◌, ℤ, ◌+ℤ◌, ◌-ℤ◌, nat_abs, Result, Ok, Err}
use Rattle.std.proofs.Common.{sym, ap, ◌∙◌, arith, SFits}
use Rattle.std.specs.Int.{w64}
use Rattle.whole.specs.Size.{size_add, size_sub}
use Rattle.whole.specs.Machine.{fits64}
use Rattle.refusal.specs.declared.Params.{Params}
use Rattle.refusal.specs.Parameters.{InRange}
use Rattle.refusal.specs.declared.Refusal.{Refusal}
use Rattle.refusal.specs.First.{Row, first_of, place_of, done_or_done}
use Rattle.refusal.proofs.Given.{Gives, given, Refused, refused_by, done_by, placed_by, refused_kept}
use Rattle.scheme.specs.Calls.{Bounded, differs, bounded, decrypted, bounded_of, decrypted_of, states, decrypts_to}
use Rattle.scheme.specs.Passed.{length_is}
pub use Rattle.scheme.specs.Passed.{params_tested, answered_range}
pub use Rattle.keys.specs.Moduli.{params_modulus}

-- ---- lengths

-- a length that is n is short enough for `sum_of_sizes`
pub short : {p : Params} {n : ℕ} → InRange p → differs n p.n ≡ false → n ≤ 1024
short {p} {n} r d = omega (arith, r.n_high, length_is n p.n d)

-- a row of several tests
pub or_same : {a b c d : Bool} → a ≡ b → c ≡ d → (a || c) ≡ (b || d)
or_same e f = rw (e, f)

-- ---- refused, and done: what a function answers that comes to its refusal row by row, and beside it states a bound or a bit

module _ {rows : List Row} {r : Result ℕ Refusal} {e : Refusal} where
  pub bounded_err : (B : ℕ) → Refused rows e → r ≡ Err e → bounded_of r ≡ bounded rows B
  bounded_err B f h = ap bounded_of h ∙ rw (f.number, f.place, ← refused_kept f B 0) refl

  pub decrypted_err : (b : ℕ) → Refused rows e → r ≡ Err e → decrypted_of r ≡ decrypted rows b
  decrypted_err b f h = ap decrypted_of h ∙ rw (f.number, f.place, ← refused_kept f b 0) refl

module _ (rows : List Row) {x : ℕ} where
  pub bounded_ok : {B : ℕ} → first_of rows ≡ 0 → place_of rows ≡ 0 → x ≡ B → states x ≡ bounded rows B
  bounded_ok {B} o at e = rw (e, o, at) (ap states (sym (done_or_done B 0 refl)))

  pub decrypted_ok : {b : ℕ} → first_of rows ≡ 0 → place_of rows ≡ 0 → x ≡ b → decrypts_to x ≡ decrypted rows b
  decrypted_ok {b} o at e = rw (e, o, at) (ap decrypts_to (sym (done_or_done b 0 refl)))

module _ {rows : List Row} {r : Result ℕ Refusal} where
  pub bounded_refused : {e : Refusal} (B : ℕ) → Gives rows r → r ≡ Err e → bounded_of r ≡ bounded rows B
  bounded_refused B g h = bounded_err B (refused_by rows (given rows g) h) h

pub bounded_done : {rows : List Row} {x B : ℕ} → Gives rows (Ok x) → x ≡ B → states x ≡ bounded rows B
bounded_done {rows} {x} g e =
    let same : Ok x ≡ Ok x = refl in
    bounded_ok rows (done_by rows (given rows g) same) (placed_by rows (given rows g) same) e

-- the caller of such a function f has its answer: and where it is a bound, no row applies
pub bound_stated : (rows : List Row) (B : ℕ) {x : ℕ} {f : Result ℕ Refusal} → bounded_of f ≡ bounded rows B → f ≡ Ok x → first_of rows ≡ 0
bound_stated rows B told h = sym (ap (λ (y : Bounded). y.number) (ap bounded_of (sym h) ∙ told))

pub bound_refused : (rows : List Row) (B : ℕ) {e : Refusal} {f : Result ℕ Refusal} → bounded_of f ≡ bounded rows B → f ≡ Err e → Refused rows e
bound_refused rows B told h =
    let y = ap bounded_of (sym h) ∙ told in
    record { number = ap (λ (y : Bounded). y.number) y; place = ap (λ (y : Bounded). y.place) y }

-- ---- the sum m − x + e, of which each part is at most 2^60 in size: nothing on the way wraps

pub record Masked (m x e : ℤ) : Type 0 where
  pub first : SFits w64 m
  pub less : SFits w64 (m -ℤ x)
  pub all : SFits w64 (m -ℤ x +ℤ e)

pub masked : {m x e : ℤ} → nat_abs m ≤ 1152921504606846976 → nat_abs x ≤ 1152921504606846976 → nat_abs e ≤ 1152921504606846976 → Masked m x e
masked {m} {x} {e} hm hx he =
    record {
      first = fits64 m (omega arith);
      less = fits64 (m -ℤ x) (omega (arith, size_sub m x));
      all = fits64 (m -ℤ x +ℤ e) (omega (arith, size_sub m x, size_add (m -ℤ x) e));
    }
