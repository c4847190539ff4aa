-- The kind of a gate, by the number that its record has: 0 XOR, 1 AND, 2 NOT.
use Rattle.std.specs.Prelude.{◌≡◌, refl, ℕ, zero, suc}
use Rattle.circuit.specs.declared.kind.Kind.{Kind}
use Rattle.circuit.specs.declared.kind.Kind.TheVariants.{Xor, And, Not}
use Rattle.circuit.specs.Circuits.{by_kind}

abbrev pub kind_of : ℕ → Kind
kind_of zero = Xor
kind_of (suc zero) = And
kind_of (suc (suc k)) = Not

-- one of three, by the kind
abbrev pub among : {A : Type 0} → Kind → A → A → A → A
among Xor x a n = x
among And x a n = a
among Not x a n = n

pub by_kind_of : {A : Type 0} (k : ℕ) (x a n : A) → by_kind k x a n ≡ among (kind_of k) x a n
unfolding by_kind
by_kind_of zero x a n = refl
by_kind_of (suc zero) x a n = refl
by_kind_of (suc (suc k)) x a n = refl
