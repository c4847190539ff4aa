-- The switching key maker on sheet 1 and a buffer of zeros is what the bench key is defined by; and its four rows of sixteen.
use Rattle.std.proofs.Common.{◌≡◌, refl, subst, List, [], ◌∷◌, ◌/◌, ℤ, pos, length, get_or, replicate}
use Rattle.std.specs.Simd.{first_chunks}
use Rattle.whole.specs.Lists.{cut}
use Rattle.refusal.specs.declared.Params.{Params}
use Rattle.refusal.specs.Answer.{Answer}
use Rattle.refusal.specs.Parameters.{sheet}
use Rattle.scheme.specs.Calls.{make_key_loans, MakeKeyPromise, bench_loans}

pub bench_made : {p : Params} {s masks f : List ℤ} {r : Answer} {key : List ℤ} → p ≡ sheet 1
    → MakeKeyPromise (make_key_loans p s masks f (replicate 64 (pos 0))) r key → MakeKeyPromise (bench_loans s masks f) r key
bench_made {s = s} {masks = masks} {f = f} {r = r} {key = key} e =
    subst (λ (x : Params). MakeKeyPromise (make_key_loans x s masks f (replicate 64 (pos 0))) r key) e

pub four_rows : (key : List ℤ) {rows : List (List ℤ)} → rows ≡ first_chunks 16 (length key / 16) key → length key ≡ 64
    → get_or rows 0 [] ∷ get_or rows 1 [] ∷ get_or rows 2 [] ∷ get_or rows 3 [] ∷ [] ≡ cut 16 4 key
unfolding cut
four_rows key e l = rw (e, l) refl
