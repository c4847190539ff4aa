-- Laws about what `specs/Built` defines that rest on a definition which a must-fail edit turns.
use Rattle.std.specs.Prelude.{◌≡◌, refl}
use Rattle.std.proofs.Math.Path.{sym}
use Rattle.std.proofs.Common.{ap, ◌∙◌, arith}
use mathlib.Core.List.{List}
use Prim.Native.Nat.{ℕ, ◌*◌, ◌-◌}
use Rattle.std.proofs.Math.ListN.{length}
use Rattle.std.proofs.Math.IntN.{ℤ}
use Rattle.whole.specs.Tests.{or_left, or_right}
use Rattle.refusal.specs.Answer.{Answer}
use Rattle.refusal.specs.First.{first_of, done_or_done, Clear}
use Rattle.refusal.specs.Order.{position_in, order, position, in_order}
use Rattle.refusal.proofs.Order.{first_clear}
use Rattle.refusal.specs.Parameters.{InRange}
use Rattle.scheme.specs.Calls.{MakeKeyLoans, make_key_rows, make_key_answer, make_key_result, MakeKeyPromise}
use Rattle.scheme.specs.Passed.{params_in_range, length_is, key_begins, entries_inside, errors_within}
use Rattle.noise.specs.Built.{BuiltFor, made→built}

-- ---- through the call: where the maker answers 0, what it left is built for the key that it was lent

pub maker_builds : {a : MakeKeyLoans} {r : Answer} {W : List ℤ} → MakeKeyPromise a r W → r.number ≡ 0 → BuiltFor a.p.n a.p.q a.p.f a.key W
unfolding position_in order position in_order make_key_rows make_key_answer make_key_result
maker_builds {a} {r} {W} promise none =
    let done : first_of (make_key_rows a) ≡ 0 = sym (ap (λ (x : Answer). x.number) promise.answer) ∙ none in
    let clear : Clear (make_key_rows a) = first_clear (make_key_rows a) refl done in
    let p = a.p in
    let n : ℕ = p.n in
    let range : InRange p = params_in_range p clear.0.0 in
    let lengths = clear.1.0.0 in
    made→built n p.q a.key (omega (arith, range.n_low)) (omega (arith, range.q_low)) range.q_even (key_begins p.l a.key clear.1.1.0.0) p.f W
    (record {
      masks = a.masks;
      masks_long = length_is (length a.masks) ((n - 1) * (n * n)) (search (or_left, or_right, lengths) depth 10);
      masks_residues = entries_inside (p.q * p.q) a.masks clear.1.1.1.0.0;
      f = a.errors;
      f_long = length_is (length a.errors) (n * n) (search (or_left, or_right, lengths) depth 10);
      f_small = errors_within p.f a.errors clear.1.1.1.1.0.0;
      made = promise.result_left ∙ done_or_done _ a.result done;
    })
