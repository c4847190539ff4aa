-- What follows for the loans of XOR, NOT and AND when the number is 0: every test is false, so the functions that do the work may be called.
use Rattle.std.proofs.Common.{◌≡◌, refl, sym, ◌∙◌, ◌*◌, ◌<◌, arith, length}
use Rattle.whole.specs.Tests.{or_left, or_right}
use Rattle.refusal.specs.First.{first_of, Clear}
use Rattle.refusal.specs.Order.{position_in, order, position, in_order}
use Rattle.refusal.proofs.Order.{first_clear}
use Rattle.refusal.specs.Parameters.{InRange}
use Rattle.scheme.specs.Arithmetic.{XOR_bound}
use Rattle.scheme.specs.Calls.{XorLoans, xor_rows, NotLoans, not_rows, AndLoans, and_bound, and_rows}
use Rattle.scheme.specs.Passed.{params_in_range, length_is, entries_inside, bound_fits}
use Rattle.bound.specs.Ready.{AndBoundReady}
use Rattle.gates.specs.Ready.{XorIntoReady, NotIntoReady, AndIntoReady}

pub record XorReady (a : XorLoans) : Type 0 where
  pub range : InRange a.p
  pub into : XorIntoReady a.p.q a.left a.right a.result
  pub fits : 4 * XOR_bound a.left_bound a.right_bound < a.p.q

pub xor_ready : (a : XorLoans) → first_of (xor_rows a) ≡ 0 → XorReady a
unfolding position_in order position in_order xor_rows
xor_ready a e =
    let t : Clear (xor_rows a) = first_clear (xor_rows a) refl e in
    let r : InRange a.p = params_in_range a.p t.0.0 in
    let left : length a.left ≡ a.p.n = length_is (length a.left) a.p.n (search (or_left, or_right, t.1.0.0) depth 8) in
    let right : length a.right ≡ a.p.n = length_is (length a.right) a.p.n (search (or_left, or_right, t.1.0.0) depth 8) in
    let room : length a.result ≡ a.p.n = length_is (length a.result) a.p.n (search (or_left, or_right, t.1.0.0) depth 8) in
    record {
      range = r;
      into = record {
        left_long = left ∙ sym room;
        right_long = right ∙ sym room;
        left_inside = entries_inside a.p.q a.left (search (or_left, t.1.1.0.0) depth 8);
        right_inside = entries_inside a.p.q a.right (search (or_left, or_right, t.1.1.0.0) depth 8);
      };
      fits = bound_fits a.p.q (XOR_bound a.left_bound a.right_bound) t.1.1.1.1.0.0;
    }

pub record NotReady (a : NotLoans) : Type 0 where
  pub range : InRange a.p
  pub into : NotIntoReady a.p.q a.ciphertext a.result

pub not_ready : (a : NotLoans) → first_of (not_rows a) ≡ 0 → NotReady a
unfolding position_in order position in_order not_rows
not_ready a e =
    let t : Clear (not_rows a) = first_clear (not_rows a) refl e in
    let r : InRange a.p = params_in_range a.p t.0.0 in
    let long : length a.ciphertext ≡ a.p.n = length_is (length a.ciphertext) a.p.n (search (or_left, t.1.0.0) depth 8) in
    let room : length a.result ≡ a.p.n = length_is (length a.result) a.p.n (search (or_left, or_right, t.1.0.0) depth 8) in
    record {
      range = r;
      into = record {
        long = long ∙ sym room;
        not_empty = omega (arith, r.n_low);
        inside = entries_inside a.p.q a.ciphertext t.1.1.0.0;
      };
    }

pub record AndReady (a : AndLoans) : Type 0 where
  pub room : length a.result ≡ a.p.n
  pub into : AndIntoReady a.p.q a.left a.right a.key a.scratch a.result
  pub bound : AndBoundReady a.p a.left_bound a.right_bound
  pub fits : 4 * and_bound a < a.p.q

pub and_ready : (a : AndLoans) → first_of (and_rows a) ≡ 0 → AndReady a
unfolding position_in order position in_order and_rows
and_ready a e =
    let t : Clear (and_rows a) = first_clear (and_rows a) refl e in
    let r : InRange a.p = params_in_range a.p t.0.0 in
    let n = a.p.n in
    let left : length a.left ≡ a.p.n = length_is (length a.left) n (search (or_left, or_right, t.1.0.0) depth 8) in
    let right : length a.right ≡ a.p.n = length_is (length a.right) n (search (or_left, or_right, t.1.0.0) depth 8) in
    let key : length a.key ≡ a.p.n * (a.p.n * a.p.n) = length_is (length a.key) (n * (n * n)) (search (or_left, or_right, t.1.0.0) depth 8) in
    let scratch : length a.scratch ≡ a.p.n * a.p.n = length_is (length a.scratch) (n * n) (search (or_left, or_right, t.1.0.0) depth 8) in
    let room : length a.result ≡ a.p.n = length_is (length a.result) n (search (or_left, or_right, t.1.0.0) depth 8) in
    record {
      room = room;
      into = record {
        high = omega (arith, r.n_high);
        left_long = left ∙ sym room;
        right_long = right ∙ sym room;
        scratch_long = rw room scratch;
        key_long = rw room key;
        left_inside = entries_inside a.p.q a.left (search (or_left, t.1.1.0.0) depth 8);
        right_inside = entries_inside a.p.q a.right (search (or_left, or_right, t.1.1.0.0) depth 8);
        key_inside = entries_inside (a.p.q * a.p.q) a.key (search (or_left, or_right, t.1.1.0.0) depth 8);
      };
      bound = record {
        range = r;
        left_fits = bound_fits a.p.q a.left_bound (search (or_left, t.1.1.1.0.0) depth 8);
        right_fits = bound_fits a.p.q a.right_bound (search (or_left, or_right, t.1.1.1.0.0) depth 8);
      };
      fits = bound_fits a.p.q (and_bound a) t.1.1.1.1.0.0;
    }
