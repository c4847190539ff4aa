-- Document 01, *Refusal numbers*, for the calls on keys and ciphertexts: for each call what it is lent, its rows in the table's order, the answer, what each
-- buffer that it writes holds at exit, and the promise of these, which the contract of its function cites. Of a buffer that a call only writes, a result or
-- scratch, the rows take the length alone: it may arrive with anything in it.
use Rattle.std.specs.Prelude.{◌≡◌, Bool, not, ◌||◌, List, [], ◌∷◌, ℕ, ◌*◌, ◌-◌, leb, eqb, ℤ, pos, nat_abs, length, replicate, Result, Ok, Err}
use Rattle.whole.specs.Lists.{every, cut}
use Rattle.refusal.specs.declared.Refusal.{Refusal}
use Rattle.refusal.specs.Answer.{Answer, refusal_number, refusal_place}
use Rattle.refusal.specs.declared.Params.{Params}
use Rattle.refusal.specs.First.{Row, row, first_of, place_of, answer_of, done_or}
use Rattle.refusal.specs.Parameters.{in_range, sheet}
use Rattle.scheme.specs.Arithmetic.{is_residue, is_key, encrypt, decrypt, XOR, XOR_bound, NOT, NOT_bound, switching_key, AND, AND_bound, fits}

-- ---- the tests

-- 1: a parameter is outside its range
unfoldable pub bad_params : Params → Bool
bad_params p = not (in_range p)

-- 3: a length differs from the one required
unfoldable pub differs : ℕ → ℕ → Bool
differs had required = not (eqb had required)

-- 4: s0 is not 1, or the key's sum exceeds L
unfoldable pub bad_key : ℕ → List ℤ → Bool
bad_key L s = not (is_key L s)

-- 5: a bit is neither 0 nor 1
unfoldable pub bad_bit : ℕ → Bool
bad_bit b = not (leb b 1)

-- 6: an entry is outside −m/2 to m/2−1
unfoldable pub outside : ℕ → List ℤ → Bool
outside m xs = not (every (is_residue m) xs)

-- 7: an error exceeds its limit
unfoldable pub exceeds : ℕ → List ℤ → Bool
exceeds limit es = not (every (λ e. leb (nat_abs e) limit) es)

-- 8 and 10: four times a bound is at or above q
unfoldable pub over_budget : ℕ → ℕ → Bool
over_budget q B = not (fits q B)

-- ---- the answers: number and place of the first row that applies, and on a refusal 0 in the other number

-- of encryption, XOR, NOT and AND: beside them the bound of the ciphertext that was written
pub record Bounded : Type 0 where
  pub number : ℕ
  pub place : ℕ
  pub bound : ℕ

-- of decryption: beside them the bit
pub record Decrypted : Type 0 where
  pub number : ℕ
  pub place : ℕ
  pub bit : ℕ

abbrev pub bounded : List Row → ℕ → Bounded
bounded rows B = record { number = first_of rows; place = place_of rows; bound = done_or (first_of rows) B 0 }

abbrev pub decrypted : List Row → ℕ → Decrypted
decrypted rows b = record { number = first_of rows; place = place_of rows; bit = done_or (first_of rows) b 0 }

-- done: no refusal, and the bound or the bit
abbrev pub states : ℕ → Bounded
states B = record { number = 0; place = 0; bound = B }

abbrev pub decrypts_to : ℕ → Decrypted
decrypts_to b = record { number = 0; place = 0; bit = b }

-- the answer in the paper's form, of a call that answers a bound or a bit, or why it refuses
abbrev pub bounded_of : Result ℕ Refusal → Bounded
bounded_of (Ok B) = states B
bounded_of (Err r) = record { number = refusal_number r; place = refusal_place r; bound = 0 }

abbrev pub decrypted_of : Result ℕ Refusal → Decrypted
decrypted_of (Ok b) = decrypts_to b
decrypted_of (Err r) = record { number = refusal_number r; place = refusal_place r; bit = 0 }

-- ---- key check: the parameters and the key

pub record KeyCheckLoans : Type 0 where
  pub p : Params
  pub key : List ℤ

abbrev pub key_check_loans : Params → List ℤ → KeyCheckLoans
key_check_loans p s = record { p = p; key = s }

unfoldable pub key_check_rows : KeyCheckLoans → List Row
key_check_rows a =
    row 1 (bad_params a.p)
    ∷ row 3 (differs (length a.key) a.p.n)
    ∷ row 4 (bad_key a.p.l a.key)
    ∷ []

unfoldable pub key_check_answer : KeyCheckLoans → Answer
key_check_answer a = answer_of (key_check_rows a)

pub record KeyCheckPromise (a : KeyCheckLoans) (r : Answer) : Type 0 where
  pub answer : r ≡ key_check_answer a

-- ---- switching key maker: the key, the masks, the errors, and the buffer for the switching key

pub record MakeKeyLoans : Type 0 where
  pub p : Params
  pub key : List ℤ
  pub masks : List ℤ
  pub errors : List ℤ
  pub result : List ℤ

abbrev pub make_key_loans : Params → List ℤ → List ℤ → List ℤ → List ℤ → MakeKeyLoans
make_key_loans p s masks f result = record { p = p; key = s; masks = masks; errors = f; result = result }

unfoldable pub make_key_rows : MakeKeyLoans → List Row
make_key_rows a =
    let n = a.p.n in
    row 1 (bad_params a.p)
    ∷ row 3 (differs (length a.key) n
    || differs (length a.masks) ((n - 1) * (n * n))
    || differs (length a.errors) (n * n)
    || differs (length a.result) (n * (n * n)))
    ∷ row 4 (bad_key a.p.l a.key)
    ∷ row 6 (outside (a.p.q * a.p.q) a.masks)
    ∷ row 7 (exceeds a.p.f a.errors)
    ∷ []

unfoldable pub make_key_answer : MakeKeyLoans → Answer
make_key_answer a = answer_of (make_key_rows a)

unfoldable pub make_key_result : MakeKeyLoans → List ℤ
make_key_result a = done_or (first_of (make_key_rows a)) (switching_key a.p.n a.p.q a.key a.masks a.errors) a.result

pub record MakeKeyPromise (a : MakeKeyLoans) (r : Answer) (result : List ℤ) : Type 0 where
  pub answer : r ≡ make_key_answer a
  pub result_left : result ≡ make_key_result a

-- ---- bench key maker, and its check call: what the maker answers, and leaves in a buffer of zeros, on sheet 1; the key as four rows of sixteen

abbrev pub bench_loans : List ℤ → List ℤ → List ℤ → MakeKeyLoans
bench_loans s masks f = make_key_loans (sheet 1) s masks f (replicate 64 (pos 0))

unfoldable pub bench_check_answer : List ℤ → List ℤ → List ℤ → Answer
bench_check_answer s masks f = make_key_answer (bench_loans s masks f)

unfoldable pub bench_key : List ℤ → List ℤ → List ℤ → List (List ℤ)
bench_key s masks f = cut 16 4 (make_key_result (bench_loans s masks f))

pub record BenchCheckPromise (s masks f : List ℤ) (r : Answer) : Type 0 where
  pub answer : r ≡ bench_check_answer s masks f

pub record BenchKeyPromise (s masks f : List ℤ) (r : List (List ℤ)) : Type 0 where
  pub answer : r ≡ bench_key s masks f

-- ---- encrypt: the key, the bit, the mask, the error, and the buffer for the ciphertext

pub record EncryptLoans : Type 0 where
  pub p : Params
  pub key : List ℤ
  pub bit : ℕ
  pub mask : List ℤ
  pub error : ℤ
  pub result : List ℤ

abbrev pub encrypt_loans : Params → List ℤ → ℕ → List ℤ → ℤ → List ℤ → EncryptLoans
encrypt_loans p s b a e result = record { p = p; key = s; bit = b; mask = a; error = e; result = result }

unfoldable pub encrypt_rows : EncryptLoans → List Row
encrypt_rows a =
    row 1 (bad_params a.p)
    ∷ row 3 (differs (length a.key) a.p.n || differs (length a.mask) (a.p.n - 1) || differs (length a.result) a.p.n)
    ∷ row 4 (bad_key a.p.l a.key)
    ∷ row 5 (bad_bit a.bit)
    ∷ row 6 (outside a.p.q a.mask)
    ∷ row 7 (exceeds a.p.e (a.error ∷ []))
    ∷ []

-- the stated bound is E, never |e|
unfoldable pub encrypt_answer : EncryptLoans → Bounded
encrypt_answer a = bounded (encrypt_rows a) a.p.e

unfoldable pub encrypt_result : EncryptLoans → List ℤ
encrypt_result a = done_or (first_of (encrypt_rows a)) (encrypt a.p.q a.key a.bit a.mask a.error) a.result

pub record EncryptPromise (a : EncryptLoans) (r : Bounded) (result : List ℤ) : Type 0 where
  pub answer : r ≡ encrypt_answer a
  pub result_left : result ≡ encrypt_result a

-- ---- decrypt: the key and the ciphertext

pub record DecryptLoans : Type 0 where
  pub p : Params
  pub key : List ℤ
  pub ciphertext : List ℤ

abbrev pub decrypt_loans : Params → List ℤ → List ℤ → DecryptLoans
decrypt_loans p s c = record { p = p; key = s; ciphertext = c }

unfoldable pub decrypt_rows : DecryptLoans → List Row
decrypt_rows a =
    row 1 (bad_params a.p)
    ∷ row 3 (differs (length a.key) a.p.n || differs (length a.ciphertext) a.p.n)
    ∷ row 4 (bad_key a.p.l a.key)
    ∷ row 6 (outside a.p.q a.ciphertext)
    ∷ []

unfoldable pub decrypt_answer : DecryptLoans → Decrypted
decrypt_answer a = decrypted (decrypt_rows a) (decrypt a.p.q a.key a.ciphertext)

pub record DecryptPromise (a : DecryptLoans) (r : Decrypted) : Type 0 where
  pub answer : r ≡ decrypt_answer a

-- ---- XOR: two ciphertexts with their bounds, and the buffer for the result

pub record XorLoans : Type 0 where
  pub p : Params
  pub left : List ℤ
  pub left_bound : ℕ
  pub right : List ℤ
  pub right_bound : ℕ
  pub result : List ℤ

abbrev pub xor_loans : Params → List ℤ → ℕ → List ℤ → ℕ → List ℤ → XorLoans
xor_loans p c B1 d B2 result = record { p = p; left = c; left_bound = B1; right = d; right_bound = B2; result = result }

unfoldable pub xor_rows : XorLoans → List Row
xor_rows a =
    row 1 (bad_params a.p)
    ∷ row 3 (differs (length a.left) a.p.n || differs (length a.right) a.p.n || differs (length a.result) a.p.n)
    ∷ row 6 (outside a.p.q a.left || outside a.p.q a.right)
    ∷ row 8 (over_budget a.p.q a.left_bound || over_budget a.p.q a.right_bound)
    ∷ row 10 (over_budget a.p.q (XOR_bound a.left_bound a.right_bound))
    ∷ []

unfoldable pub xor_answer : XorLoans → Bounded
xor_answer a = bounded (xor_rows a) (XOR_bound a.left_bound a.right_bound)

unfoldable pub xor_result : XorLoans → List ℤ
xor_result a = done_or (first_of (xor_rows a)) (XOR a.p.q a.left a.right) a.result

pub record XorPromise (a : XorLoans) (r : Bounded) (result : List ℤ) : Type 0 where
  pub answer : r ≡ xor_answer a
  pub result_left : result ≡ xor_result a

-- ---- NOT: a ciphertext with its bound, and the buffer for the result

pub record NotLoans : Type 0 where
  pub p : Params
  pub ciphertext : List ℤ
  pub bound : ℕ
  pub result : List ℤ

abbrev pub not_loans : Params → List ℤ → ℕ → List ℤ → NotLoans
not_loans p c B result = record { p = p; ciphertext = c; bound = B; result = result }

unfoldable pub not_rows : NotLoans → List Row
not_rows a =
    row 1 (bad_params a.p)
    ∷ row 3 (differs (length a.ciphertext) a.p.n || differs (length a.result) a.p.n)
    ∷ row 6 (outside a.p.q a.ciphertext)
    ∷ row 8 (over_budget a.p.q a.bound)
    ∷ []

unfoldable pub not_answer : NotLoans → Bounded
not_answer a = bounded (not_rows a) (NOT_bound a.bound)

unfoldable pub not_result : NotLoans → List ℤ
not_result a = done_or (first_of (not_rows a)) (NOT a.p.q a.ciphertext) a.result

pub record NotPromise (a : NotLoans) (r : Bounded) (result : List ℤ) : Type 0 where
  pub answer : r ≡ not_answer a
  pub result_left : result ≡ not_result a

-- ---- AND: two ciphertexts with their bounds, the switching key, scratch, and the buffer for the result

pub record AndLoans : Type 0 where
  pub p : Params
  pub left : List ℤ
  pub left_bound : ℕ
  pub right : List ℤ
  pub right_bound : ℕ
  pub key : List ℤ
  pub scratch : List ℤ
  pub result : List ℤ

abbrev pub and_loans : Params → List ℤ → ℕ → List ℤ → ℕ → List ℤ → List ℤ → List ℤ → AndLoans
and_loans p c B1 d B2 W scratch result =
    record { p = p; left = c; left_bound = B1; right = d; right_bound = B2; key = W; scratch = scratch; result = result }

-- the bound by the formula
abbrev pub and_bound : AndLoans → ℕ
and_bound a = AND_bound a.p.n a.p.q a.p.l a.p.f a.left_bound a.right_bound

unfoldable pub and_rows : AndLoans → List Row
and_rows a =
    let n = a.p.n in
    let q = a.p.q in
    row 1 (bad_params a.p)
    ∷ row 3 (differs (length a.left) n
    || differs (length a.right) n
    || differs (length a.key) (n * (n * n))
    || differs (length a.scratch) (n * n)
    || differs (length a.result) n)
    ∷ row 6 (outside q a.left || outside q a.right || outside (q * q) a.key)
    ∷ row 8 (over_budget q a.left_bound || over_budget q a.right_bound)
    ∷ row 10 (over_budget q (and_bound a))
    ∷ []

unfoldable pub and_answer : AndLoans → Bounded
and_answer a = bounded (and_rows a) (and_bound a)

unfoldable pub and_result : AndLoans → List ℤ
and_result a = done_or (first_of (and_rows a)) (AND a.p.n a.p.q a.key a.left a.right) a.result

-- scratch is all zero after success
unfoldable pub and_scratch : AndLoans → List ℤ
and_scratch a = done_or (first_of (and_rows a)) (replicate (a.p.n * a.p.n) (pos 0)) a.scratch

pub record AndPromise (a : AndLoans) (r : Bounded) (result scratch : List ℤ) : Type 0 where
  pub answer : r ≡ and_answer a
  pub result_left : result ≡ and_result a
  pub scratch_left : scratch ≡ and_scratch a
