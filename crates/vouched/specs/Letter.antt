-- **From key to letter**: what the firm prints. Whatever key, masks, errors and bits are lent: where the switching key maker, the encryption of each input and the
-- evaluation of a circuit on what they wrote have answered 0, decryption of any wire answers 0 and the circuit's plaintext bit of that wire. The statement cites the promises
-- of the four calls alone; its proof is `key_to_letter` of the file Lettered.
use Rattle.std.specs.Prelude.{◌≡◌, List, ℕ, ◌+◌, ◌<◌, ℤ, length, get_or}
use Rattle.refusal.specs.declared.Params.{Params}
use Rattle.refusal.specs.Answer.{Answer}
use Rattle.scheme.specs.Calls.{Bounded, Decrypted, make_key_loans, MakeKeyPromise, encrypt_loans, EncryptPromise, decrypt_loans, DecryptPromise, decrypts_to}
use Rattle.circuit.specs.Circuits.{Circuit, bits_of}
use Rattle.circuit.specs.Plan.{plan_loans}
use Rattle.circuit.specs.Evaluate.{evaluate_loans, EvaluatePromise}
use Rattle.vouched.specs.Demand3.{wire_at}

-- the switching key maker was lent the key s, some masks and errors and a buffer, answered 0 and left W
pub record KeyMade (p : Params) (s W : List ℤ) : Type 0 where
  pub masks : List ℤ
  pub errors : List ℤ
  pub found : List ℤ
  pub answer : Answer
  pub promise : MakeKeyPromise (make_key_loans p s masks errors found) answer W
  pub done : answer.number ≡ 0

-- encryption was lent the key s, the bit b, some mask and error and a buffer, answered 0 and the bound B, and left c
pub record InputEncrypted (p : Params) (s : List ℤ) (b : ℕ) (c : List ℤ) (B : ℕ) : Type 0 where
  pub mask : List ℤ
  pub error : ℤ
  pub found : List ℤ
  pub answer : Bounded
  pub promise : EncryptPromise (encrypt_loans p s b mask error found) answer c
  pub done : answer.number ≡ 0
  pub states : answer.bound ≡ B

-- evaluation was lent a circuit, wires and bounds, the switching key W and some scratch, answered 0 and left the wires `out`
pub record CircuitEvaluated (p : Params) (inputs : ℕ) (circuit : Circuit) (wires : List ℤ) (Bs : List ℕ) (W out : List ℤ) : Type 0 where
  pub scratch : List ℤ
  pub answer : Answer
  pub bounds : List ℕ
  pub cleared : List ℤ
  pub promise : EvaluatePromise (evaluate_loans (plan_loans p inputs circuit Bs) wires W scratch) answer out bounds cleared
  pub done : answer.number ≡ 0

-- for every key s, plaintext bits of the inputs and circuit, and every switching key W, wires and bounds Bs at entry and wires `out` at exit
abbrev pub KeyToLetter : Type 0
KeyToLetter =
    (p : Params) (s : List ℤ) (bits : List ℕ) (circuit : Circuit) (W wires : List ℤ) (Bs : List ℕ) (out : List ℤ)
    → KeyMade p s W
    → ((i : ℕ) → i < length bits → InputEncrypted p s (get_or bits i 0) (wire_at p.n wires i) (get_or Bs i 0))
    → CircuitEvaluated p (length bits) circuit wires Bs W out
    → (j : ℕ) → j < length bits + length circuit.gates
    → (d : Decrypted) → DecryptPromise (decrypt_loans p s (wire_at p.n out j)) d
    → d ≡ decrypts_to (get_or (bits_of circuit.gates bits) j 0)
