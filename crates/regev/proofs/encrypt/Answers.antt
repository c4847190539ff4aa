-- `regev::encrypt` refuses where its check does, with the buffer as found, and otherwise answers the bound E with the ciphertext that `encrypt_into` ensures;
-- `EncryptIntoReady` is what that asks.
use Rattle.std.proofs.Common.{refl, to_z-of_z}
use Rattle.refusal.proofs.Given.{passed_up, refused_by, done_by}
use Rattle.scheme.specs.Calls.{encrypt_loans, encrypt_rows}
use Rattle.regev.proofs.Ready.{encrypt_ready}
use Rattle.regev.proofs.Ends.{encrypt_refused, encrypt_done}
use Rattle.regev.proofs.encrypt.Goals as goal

pub returns-in_err-check_encrypt : goal.returns-in_err-check_encrypt
returns-in_err-check_encrypt c =
    let lent = encrypt_loans c.args.p c.args.s.now c.args.bit c.args.mask.now c.args.error c.args.out.now in
    encrypt_refused lent
    (refused_by (encrypt_rows lent) (simp (to_z-of_z c.ranges.error) at c.check_encrypt.ensures) c.in_err-check_encrypt.was)
    (passed_up _ c.from_residual.ensures.1)

pub of-requires : goal.of-requires
of-requires c =
    let lent = encrypt_loans c.args.p c.args.s.now c.args.bit c.args.mask.now c.args.error c.args.out.now in
    (encrypt_ready lent (done_by (encrypt_rows lent) (simp (to_z-of_z c.ranges.error) at c.check_encrypt.ensures) c.in_ok-check_encrypt.was)).modulus

pub encrypt_into-requires : goal.encrypt_into-requires
encrypt_into-requires c =
    let lent = encrypt_loans c.args.p c.args.s.now c.args.bit c.args.mask.now c.args.error c.args.out.now in
    rw (to_z-of_z c.ranges.error, c.of.ensures)
    (encrypt_ready lent (done_by (encrypt_rows lent) (simp (to_z-of_z c.ranges.error) at c.check_encrypt.ensures) c.in_ok-check_encrypt.was)).into

pub returns : goal.returns
returns c =
    let lent = encrypt_loans c.args.p c.args.s.now c.args.bit c.args.mask.now c.args.error c.args.out.now in
    encrypt_done lent (done_by (encrypt_rows lent) (simp (to_z-of_z c.ranges.error) at c.check_encrypt.ensures) c.in_ok-check_encrypt.was)
    refl (simp (to_z-of_z c.ranges.error, c.of.ensures) at c.encrypt_into.ensures)
