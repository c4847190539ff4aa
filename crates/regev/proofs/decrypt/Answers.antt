-- `regev::decrypt` refuses where its check does, and otherwise answers the bit that `decrypt_bit` ensures; `DecryptReady` gives what that asks.
use Rattle.refusal.proofs.Given.{passed_up, refused_by, done_by}
use Rattle.scheme.specs.Calls.{decrypt_loans, decrypt_rows}
use Rattle.regev.proofs.Ready.{decrypt_ready}
use Rattle.regev.proofs.Ends.{decrypt_refused, decrypt_done}
use Rattle.regev.proofs.decrypt.Goals as goal

pub returns-in_err-check_decrypt : goal.returns-in_err-check_decrypt
returns-in_err-check_decrypt c =
    let lent = decrypt_loans c.args.p c.args.s.now c.args.c.now in
    decrypt_refused lent (refused_by (decrypt_rows lent) c.check_decrypt.ensures c.in_err-check_decrypt.was) (passed_up _ c.from_residual.ensures.1)

pub of-requires : goal.of-requires
of-requires c =
    let lent = decrypt_loans c.args.p c.args.s.now c.args.c.now in
    (decrypt_ready lent (done_by (decrypt_rows lent) c.check_decrypt.ensures c.in_ok-check_decrypt.was)).modulus

pub decrypt_bit-requires : goal.decrypt_bit-requires
decrypt_bit-requires c =
    let lent = decrypt_loans c.args.p c.args.s.now c.args.c.now in
    let r = decrypt_ready lent (done_by (decrypt_rows lent) c.check_decrypt.ensures c.in_ok-check_decrypt.was) in
    (r.lengths, r.small, rw c.of.ensures r.residues)

pub returns : goal.returns
returns c =
    let lent = decrypt_loans c.args.p c.args.s.now c.args.c.now in
    decrypt_done lent (done_by (decrypt_rows lent) c.check_decrypt.ensures c.in_ok-check_decrypt.was) (rw c.of.ensures at c.decrypt_bit.ensures)
