-- `text` copies the text to the lent buffer where it has room for it.
use Rattle.std.proofs.Common.{ap, ◌∙◌, length, arith}
use Rattle.circuitfile.proofs.Lines.{text_short, text_fits}
use Rattle.text.proofs.text.Goals as goal

pub returns-then-out-text-clause-promise : goal.returns-then-out-text-clause-promise
returns-then-out-text-clause-promise c =
    let e = c.text-text.ensures.text ∙ c.put_text.ensures in
    text_short c.args.file.now c.args.out.now (omega (arith, ap length e, c.if-out-text.true))

pub returns-clause-promise : goal.returns-clause-promise
returns-clause-promise c =
    let e = c.text-text.ensures.text ∙ c.put_text.ensures in
    rw (c.copy_from_slice.ensures.after, e) (text_fits c.args.file.now c.args.out.now (omega (arith, ap length e, c.if-out-text.false)))
