-- `render` puts the text at the front, for which there is room (`text_front`).
use Rattle.std.proofs.Common.{◌≤◌, length, sym, ap, ◌∙◌, arith}
use Rattle.std.proofs.lemmas.List.{length-take-le}
use Rattle.circuitfile.specs.Text.{Printed}
use Rattle.circuitfile.proofs.Lines.{bytes_answered, text_front}
use Rattle.budget.proofs.render.Goals as goal

pub returns-clause-out_after : goal.returns-clause-out_after
returns-clause-out_after c =
    let f = text_front c.args.file.now c.args.out.now (omega (arith, c.text.ensures.length_high)) in
    let long = c.unwrap_or.ensures ∙ bytes_answered c.text.result ∙ ap (λ (a : Printed). a.bytes) c.text.ensures.promise.answer in
    rw (long, c.text.ensures.promise.buffer_left) f.1

pub returns-clause-prefix_len : goal.returns-clause-prefix_len
returns-clause-prefix_len c =
    let f = text_front c.args.file.now c.args.out.now (omega (arith, c.text.ensures.length_high)) in
    let long = c.unwrap_or.ensures ∙ bytes_answered c.text.result ∙ ap (λ (a : Printed). a.bytes) c.text.ensures.promise.answer in
    let within : c.unwrap_or.result ≤ length c.text.new.out = rw (long, c.text.ensures.promise.buffer_left) f.0 in
    (within, sym (length-take-le _ _ within))
