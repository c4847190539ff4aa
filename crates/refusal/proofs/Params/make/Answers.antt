-- `Params::make` answers the set or refusal 1, by what `in_range` ensures.
use Rattle.std.proofs.Common.{sym, ◌∙◌}
use Rattle.std.proofs.lemmas.Bool.{not-false, not-true}
use Rattle.refusal.proofs.Given.{was_true, was_false, refused_up}
use Rattle.refusal.specs.Parameters.{made, made_set, made_refused, made_values}
use Rattle.refusal.proofs.Params.make.Goals as goal

pub returns-in_err-refuse_if : goal.returns-in_err-refuse_if
unfolding made
returns-in_err-refuse_if c =
    let outside = sym c.in_range.ensures ∙ not-true _ (was_true c.refuse_if.ensures c.in_err-refuse_if.was) in
    let v = made_values _ (refused_up _ c.refuse_if.ensures c.in_err-refuse_if.was c.from_residual.ensures.1 ∙ sym (made_refused _ outside)) in
    record { value = v.0; number = v.1.0; place = v.1.1.0; params = v.1.1.1 }

pub returns : goal.returns
unfolding made
returns c =
    let inside = sym c.in_range.ensures ∙ not-false _ (was_false c.refuse_if.ensures c.in_ok-refuse_if.was) in
    let v = made_values _ (sym (made_set _ inside)) in
    record { value = v.0; number = v.1.0; place = v.1.1.0; params = v.1.1.1 }
