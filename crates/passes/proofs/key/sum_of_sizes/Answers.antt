-- `key::sum_of_sizes`: `sizes` recurses as the library's sum_by does.
use Rattle.std.proofs.Common.{◌≡◌, ◌∙◌, sym, refl, arith, rules, nat_abs}
use Rattle.std.proofs.lemmas.Iterator.{YieldsList-from_slice, YieldsList-from_map}
use Rattle.std.proofs.lemmas.Iterator.Consumers.{YieldsList-at, sum_by_from_yields_List}
use Rattle.std.proofs.lemmas.List.Recursion.{is_sum_by}
use Rattle.whole.specs.Inner.{sizes}
use Rattle.passes.proofs.key.sum_of_sizes.Goals as goal

pub returns : goal.returns
unfolding sizes
returns c =
    let e : c.sum.result ≡ sizes c.args.s.now =
    sum_by_from_yields_List nat_abs c.args.s.now c.map.result _ c.sum.ensures.ran
    (YieldsList-from_map _ nat_abs (YieldsList-at c.map.ensures.source (YieldsList-from_slice _ cc)) c.map.ensures.closure (λ x r q k. search rules))
    ∙ sym (is_sum_by sizes nat_abs refl (λ _ _. refl) c.args.s.now) in
    omega (arith, e)
