-- `guard::all_up_to`: the pass is the library's, and `every` says the same (`every_all`). Assumes nothing.
use Rattle.std.proofs.Common.{◌∙◌, rules, tests}
use Rattle.std.proofs.lemmas.Iterator.{YieldsList-from_slice}
use Rattle.std.proofs.lemmas.Iterator.Search.{all_from_yields_List}
use Rattle.whole.specs.Lists.{every_all}
use Rattle.edges.specs.Guard.{is_up_to}
use Rattle.edges.proofs.guard.all_up_to.Goals as goal

pub returns : goal.returns
returns c =
    all_from_yields_List (is_up_to c.args.most) _ _ _ c.all.ensures.ran (YieldsList-from_slice c.args.xs.now cc) (λ x b q k. search (rules, tests))
    ∙ every_all _ c.args.xs.now
