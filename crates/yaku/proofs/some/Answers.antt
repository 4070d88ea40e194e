-- `yaku::some` meets its contract.
use Rattle.std.proofs.Common.{◌∙◌, false, ◌||◌, rules, tests}
use Rattle.std.proofs.lemmas.Iterator.{YieldsList-from_slice}
use Rattle.std.proofs.lemmas.Iterator.Consumers.{fold_from_yields_List}
use Rattle.yaku.proofs.laws.Lists.{some_by_fold}
use Rattle.yaku.proofs.some.Goals as goal

pub returns : goal.returns
returns c =
    let l = c.args.tests.now in
    fold_from_yields_List _ ◌||◌ false c.fold.result c.fold.ensures.ran (YieldsList-from_slice l cc) (λ a x b q k. search (rules, tests)) ∙ some_by_fold l
