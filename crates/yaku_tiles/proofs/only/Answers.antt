-- `yaku_tiles::only` meets its contract.
use Rattle.std.proofs.Common.{◌∙◌, rules, tests}
use Rattle.std.proofs.lemmas.Iterator.{YieldsList-from_slice, YieldsList-from_zip}
use Rattle.std.proofs.lemmas.Iterator.Search.{all_from_yields_List}
use Rattle.yaku_tiles.proofs.laws.Sorts.{in_set, all_in_set}
use Rattle.yaku_tiles.proofs.only.Goals as goal

pub returns : goal.returns
returns c =
    let x = c.args.x in
    let set = c.args.set in
    all_from_yields_List in_set c.all.new.self _ c.all.result c.all.ensures.ran (YieldsList-from_zip (YieldsList-from_slice x cc) (YieldsList-from_slice set cc)) (λ p b q k. search (rules, tests))
    ∙ all_in_set 9 x set (search rules) (search rules)
