-- `points_fu::group_items` meets its contract: each item is what its function ensures.
use Rattle.std.proofs.Common.{◌≡◌, ◌∙◌, get_or, rules}
use Rattle.yaku_basics.proofs.laws.Ways.{four}
use Rattle.points_fu.specs.Fu.{fu, group_fu}
use Rattle.points_fu.specs.search.Items.{items_by}
use Rattle.points_fu.proofs.group_items.Goals as goal

pub returns : goal.returns
unfolding items_by
returns c =
    let r = c.from_fn.result in
    let a = c.args in
    let at0 : get_or r 0 (fu 0) ≡ fu (group_fu (get_or a.g 0 0) (get_or a.ways 0 0)) = search rules in
    let at1 : get_or r 1 (fu 0) ≡ fu (group_fu (get_or a.g 1 0) (get_or a.ways 1 0)) = search rules in
    let at2 : get_or r 2 (fu 0) ≡ fu (group_fu (get_or a.g 2 0) (get_or a.ways 2 0)) = search rules in
    let at3 : get_or r 3 (fu 0) ≡ fu (group_fu (get_or a.g 3 0) (get_or a.ways 3 0)) = search rules in
    four (fu 0) r (search rules) ∙ rw (at0, at1, at2, at3)
