-- `yaku_groups::in_three_suits` meets its contract: the groups in turn.
use Rattle.std.proofs.Common.{◌≡◌, ◌∙◌, ℕ, ◌+◌, Bool, ◌&&◌, leb, ltb, rules, tests}
use Rattle.std.specs.List.{list_any}
use Rattle.std.proofs.lemmas.Iterator.{YieldsList-from_slice}
use Rattle.std.proofs.lemmas.Iterator.Search.{any_from_yields_List}
use Rattle.yaku_basics.specs.Tests.{has}
use Rattle.yaku_basics.proofs.laws.Suits.{groups_in_turn}
use Rattle.yaku_basics.proofs.laws.Ways.{any_four}
use Rattle.yaku_groups.proofs.in_three_suits.Goals as goal

pub returns : goal.returns
returns c =
    let low : ℕ = c.args.low in
    let g = c.args.g in
    let test : ℕ → Bool = λ k. leb low k && ltb k (low + 9) && has g (k + 9) && has g (k + 18) in
    let found : c.any.result ≡ list_any test g =
    any_from_yields_List test _ _ c.any.result c.any.ensures.ran (YieldsList-from_slice g cc) (λ x b q k. search (rules, tests)) in
    found ∙ any_four test g (search rules) ∙ groups_in_turn low g
