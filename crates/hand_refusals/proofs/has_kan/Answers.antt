use Rattle.std.specs.List.{list_any}
use Rattle.std.proofs.Common.{rules, ◌≡◌, ◌/◌, leb, length, take, ◌∙◌}
use borrow.Author.Tests.{tests}
use Rattle.std.proofs.lemmas.Iterator.{YieldsList-from_slice}
use Rattle.std.proofs.lemmas.Iterator.Search.{any_from_yields_List}
use Rattle.hand.proofs.laws.Used.{some_used}
use Rattle.hand_refusals.proofs.has_kan.Goals as goal

pub returns : goal.returns
returns c =
    let x = c.args.x in
    let melds : length x.melds ≡ 4 = search rules in
    let a : c.any.result ≡ list_any (λ b. leb 2 (b / 64)) (take x.m x.melds) =
    any_from_yields_List (λ b. leb 2 (b / 64)) _ _ c.any.result c.any.ensures.ran (YieldsList-from_slice (take x.m x.melds) cc)
    (λ b r q k. search (rules, tests)) in
    a ∙ some_used x (λ b. leb 2 (b / 64)) melds
