use Rattle.std.specs.List.{list_all}
use Rattle.std.proofs.Common.{rules, ◌≡◌, ◌/◌, eqb, length, take, ◌∙◌}
use Rattle.std.proofs.lemmas.Iterator.{YieldsList-from_slice}
use Rattle.std.proofs.lemmas.Iterator.Search.{all_from_yields_List}
use Rattle.hand.proofs.laws.Used.{each_used}
use Rattle.hand.proofs.is_closed.Goals as goal

pub returns : goal.returns
returns c =
    let x = c.args.x in
    let long : length x.melds ≡ 4 = search rules in
    let all : c.all.result ≡ list_all (λ b. eqb (b / 64) 3) (take x.m x.melds) =
    all_from_yields_List (λ b. eqb (b / 64) 3) _ _ _ c.all.ensures.ran (YieldsList-from_slice (take x.m x.melds) cc) (λ b r q k. search rules) in
    all ∙ each_used x (λ b. eqb (b / 64) 3) long
