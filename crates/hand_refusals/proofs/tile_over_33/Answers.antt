use Rattle.std.specs.List.{list_any}
use Rattle.std.proofs.Common.{rules, ◌≡◌, ◌%◌, ltb, length, take}
use borrow.Author.Tests.{tests}
use Rattle.std.proofs.lemmas.Iterator.{YieldsList-from_slice}
use Rattle.std.proofs.lemmas.Iterator.Search.{any_from_yields_List}
use Rattle.hand.specs.Held.{tile_over33, others}
use Rattle.hand.proofs.laws.Used.{some_used, any_others}
use Rattle.hand_refusals.proofs.tile_over_33.Goals as goal

pub returns : goal.returns
unfolding tile_over33
returns c =
    let x = c.args.x in
    let melds : length x.melds ≡ 4 = search rules in
    let tiles : length x.concealed ≡ 13 = search rules in
    let a : c.any.result ≡ list_any (λ b. ltb 33 (b % 64)) (take x.m x.melds) =
    any_from_yields_List (λ b. ltb 33 (b % 64)) _ _ c.any.result c.any.ensures.ran (YieldsList-from_slice (take x.m x.melds) cc) (λ b r q k. search (rules, tests)) in
    let b : c.any-2.result ≡ list_any (ltb 33) (take (others x) x.concealed) =
    any_from_yields_List (ltb 33) _ _ c.any-2.result c.any-2.ensures.ran (YieldsList-from_slice (take (others x) x.concealed) cc) (λ b r q k. search (rules, tests)) in
    rw (a, b, some_used x (λ b. ltb 33 (b % 64)) melds, any_others x (ltb 33) tiles)
