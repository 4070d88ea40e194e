use Rattle.std.specs.List.{list_any}
use Rattle.std.proofs.Common.{rules, ◌≡◌, ◌/◌, ◌%◌, ◌&&◌, not, eqb, length, take, ◌∙◌}
use borrow.Author.Tests.{tests}
use Rattle.std.proofs.lemmas.Iterator.{YieldsList-from_slice}
use Rattle.std.proofs.lemmas.Iterator.Search.{any_from_yields_List}
use Rattle.tiles.specs.Kinds.{is_run_start}
use Rattle.hand.proofs.laws.Used.{some_used}
use Rattle.hand_refusals.proofs.chi_without_run.Goals as goal

pub returns : goal.returns
returns c =
    let x = c.args.x in
    let melds : length x.melds ≡ 4 = search rules in
    let a : c.any.result ≡ list_any (λ b. eqb (b / 64) 0 && not (is_run_start (b % 64))) (take x.m x.melds) =
    any_from_yields_List (λ b. eqb (b / 64) 0 && not (is_run_start (b % 64))) _ _ c.any.result c.any.ensures.ran (YieldsList-from_slice (take x.m x.melds) cc)
    (λ b r q k. search (rules, tests)) in
    a ∙ some_used x (λ b. eqb (b / 64) 0 && not (is_run_start (b % 64))) melds
