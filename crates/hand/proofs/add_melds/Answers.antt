-- Each meld adds up to four tiles of a kind, and there are up to four melds.
use Rattle.std.proofs.Common.{rules, ◌≡◌, ℕ, length, length-take, take, ◌∙◌, ap, get_or, ◌+◌, ◌<◌, List, arith}
use Rattle.tiles.proofs.laws.Tally.{tally_bound}
use Rattle.hand.proofs.laws.Used.{melds_used, melds_most}
use Rattle.hand.proofs.add_melds.Goals as goal

pub add_meld-more-requires : goal.add_meld-more-requires
add_meld-more-requires c k =
    let x = c.args.x in
    let l = c.loop-b in
    let long : length x.melds ≡ 4 = search rules in
    let items : length c.melds-b-items.result.now ≡ length (take x.m x.melds) = ap (λ (t : List ℕ). length t) c.melds-b-items.ensures in
    let few : l.b-index < 4 = omega (arith, items, length-take x.m x.melds, c.loop-b-test.true) in
    tally_bound l.sum l.invariant.0 240 (λ j g. omega (arith, l.invariant.1 j g, c.requires j, melds_most x j l.b-index)) k

pub returns : goal.returns
returns c k g =
    let x = c.args.x in
    let l = c.loop-b in
    let long : length x.melds ≡ 4 = search rules in
    let items : length c.melds-b-items.result.now ≡ length (take x.m x.melds) = ap (λ (t : List ℕ). length t) c.melds-b-items.ensures in
    l.invariant.1 k g
    ∙ ap (λ (n : ℕ). get_or c.args.t k 0 + n) (melds_used x k l.b-index long (omega (arith, items, l.auto.b-index-end, c.loop-b-test.false)))
