use Rattle.std.proofs.Common.{rules, ◌≡◌, List, ℕ, length, eqb, get_or, take, ◌∙◌, ap}
use Rattle.tiles.specs.Below.{count_below}
use Rattle.tiles.specs.Tally.{tally_of}
use Rattle.tiles.proofs.laws.Tally.{tally_ext, get_d_tally}
use Rattle.hand.specs.Held.{others, in_others}
use Rattle.hand.proofs.laws.Used.{others_used}
use Rattle.hand.proofs.others_tally.Goals as goal

pub returns : goal.returns
returns c =
    let x = c.args.x in
    let long : length x.concealed ≡ 13 = search rules in
    let is : c.tally_of.result ≡ tally_of (λ k. count_below (length (take (others x) x.concealed)) (λ i. eqb (get_or (take (others x) x.concealed) i 0) k)) =
    c.tally_of.ensures ∙ ap (λ (t : List ℕ). tally_of (λ k. count_below (length t) (λ i. eqb (get_or t i 0) k))) c.concealed.ensures in
    tally_ext c.tally_of.result (in_others x) (search rules)
    (λ k g. ap (λ (t : List ℕ). get_or t k 0) is ∙ get_d_tally _ k g ∙ others_used x k long)
