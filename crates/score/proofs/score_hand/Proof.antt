-- `score::score_hand` meets its contract, by what the search kept.
use borrow.Author.Rules.{rules}
use mathlib.Core.Path.{◌≡◌, ◌∙◌}
use lib.ListN.{length}
use Rattle.score.specs.search.HandScore.{kept_of}
use Rattle.score.proofs.laws.Paid.{Paid, paid_of_lem}
use Rattle.score.proofs.laws.Named.{hand_score_named}
use Rattle.score.proofs.laws.FullReading.{kept_in}
use Rattle.score.proofs.laws.Found.{basic_kept, hand_score_accepted, hand_score_seven, hand_score_six}
use Rattle.score.proofs.score_hand.Statement.{statement}
use Rattle.score.proofs.score_hand.Tie as tie

-- melds has four places
four : (c : tie.Start) → length c.args.h.held.melds ≡ 4
four c = search rules

-- the tally and the start, from what the search kept
abbrev tallied : tie.After-search_for-b → tie.After-concealed_tally-c
tallied c = c.before.before

abbrev from_searched : tie.After-search_for-b → tie.Start
from_searched c = (tallied c).before

-- what the search kept
kept : (c : tie.After-search_for-b) → let a = (from_searched c).args in c.search_for-b.result ≡ kept_of a.h a.dealer a.wind
kept c =
    let common = c.before in
    let tally = tallied c in
    let start = tally.before in
    let a = start.args in
    kept_in a.h start.requires.0 (four start) a.dealer a.wind
    common.hand_common_of-t.result tally.concealed_tally-c.result c.search_for-b.result
    common.hand_common_of-t.ensures.0 tally.concealed_tally-c.ensures c.search_for-b.ensures

-- a yakuman is paid
paid : (c : tie.Start) → Paid c.args.h c.args.dealer
paid c = paid_of_lem c.args.h c.args.dealer c.requires.1 c.requires.2 c.requires.4 c.requires.5

-- the search, from where it is known to have tried a reading
abbrev searched : tie.Then-b-gt0 → tie.After-search_for-b
searched c = c.before.before

pub score_hand_spec : {M : Type 1} → statement M
score_hand_spec =
    tie.close
    (tie.spec (λ c κs. search rules) (λ c κs. search rules)
    (λ c κs. (c.hand_common_of-t.ensures.1, c.before.before.requires.0))
    (λ c κs.
    let two = c.before.before in
    let b = searched two.before in
    let a = (from_searched b).args in
    basic_kept a.h a.dealer a.wind b.search_for-b.result (kept b))
    (λ c.
    let seats = c.before.before in
    let two = seats.before in
    let b = searched two.before in
    let common = b.before in
    let start = from_searched b in
    let a = start.args in
    hand_score_named a.h a.dealer a.wind (paid start) _
    (c.accepted.ensures ∙ hand_score_accepted a.h a.dealer a.wind b.search_for-b.result (kept b) common.hand_common_of-t.result
    common.hand_common_of-t.ensures.0 two.before.if-b-gt0.true two.if-b.true))
    (λ c κs. search rules)
    (λ c.
    let one = c.before.before in
    let b = searched one in
    let start = from_searched b in
    let a = start.args in
    hand_score_named a.h a.dealer a.wind (paid start) _
    (c.refused.ensures ∙ hand_score_seven a.h a.dealer a.wind b.search_for-b.result (kept b) one.if-b-gt0.true c.before.if-b.false))
    (λ c κs. search rules)
    (λ c.
    let none = c.before in
    let b = none.before.before in
    let start = from_searched b in
    let a = start.args in
    hand_score_named a.h a.dealer a.wind (paid start) _
    (c.refused-2.ensures ∙ hand_score_six a.h a.dealer a.wind b.search_for-b.result (kept b) none.if-b-gt0.false)))
