-- `score_readings::count_hand` meets its contract: a search for the first reading goes through them all.
use borrow.Author.Rules.{rules}
use native.Mathlib.Omega.{arith}
use lib.ListN.{length}
use mathlib.Core.Path.{◌≡◌}
use Rattle.score.proofs.laws.FullReading.{search_in}
use Rattle.score_readings.proofs.laws.Found.{counts_all}
use Rattle.score_readings.proofs.count_hand.Statement.{statement}
use Rattle.score_readings.proofs.count_hand.Tie as tie

-- melds has four places
four : (c : tie.Start) → length c.args.h.held.melds ≡ 4
four c = search rules

pub count_hand_spec : {M : Type 1} → statement M
count_hand_spec =
    tie.close
    (tie.spec (λ c κs. search rules) (λ c κs. search rules)
    (λ c κs. (c.hand_common_of-t.ensures.1, c.before.before.requires.0))
    (λ c.
    let t = c.before in
    let y = t.before in
    let start = y.before in
    let a = start.args in
    counts_all a.h a.dealer a.wind 1 (omega arith) c.search_for-b.result
    (search_in a.h start.requires.0 (four start) a.dealer a.wind t.hand_common_of-t.result y.concealed_tally-c.result c.search_for-b.result
    t.hand_common_of-t.ensures.0 y.concealed_tally-c.ensures 1 c.search_for-b.ensures)))
