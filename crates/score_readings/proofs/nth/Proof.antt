-- `score_readings::nth` meets its contract: seats, record, then the hand.
use borrow.Author.Rules.{rules}
use mathlib.Core.Path.{ap, ◌∙◌}
use borrow.Author.Tests.{ltb-false}
use lib.Dec.{ltb}
use Rattle.tiles.proofs.laws.Below.{or_both}
use Rattle.hand_record.specs.Record.{answer_of, numbered}
use Rattle.hand_record.proofs.laws.Bounds.{hand_bounds, number_is}
use Rattle.score_readings.proofs.laws.Found.{found_eight, found_refused, found_sound}
use Rattle.score_readings.proofs.laws.Claims.{both}
use Rattle.score_readings.proofs.nth.Statement.{statement}
use Rattle.score_readings.proofs.nth.Tie as tie

pub nth_spec : {M : Type 1} → statement M
nth_spec =
    tie.close
    (tie.spec (λ c κs. search rules)
    (λ c.
    let then1 = c.before in let a = then1.before.before.args in
    both a.s.now a.dealer a.wind a.n _ (c.refused.ensures ∙ found_eight _ _ _ _ then1.if-dealer-wind.true))
    (λ c κs. search rules) (λ c. search rules) (λ c. search rules) (λ c κs. search rules) (λ c κs. search rules)
    (λ c.
    let told = c.before.before in let r = told.before in
    let else1 = r.before in let a = else1.before.before.args in
    both a.s.now a.dealer a.wind a.n _
    (found_refused a.s.now a.dealer a.wind (numbered r.read-r.result) else1.if-dealer-wind.false r.read-r.ensures a.n
    _ c.before.number.result c.refused-in_default.result (ap answer_of told.in_default.is) (c.before.number.ensures.0 ∙ number_is _) c.refused-in_default.ensures))
    (λ c κs.
    let sound = c.before in let r = sound.before in
    let else1 = r.before in let a = else1.before.before.args in
    let q = or_both (ltb 3 a.dealer) (ltb 1 a.wind) else1.if-dealer-wind.false in
    let b = hand_bounds a.s.now (numbered r.read-r.result) r.read-r.ensures _ (ap answer_of sound.in-Ok.is) in
    (b.few, b.winner, ltb-false 3 a.dealer q.0, ltb-false 1 a.wind q.1, b.discarder, b.other))
    (λ c.
    let held = c.before in let sound = held.before in let r = sound.before in
    let else1 = r.before in let a = else1.before.before.args in
    both a.s.now a.dealer a.wind a.n _
    (found_sound a.s.now a.dealer a.wind (numbered r.read-r.result) else1.if-dealer-wind.false r.read-r.ensures a.n
    _ c.nth_hand.result (ap answer_of sound.in-Ok.is) c.nth_hand.ensures)))
