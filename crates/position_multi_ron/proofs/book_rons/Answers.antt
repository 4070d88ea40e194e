use Rattle.std.specs.Prelude.{Err}
use Rattle.std.proofs.Common.{◌≡◌, sym, ◌∙◌, rules}
use Rattle.refusals.specs.Refusal.{number}
use Rattle.refusals.proofs.Numbers.{number_above}
use Rattle.hand_rons.specs.Records.{records_of}
use Rattle.hand_rons.proofs.laws.OneTile.{all_read}
use Rattle.hand_rons.proofs.laws.Hands.{room_for}
use Rattle.position_multi_ron.proofs.laws.Settled.{first_discarder, rons_refused, rons_accepted, rons_applied}
use Rattle.position_multi_ron.proofs.book_rons.Goals as goal

pub returns-in_err-t : goal.returns-in_err-t
returns-in_err-t c s u e =
    let a = c.args in
    let rs = records_of a.number s in
    let m = c.in_err-t.field-0.0 in
    let same : c.from_residual.result ≡ Err m = search rules in
    rw same (rons_refused a.p a.number s (number m) (c.in_err-t.ensures.by_index rs (all_read rs u) e).0 (number_above m))

pub returns : goal.returns
returns c s u e =
    let a = c.args in
    let rs = records_of a.number s in
    let all = c.in_ok-t.ensures.by_index rs (all_read rs u) e in
    let discarder = first_discarder a.number a.hands (room_for a.number a.hands s e) rs e c.requires.1 in
    let after =
    rons_applied a.p a.number s _ c.first_after-first.result c.in_ok-t.t.gives c.is_winner-dealers.result c.counter_after.result
    discarder (c.first_after-first.ensures rs e) all.1 (c.is_winner-dealers.ensures rs e) c.counter_after.ensures in
    rons_accepted a.p a.number s c.finish-after.result (sym all.0) (c.finish-after.ensures ∙ after)
