use Rattle.position_payments.proofs.laws.Parts.{payer_is, payer_seat}
use Rattle.position_payments.proofs.added.Goals as goal

pub additions-requires : goal.additions-requires
additions-requires c =
    let p = c.args.p in
    rw c.payer_of.ensures (p.seated.0, payer_seat p.seats.winner p.seats.discarder p.feeder p.ron p.seated.1 p.other_discarder p.other_feeder, c.requires)

pub returns : goal.returns
returns c =
    let p = c.args.p in
    rw (← payer_is p.seats.winner p.seats.discarder p.feeder p.ron c.args.n, ← c.payer_of.ensures) c.additions.ensures
