-- Sound, or refused with a hand that is all zero.
use Rattle.std.proofs.Common.{◌≡◌, sym, ap, ◌∙◌, arith}
use Rattle.hand.specs.declared.Hand.{Hand}
use Rattle.hand.proofs.laws.Default.{default_hand}
use Rattle.hand_record.specs.Record.{read_of, read_hand_of, refusal_in, hand_of, refused_with, HandRead}
use Rattle.hand_record.proofs.laws.Bounds.{refused_hand}
use Rattle.hand_record.proofs.read_hand.Goals as goal

pub returns-in-Ok : goal.returns-in-Ok
unfolding read_hand_of
returns-in-Ok c = let e = c.in-Ok.ensures in rw (← c.read.ensures, ← e.hand, ← e.refusal)

pub returns-in-Err : goal.returns-in-Err
unfolding read_hand_of
returns-in-Err c =
    let zero : c.default.result ≡ hand_of (refused_with 0) = default_hand c.default.result c.default.ensures in
    let number : c.from.result ≡ refusal_in (read_of c.args.s.now).answer =
    c.from.ensures.value ∙ c.in-Err.ensures.refusal ∙ ap (λ (r : HandRead). refusal_in r.answer) c.read.ensures in
    rw (← number) (ap (λ (h : Hand). record { refusal = c.from.result; hand = h })
    (zero ∙ sym (refused_hand c.args.s.now (omega (arith, number, c.from.ensures.bounds)))))
