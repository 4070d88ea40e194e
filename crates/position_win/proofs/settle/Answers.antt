use Rattle.std.proofs.Common.{rules, ◌≡◌, refl, Err, sym, ap, ◌∙◌}
use Rattle.refusals.specs.Refusal.{number}
use Rattle.hand_record.specs.Record.{HandRead, refusal_in}
use Rattle.hand_record.proofs.laws.Bounds.{given_read, given_hand, given_bounds}
use Rattle.position_win.proofs.laws.Settling.{settled_unreadable}
use Rattle.position_win.proofs.settle.Goals as goal

pub returns-in_err-h : goal.returns-in_err-h
returns-in_err-h c =
    let a = c.args in
    let r = c.in_err-h.field-0.0 in
    let l : c.from_residual.result ≡ Err r = search rules in
    rw l (settled_unreadable a.p a.s.now a.n a.k c.requires.0 r (number r) refl
    (ap (λ (x : HandRead). refusal_in x.answer) (sym c.read.ensures) ∙ sym c.in_err-h.ensures.refusal))

pub settle_hand-requires : goal.settle_hand-requires
settle_hand-requires c = (
  c.requires.0,
  given_bounds c.args.s.now c.read.result c.read.ensures c.in_ok-h.ensures.refusal c.in_ok-h.ensures.hand,
  c.requires.1,
  c.requires.2,
)

pub returns : goal.returns
returns c =
    let s = c.args.s.now in
    c.settle_hand.ensures.by_index s (given_read s c.read.result c.read.ensures c.in_ok-h.ensures.refusal)
    (given_hand s c.read.result c.read.ensures c.in_ok-h.ensures.hand)
