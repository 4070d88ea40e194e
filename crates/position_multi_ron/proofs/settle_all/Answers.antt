use Rattle.std.specs.Prelude.{Err}
use Rattle.std.proofs.Common.{◌≡◌, ℕ, ◌<◌, ◌≤◌, List, length, get_or, take, ◌∙◌, arith, rules}
use Rattle.std.proofs.lemmas.List.{get_or-take, length-take-le}
use Rattle.hand.specs.declared.Hand.{Hand}
use Rattle.hand_rons.proofs.laws.Hands.{blank}
use Rattle.position.proofs.laws.Form.{few_sticks}
use Rattle.position.proofs.laws.Sums.{gifts_small}
use Rattle.position_multi_ron.proofs.laws.Settled.{given_small, given_all, given_refused, given_more}
use Rattle.position_multi_ron.proofs.settle_all.Goals as goal

-- the loop goes over the first k of the hands, which are as many as there are records
module _ (hs : List Hand) (number k i : ℕ) (three : length hs ≡ 3) (few : number ≤ 3) (e : k ≡ number) where
  inside : i < length (take k hs) → i < number
  inside l = omega (arith, length-take-le k hs (omega arith))

  past : length (take k hs) ≤ i → number ≤ i
  past l = omega (arith, length-take-le k hs (omega arith))

  at : i < number → get_or (take k hs) i blank ≡ get_or hs i blank
  at l = get_or-take k hs i blank (omega arith)

pub settle_hand-settled-requires : goal.settle_hand-settled-requires
settle_hand-settled-requires c =
    let a = c.args in
    let i = c.loop-h.h-index in
    let three : length a.hands ≡ 3 = search rules in
    let l = inside a.hands a.number c.from.result i three c.requires.1 c.from.ensures c.loop-h-test.true in
    let o = c.requires.0 in (
      o,
      rw (at a.hands a.number c.from.result i three c.requires.1 c.from.ensures l) (c.requires.2 i l),
      omega (arith, c.to_foremost.ensures.1, o.form.counter, o.hands),
      omega (arith, c.to_foremost-in-loop-h.ensures.1, few_sticks c.args.p o.form),
    )

pub returns-in_err-settled-clause-by_index : goal.returns-in_err-settled-clause-by_index
returns-in_err-settled-clause-by_index c rs r e =
    let a = c.args in
    let w = c.loop-h in
    let three : length a.hands ≡ 3 = search rules in
    let room : a.number ≤ length a.hands = omega (arith, three, c.requires.1) in
    let l = inside a.hands a.number c.from.result w.h-index three c.requires.1 c.from.ensures c.loop-h-test.true in
    let same_hand = at a.hands a.number c.from.result w.h-index three c.requires.1 c.from.ensures l in
    let m = c.in_err-settled.field-0.0 in
    let same : c.from_residual.result ≡ Err m = search rules in
    rw same (given_refused a.p a.first a.number a.hands w.by w.h-index c.requires.1 room w.invariant
    l c.to_foremost.result c.to_foremost-in-loop-h.result (rw same_hand at c.to_foremost.ensures.0)
    (rw same_hand at c.to_foremost-in-loop-h.ensures.0) c.settle_hand-settled.result
    (λ s y z. c.settle_hand-settled.ensures.by_index s y (same_hand ∙ z)) rs r e m c.in_err-settled.was)

pub pay-by-requires : goal.pay-by-requires
pay-by-requires c =
    let a = c.args in
    let w = c.loop-h in
    let three : length a.hands ≡ 3 = search rules in
    let room : a.number ≤ length a.hands = omega (arith, three, c.requires.1) in
    (given_small a.p a.first a.number a.hands w.by w.h-index c.requires.1 room w.invariant, gifts_small c.in_ok-settled.field-0.gives c.in_ok-settled.ensures.gifts)

pub loop-h-preserved : goal.loop-h-preserved
loop-h-preserved c =
    let a = c.args in
    let w = c.loop-h in
    let three : length a.hands ≡ 3 = search rules in
    let room : a.number ≤ length a.hands = omega (arith, three, c.requires.1) in
    let l = inside a.hands a.number c.from.result w.h-index three c.requires.1 c.from.ensures c.loop-h-test.true in
    let same_hand = at a.hands a.number c.from.result w.h-index three c.requires.1 c.from.ensures l in
    given_more a.p a.first a.number a.hands w.by w.h-index c.requires.1 room w.invariant
    l c.to_foremost.result c.to_foremost-in-loop-h.result (rw same_hand at c.to_foremost.ensures.0)
    (rw same_hand at c.to_foremost-in-loop-h.ensures.0) c.settle_hand-settled.result
    (λ s y z. c.settle_hand-settled.ensures.by_index s y (same_hand ∙ z)) c.in_ok-settled.field-0 c.in_ok-settled.was c.in_ok-settled.ensures.gifts
    c.pay-by.result c.pay-by.ensures

pub returns-clause-by_index : goal.returns-clause-by_index
returns-clause-by_index c =
    let a = c.args in
    let w = c.loop-h in
    let three : length a.hands ≡ 3 = search rules in
    let room : a.number ≤ length a.hands = omega (arith, three, c.requires.1) in
    given_all a.p a.first a.number a.hands w.by w.h-index c.requires.1 room w.invariant
    (past a.hands a.number c.from.result w.h-index three c.requires.1 c.from.ensures c.loop-h-test.false)
