-- Seats, record, claim, then the verdict.
use Rattle.std.proofs.Common.{◌≡◌, ◌∙◌, ◌≤◌, ap, ltb, ltb-false, Some, None, Err, arith, rules}
use Rattle.refusals.specs.declared.Refusal.TheVariants.{Claim}
use Rattle.refusals.specs.Refusal.{number}
use Rattle.refusals.proofs.Numbers.{number_above}
use Rattle.hand_record.specs.Record.{HandRead, refusal_in}
use Rattle.tiles.proofs.laws.Below.{or_both}
use Rattle.hand_record.proofs.laws.Bounds.{read_bounds, given_read, given_hand}
use Rattle.claim.proofs.laws.Names.{formed_of}
use Rattle.claim.proofs.laws.Exact.{some_names}
use Rattle.claim.proofs.laws.Found.{found_eight, found_refused, found_faulty, found_verdict}
use Rattle.claim.proofs.try_judge.Goals as goal

pub returns-then-dealer-wind : goal.returns-then-dealer-wind
returns-then-dealer-wind c = found_eight _ _ _ _ c.if-dealer-wind.true

pub returns-in_err-h : goal.returns-in_err-h
returns-in_err-h c =
    let r = c.in_err-h.field-0.0 in
    let l : c.from_residual.result ≡ Err r = search rules in
    rw l
    (found_refused c.args.s.now c.args.claim.now c.args.dealer c.args.wind c.if-dealer-wind.false (number r)
    (c.in_err-h.ensures.refusal ∙ ap (λ (x : HandRead). refusal_in x.answer) c.read.ensures) (λ z. omega (arith, number_above r, z)))

pub read_claim-requires : goal.read_claim-requires
read_claim-requires c =
    let s = c.args.s.now in
    let z = given_read s c.read.result c.read.ensures c.in_ok-h.ensures.refusal in
    rw (given_hand s c.read.result c.read.ensures c.in_ok-h.ensures.hand) (read_bounds s z).few

pub returns-in_err-x : goal.returns-in_err-x
returns-in_err-x c =
    let s = c.args.s.now in
    let n : c.read_claim.result ≡ None = grind arith in
    let l : c.from_residual-in_err-x.result ≡ Err Claim = search rules in
    rw l
    (found_faulty s c.args.claim.now c.args.dealer c.args.wind c.if-dealer-wind.false (given_read s c.read.result c.read.ensures c.in_ok-h.ensures.refusal)
    c.in_ok-h.h (given_hand s c.read.result c.read.ensures c.in_ok-h.ensures.hand) c.read_claim.result c.read_claim.ensures n)

pub verdict-requires : goal.verdict-requires
verdict-requires c =
    let s = c.args.s.now in
    let q = or_both (ltb 3 c.args.dealer) (ltb 1 c.args.wind) c.if-dealer-wind.false in
    let z = given_read s c.read.result c.read.ensures c.in_ok-h.ensures.refusal in
    let h = given_hand s c.read.result c.read.ensures c.in_ok-h.ensures.hand in
    let few : c.in_ok-h.h.held.m ≤ 4 = rw h (read_bounds s z).few in
    let n : c.read_claim.result ≡ Some c.in_ok-x.x = grind arith in (
      few,
      rw h (read_bounds s z).winner,
      ltb-false 3 c.args.dealer q.0,
      ltb-false 1 c.args.wind q.1,
      formed_of _ c.args.claim.now few (some_names _ c.args.claim.now few c.read_claim.result c.read_claim.ensures c.in_ok-x.x n),
    )

pub returns : goal.returns
returns c =
    let s = c.args.s.now in
    let n : c.read_claim.result ≡ Some c.in_ok-x.x = grind arith in
    found_verdict s c.args.claim.now c.args.dealer c.args.wind c.if-dealer-wind.false (given_read s c.read.result c.read.ensures c.in_ok-h.ensures.refusal)
    c.in_ok-h.h (given_hand s c.read.result c.read.ensures c.in_ok-h.ensures.hand) c.read_claim.result c.read_claim.ensures c.in_ok-x.x c.verdict.result n
    c.verdict.ensures
