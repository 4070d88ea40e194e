use Rattle.std.proofs.Common.{◌≡◌, ℕ, ◌+◌, ◌/◌, ◌≤◌, Bool, true, cond, eqb, ℤ, pos, neg_ℤ, ◌∙◌, arith, rules}
use Rattle.score.proofs.laws.Z.{Within}
use Rattle.position.specs.Ledger.{paid_by_others, whole_of}
use Rattle.position.proofs.laws.Bounds.{most_change}
use Rattle.position.proofs.laws.Owed.{whole_even}
use Rattle.position_payments.specs.search.Parts.{pao_pays}
use Rattle.position_payments.proofs.laws.Parts.{pao_at}
use Rattle.position.proofs.laws.Sums.{four_seats}
use Rattle.position_payments.proofs.pao_gives.Goals as goal

-- what a seat owes, and what it is given by that, is its part
module _ (w d f : ℕ) (ron dealers : Bool) (other : w ≡ f → ⊥) (own : ron ≡ true → w ≡ d → ⊥) (g : f ≤ 3) (l : d ≤ 3) where
  part : (i : ℕ) → cond (eqb i w) (pos (whole_of dealers))
      (neg_ℤ (pos (cond ron (cond (eqb i f) (whole_of dealers / 2) 0 + cond (eqb i d) (whole_of dealers / 2) 0) (cond (eqb i f) (whole_of dealers) 0))))
      ≡ paid_by_others w (pao_pays d f ron (whole_of dealers)) i
  part i = rw (whole_even dealers) (pao_at w d f (cond dealers 24000 16000) ron (omega arith) other (λ r. omega arith) own i)

pub returns : goal.returns
returns c =
    let p = c.args.p in
    let w = p.seats.winner in
    let d = p.seats.discarder in
    let f = c.args.feeder in
    let dealers = eqb w p.seats.dealer in
    let r = c.requires in
    let seat = part w d f p.ron dealers r.1 p.other_discarder r.0 p.seated.1 in
    let whole : c.whole_of-whole.result.0 ≡ whole_of dealers = c.whole_of-whole.ensures.0 in
    let e = c.each_seat.ensures in
    let P : ℕ → ℤ → Type 0 = λ i y.
    (y ≡ cond (eqb i w) (pos (whole_of dealers))
    (neg_ℤ (pos (cond p.ron (cond (eqb i f) (whole_of dealers / 2) 0 + cond (eqb i d) (whole_of dealers / 2) 0) (cond (eqb i f) (whole_of dealers) 0)))))
    × Within y most_change in
    let p0 : P 0 e.0 = rw (← whole) (search rules) in
    let p1 : P 1 e.1 = rw (← whole) (search rules) in
    let p2 : P 2 e.2 = rw (← whole) (search rules) in
    let p3 : P 3 e.3 = rw (← whole) (search rules) in
    four_seats most_change c.each_seat.result e.0 e.1 e.2 e.3 (paid_by_others w (pao_pays d f p.ron (whole_of dealers))) e.8
    (p0.0 ∙ seat 0, p0.1) (p1.0 ∙ seat 1, p1.1) (p2.0 ∙ seat 2, p2.1) (p3.0 ∙ seat 3, p3.1)
