use Rattle.std.specs.Prelude.{◌≡◌, is_some, unwrap_or, cond, ℕ, ◌*◌, eqb, ℤ, pos, neg_ℤ}
use Rattle.std.proofs.Common.{◌∙◌, rules}
use Rattle.score.proofs.laws.Z.{Within}
use Rattle.position.specs.Ledger.{paid_by_others}
use Rattle.position.proofs.laws.Bounds.{most_change}
use Rattle.position_payments.specs.search.Parts.{repeat_pays}
use Rattle.position.proofs.laws.Sums.{four_seats}
use Rattle.position_payments.proofs.laws.Parts.{added_at, payer_small, payer_other}
use Rattle.position_payments.proofs.additions.Goals as goal

pub returns : goal.returns
returns c =
    let a = c.args in
    let r = c.requires in
    let d = unwrap_or a.payer 0 in
    let alone = is_some a.payer in
    let seat = added_at a.winner d alone a.n r.0 (payer_small a.winner a.payer r.1) (payer_other a.winner a.payer r.1) in
    let e = c.each_seat.ensures in
    let P : ℕ → ℤ → Type 0 = λ i y.
    (y ≡ cond (eqb i a.winner) (pos (300 * a.n)) (neg_ℤ (pos (cond alone (cond (eqb i d) (300 * a.n) 0) (100 * a.n))))) × Within y most_change in
    let p0 : P 0 e.0 = search rules in
    let p1 : P 1 e.1 = search rules in
    let p2 : P 2 e.2 = search rules in
    let p3 : P 3 e.3 = search rules in
    four_seats most_change c.each_seat.result e.0 e.1 e.2 e.3 (paid_by_others a.winner (repeat_pays d alone a.n)) e.8
    (p0.0 ∙ seat 0, p0.1) (p1.0 ∙ seat 1, p1.1) (p2.0 ∙ seat 2, p2.1) (p3.0 ∙ seat 3, p3.1)
