use Rattle.std.proofs.Common.{◌≡◌, ℕ, ◌*◌, cond, eqb, ℤ, pos, ◌+ℤ◌, get_or, ◌∙◌, arith, rules}
use Rattle.score.proofs.laws.Z.{Within}
use Rattle.position.proofs.laws.Bounds.{most_change, most_gift}
use Rattle.position.proofs.laws.Sums.{B32, held, four_seats}
use Rattle.position_payments.proofs.winnings.Goals as goal

same : (z : ℤ) → Within z most_change → B32 z ≡ z
same z w = held z (omega arith, omega arith)

-- what a call gives, of a change and an addition as they stand in 32 bits
given : (z a s y : ℤ) → Within z most_change → Within a most_change → y ≡ B32 z +ℤ B32 a +ℤ s → y ≡ z +ℤ a +ℤ s
given z a s y v w e = e ∙ rw (same z v, same a w)

pub returns : goal.returns
returns c =
    let p = c.requires in
    let z = λ (i : ℕ). get_or c.args.c i (pos 0) in
    let a = λ (i : ℕ). get_or c.args.a i (pos 0) in
    let s = λ (i : ℕ). cond (eqb i c.args.winner) (pos (1000 * c.args.sticks)) (pos 0) in
    let e = c.each_seat.ensures in
    let P : ℕ → ℤ → Type 0 = λ i y. (y ≡ B32 (z i) +ℤ B32 (a i) +ℤ s i) × Within y most_gift in
    let p0 : P 0 e.0 = search rules in
    let p1 : P 1 e.1 = search rules in
    let p2 : P 2 e.2 = search rules in
    let p3 : P 3 e.3 = search rules in
    let seat = λ (i : ℕ). given (z i) (a i) (s i) in
    four_seats most_gift c.each_seat.result e.0 e.1 e.2 e.3 (λ i. z i +ℤ a i +ℤ s i) e.8
    (seat 0 e.0 (p.0 0) (p.1 0) p0.0, p0.1) (seat 1 e.1 (p.0 1) (p.1 1) p1.0, p1.1)
    (seat 2 e.2 (p.0 2) (p.1 2) p2.0, p2.1) (seat 3 e.3 (p.0 3) (p.1 3) p3.0, p3.1)
