use Rattle.std.proofs.Common.{◌≡◌, ℕ, ◌<◌, false, cond, List, Bool, ℤ, pos, ◌+ℤ◌, get_or, ap, ◌∙◌, arith, rules}
use Rattle.tiles.specs.Below.{count}
use Rattle.position.specs.Ledger.{fine_of}
use Rattle.position.proofs.laws.Fines.{fined_by, fined_at}
use Rattle.score.proofs.laws.Z.{Within}
use Rattle.position.specs.search.Amounts.{amount}
use Rattle.position.proofs.laws.Sums.{four_small}
use Rattle.position_payments.proofs.penalties.Goals as goal

-- what a call gives, of n seats at fault, is its seat's part
module _ (f d : List Bool) (n : ℕ) (e : n ≡ count 4 (λ j. get_or f j false)) where
  given : (i : ℕ) → i < 4 → (y : ℤ) → y ≡ fined_by n (get_or f i false) +ℤ cond (get_or d i false) (pos 1000) (pos 0)
      → y ≡ fine_of (λ j. get_or f j false) i +ℤ cond (get_or d i false) (pos 1000) (pos 0)
  given i l y q =
      q ∙ ap (λ (k : ℕ). fined_by k (get_or f i false) +ℤ cond (get_or d i false) (pos 1000) (pos 0)) e
      ∙ ap (λ (z : ℤ). z +ℤ cond (get_or d i false) (pos 1000) (pos 0)) (fined_at (λ j. get_or f j false) i l)

pub returns : goal.returns
returns c =
    let f = c.args.f in
    let d = c.args.d in
    let n = c.count_true-n.result in
    let seat = given f d n c.count_true-n.ensures.0 in
    let e = c.each_seat.ensures in
    let P : ℕ → ℤ → Type 0 = λ i y. (y ≡ fined_by n (get_or f i false) +ℤ cond (get_or d i false) (pos 1000) (pos 0)) × Within y amount in
    let p0 : P 0 e.0 = search rules in
    let p1 : P 1 e.1 = search rules in
    let p2 : P 2 e.2 = search rules in
    let p3 : P 3 e.3 = search rules in
    four_small c.each_seat.result e.0 e.1 e.2 e.3
    (λ i. fine_of (λ j. get_or f j false) i +ℤ cond (get_or d i false) (pos 1000) (pos 0)) e.8
    (seat 0 (omega arith) e.0 p0.0, p0.1) (seat 1 (omega arith) e.1 p1.0, p1.1) (seat 2 (omega arith) e.2 p2.0, p2.1) (seat 3 (omega arith) e.3 p3.0, p3.1)
