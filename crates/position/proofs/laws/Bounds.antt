-- The numbers that bound a game, and what h hands cost at most.
use Rattle.std.specs.Prelude.{◌≡◌, refl, ℕ, zero, suc, ◌+◌, ◌-◌, ◌*◌, ◌≤◌}
use Rattle.std.proofs.Common.{ap, arith}
use Rattle.score.proofs.laws.Z.{up}
use Rattle.position.specs.Ledger.{starting_score, last_hand}
pub use Rattle.position.specs.search.Amounts.{amount, most_change, most_sticks, most_gift}
pub use Rattle.position.specs.search.Form.{depth}

-- ---- the floor

-- the most that a seat pays in the hand that follows h finished ones, its stick left out: "One discarder may now pay 112,000 in a hand" (02, S-6), with h
-- counters
abbrev pub costs : ℕ → ℕ
costs h = 112000 + 300 * h

-- the most that a seat has paid in h hands, a stick in each
unfoldable pub worst : ℕ → ℕ
worst zero = 0
worst (suc h) = worst h + 1000 + costs h

pub worst_step : (h : ℕ) → worst (h + 1) ≡ worst h + 1000 + costs h
unfolding worst
worst_step h = let e : h + 1 ≡ suc h = omega arith in ap worst e

worst_more : (h n : ℕ) → worst h ≤ worst (h + n)
unfolding worst
worst_more h zero = let e : h + 0 ≡ h = omega arith in rw e (omega arith)
worst_more h (suc n) = let e : h + suc n ≡ suc (h + n) = omega arith in rw e (omega (arith, worst_more h n))

worst_le : (h k : ℕ) → h ≤ k → worst h ≤ worst k
worst_le h k l = let e : h + (k - h) ≡ k = omega arith in rw e at (worst_more h (k - h))

-- the floor is what a seat has at first less what all hands cost
pub worst_all : worst last_hand ≡ depth + up starting_score
unfolding worst
worst_all = refl

pub worst_low : (h d : ℕ) → h + d ≤ last_hand → d ≤ 1 → worst h + 1000 * d ≤ depth + up starting_score
worst_low h zero l m = omega (arith, worst_le h last_hand (omega arith), worst_all)
worst_low h (suc zero) l m = omega (arith, worst_le (h + 1) last_hand (omega arith), worst_step h, worst_all)
worst_low h (suc (suc d)) l m = absurd (omega arith)
