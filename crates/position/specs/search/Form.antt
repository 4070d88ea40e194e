-- An open position by its fields, as the code meets it, and the sum that "in form" asks for.
use Rattle.std.specs.Prelude.{◌≡◌, false, ℕ, ◌*◌, ◌≤◌, ◌<◌, ℤ, pos, ◌+ℤ◌}
use Rattle.score.specs.search.Parts.{dn}
use Rattle.position.specs.declared.Position.{Position}
use Rattle.position.specs.Ledger.{points_in_play, last_hand, floor, is_set, score_at, declarations, feeder_at, total_of, wrong_feeder}

-- how deep the floor is
abbrev pub depth : ℕ
depth = dn floor

-- a position in form
pub record InForm (g : Position) : Type 0 where
  pub dealer : g.dealer ≤ 3
  pub wind : g.wind ≤ 1
  pub hands : g.hands ≤ last_hand
  pub sticks : declarations g ≤ g.sticks
  pub counter : g.counter ≤ g.hands
  pub feeders : (i : ℕ) → i < 8 → wrong_feeder i (feeder_at g i) ≡ false
  pub low : (i : ℕ) → i < 4 → dn (score_at g i) ≤ depth
  pub total : total_of g ≡ points_in_play

-- a position that is open
pub record Open (g : Position) : Type 0 where
  pub form : InForm g
  pub over : is_set g.over ≡ false
  pub hands : g.hands < last_hand

-- four scores and 1,000 times k sticks
abbrev pub sum_of : ℤ → ℤ → ℤ → ℤ → ℕ → ℤ
sum_of a b c d k = a +ℤ b +ℤ c +ℤ d +ℤ pos (1000 * k)
