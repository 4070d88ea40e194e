-- Which kinds the search tries for the pair: a step of kinds outside which no kind can be the pair beside groups.
use Rattle.std.specs.Prelude.{◌≡◌, true, List, ℕ, suc, ◌+◌, ◌%◌, ◌≤◌, get_or}
use Rattle.tiles.specs.Below.{sum}
use Rattle.tiles.specs.Groups.{is_group, at_kind}
use Rattle.reading.specs.Reading.{used_by}
use Rattle.reading.specs.All.{Each}

-- a pair of the kind k and the groups gs use every tile of t exactly once
pub record PairBeside (t : List ℕ) (k : ℕ) (gs : List ℕ) : Type 0 where
  pub codes : Each (λ g. is_group g ≡ true) gs
  pub tiles : (j : ℕ) → get_or t j 0 ≡ at_kind k 2 j + used_by gs j

-- k is one of first, first + 3, .. up to last
abbrev pub Among : ℕ → ℕ → ℕ → Type 0
Among first last k = (first ≤ k) × (k ≤ last) × (k % 3 ≡ first % 3)

-- no other kind is the pair beside any groups
abbrev pub OnlyPairs : List ℕ → ℕ → ℕ → Type 0
OnlyPairs t first last = (k : ℕ) (gs : List ℕ) → PairBeside t k gs → Among first last k

-- f below 9 with the weights 9, 8, .. 1: the sums up to each number, added up
abbrev pub weighed : (ℕ → ℕ) → ℕ
weighed f = sum 9 (λ i. sum (suc i) f)
