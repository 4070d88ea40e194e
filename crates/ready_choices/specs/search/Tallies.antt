-- How far a hand is from ready, over tallies: t, u, v of the concealed tiles, d of the melds' tiles, with m melds. It is what the search is held to.
-- Nobody has to believe it: what is found is stated over the tiles held in ready/specs/Ready.antt.
use Rattle.std.specs.Prelude.{◌≡◌, List, ℕ, ◌+◌, ◌-◌, ◌*◌, ◌≤◌, ◌<◌, length, get_or}
use Rattle.tiles.specs.Below.{sum_below}
use Rattle.tiles.specs.Tally.{more}
use Rattle.reading.specs.declared.Reading.{Reading}
use Rattle.reading.specs.Reading.{IsReading}

-- "13 − 3m tiles" beside the melds, and "no kind over four held"
pub record HandTally (u d : List ℕ) (m : ℕ) : Type 0 where
  pub kinds : length u ≡ 34
  pub tiles : sum_below 34 (λ k. get_or u k 0) + 3 * m ≡ 13
  pub four : (k : ℕ) → k < 34 → get_or u k 0 + get_or d k 0 ≤ 4

-- S-1: "kinds that give a reading when added, yaku or not. A kind already held four times is never among them"
pub record WaitTally (u d : List ℕ) (m k : ℕ) : Type 0 where
  pub kind : k < 34
  pub below : get_or u k 0 + get_or d k 0 < 4
  pub reading : Reading
  pub reads : IsReading (more u k 1) m k reading

-- "one tile short of a reading", "a non-empty set of waits"
pub record ReadyTally (u d : List ℕ) (m : ℕ) : Type 0 where
  pub hand : HandTally u d m
  pub kind : ℕ
  pub wait : WaitTally u d m kind

-- "tiles that must be swapped for others": those of t that u lacks
unfoldable pub swaps_of : List ℕ → List ℕ → ℕ
swaps_of t u = sum_below 34 (λ k. get_or t k 0 - get_or u k 0)

-- the tally of m melds: of 3 or 4 tiles each
pub record MeldsTally (d : List ℕ) (m : ℕ) : Type 0 where
  pub few : m ≤ 4
  pub tiles : sum_below 34 (λ k. get_or d k 0) ≤ 4 * m

-- "The number is the fewest", "0 means ready"; "It comes with any one such hand that many swaps away, and every other ready hand with those
-- melds needs at least as many swaps"
pub record NearestTally (t d : List ℕ) (m n : ℕ) (u : List ℕ) : Type 0 where
  pub ready : ReadyTally u d m
  pub away : swaps_of t u ≡ n
  pub fewest : (v : List ℕ) → ReadyTally v d m → n ≤ swaps_of t v
