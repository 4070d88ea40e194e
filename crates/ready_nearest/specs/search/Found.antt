-- What the functions of the search promise each other. Nobody has to believe it: what is found is stated in `ready`.
use Rattle.std.specs.Prelude.{◌≡◌, true, List, [], ℕ, ◌+◌, ◌-◌, ◌≤◌, ◌<◌, min, length, get_or}
use Rattle.tiles.specs.Below.{sum_below}
use Rattle.reading.specs.search.Readings.{less}
use Rattle.ready_nearest.specs.declared.Choice.{Choice}
use Rattle.ready_choices.specs.search.Moves.{x_of, y_of, z_of, taken, next, fine, ended, most, worth, best}
use Rattle.ready_choices.proofs.laws.Reach.{Reach, both}
use Rattle.ready_choices.proofs.laws.Near.{Start}

-- the choice e is that of c
pub record Got (have room : ℕ) (later : ℕ → ℕ) (k s : ℕ) (c : Choice) : Type 0 where
  pub e : ℕ
  pub low : e < 10
  pub fits : fine room k s e ≡ true
  pub to : c.to ≡ next s e
  pub tiles : c.tiles ≡ taken k s e
  pub more : 1 ≤ later (next s e)
  pub value : c.value ≡ later (next s e) + min have (taken k s e)

-- c is the best of the first i choices
pub record Chose (have room : ℕ) (later : ℕ → ℕ) (k s i : ℕ) (c : Choice) : Type 0 where
  pub value : c.value ≡ most i (worth have room later k s)
  pub got : 1 ≤ c.value → Got have room later k s c
  pub low : c.to < 80

-- the choices e and e + 1 are x runs without a pair and with one
pub record Pairs (e x : ℕ) : Type 0 where
  pub low : e + 2 ≤ 10
  pub runs : (x_of e ≡ x) × (x_of (e + 1) ≡ x)
  pub triplets : (y_of e ≡ 0) × (y_of (e + 1) ≡ 0)
  pub pair : (z_of e ≡ 0) × (z_of (e + 1) ≡ 1)

-- the values of the states, in the row of a kind
abbrev pub after : List ℕ → ℕ → ℕ
after row r = get_or row r 0

-- no value is over 200
abbrev pub Small : List ℕ → Type 0
Small row = (s : ℕ) → get_or row s 0 ≤ 200

-- no kind over four
abbrev pub Fours : List ℕ → Type 0
Fours t = (k : ℕ) → get_or t k 0 ≤ 4

-- the row has the values at the kind k
pub record RowOf (t d : List ℕ) (k : ℕ) (row : List ℕ) : Type 0 where
  pub long : length row ≡ 80
  pub values : (s : ℕ) → s < 80 → get_or row s 0 ≡ best t d (34 - k) k s

-- the table has the values
abbrev pub Filled : List ℕ → List ℕ → List (List ℕ) → Type 0
Filled t d table = (k : ℕ) → k < 35 → RowOf t d k (get_or table k [])

-- w takes the best choices from the state start
pub record Walked (t d : List ℕ) (start : ℕ) (w : List ℕ) : Type 0 where
  pub long : length w ≡ 34
  pub end : ℕ
  pub reach : Reach start d w 34 end
  pub done : ended end ≡ true
  pub keeps : sum_below 34 (both t w) + 1 ≡ best t d 34 0 start

-- no start is better than s
pub record Topmost (t d : List ℕ) (m s : ℕ) : Type 0 where
  pub from : Start m s
  pub low : s < 80
  pub top : (r : ℕ) → Start m r → best t d 34 0 r ≤ best t d 34 0 s

-- u is w without a tile that t lacks
pub record Shorter (t w u : List ℕ) : Type 0 where
  pub kind : ℕ
  pub low : kind < 34
  pub lack : get_or t kind 0 < get_or w kind 0
  pub less_one : u ≡ less w kind 1
