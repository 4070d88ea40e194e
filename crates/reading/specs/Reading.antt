-- What a reading of a winning hand is (01, Readings). Nothing here says how readings are found.
use Rattle.std.specs.Prelude.{◌≡◌, Bool, true, ◌&&◌, ◌||◌, cond, List, [], ◌∷◌, ◌++◌, ℕ, zero, suc, ◌+◌, ◌-◌, ◌≤◌, ◌<◌, leb, eqb, length, get_or, replicate}
use Rattle.tiles.specs.Below.{all_below, count_below}
use Rattle.tiles.specs.Kinds.{is_yaochu}
use Rattle.tiles.specs.Groups.{is_group, at_kind, uses}
use Rattle.reading.specs.declared.Reading.{Reading}

-- "using every tile exactly once": how many tiles of kind k the groups have together
unfoldable pub used_by : List ℕ → ℕ → ℕ
used_by [] k = 0
used_by (g ∷ gs) k = uses g k + used_by gs k

-- "groups sorted by code": codes of groups ("run or triplet"), from c on, that do not descend
abbrev pub Ascends : ℕ → List ℕ → Type 0
Ascends c [] = Unit {0}
Ascends c (g ∷ gs) = (c ≤ g) × (is_group g ≡ true) × Ascends g gs

-- "the pair or group, holding the winning tile's kind": place 0 is the pair, i + 1 the group at i
unfoldable pub holds : ℕ → List ℕ → ℕ → ℕ → Bool
holds pair groups zero win = eqb win pair
holds pair groups (suc i) win = leb 1 (uses (get_or groups i 68) win)

-- "regular: a pair and 4 − m groups (run or triplet) using every tile exactly once, and a place": of the tally t
-- of the concealed tiles with the winning tile, m melds, and the winning tile's kind win
pub record IsRegular (t : List ℕ) (m win : ℕ) (r : Reading) : Type 0 where
  pub shape : r.shape ≡ 0
  pub codes : List ℕ
  pub size : length codes ≡ 4 - m
  pub groups : r.groups ≡ codes ++ replicate m 68
  pub order : Ascends 0 codes
  pub pair : r.pair < 34
  pub tiles : (k : ℕ) → get_or t k 0 ≡ at_kind r.pair 2 k + used_by codes k
  pub place : r.place ≤ 4 - m
  pub holding : holds r.pair r.groups r.place win ≡ true

-- "seven different kinds": each kind is held twice or not at all, and seven are held
unfoldable pub is_seven_pairs : List ℕ → Bool
is_seven_pairs t = all_below 34 (λ k. eqb (get_or t k 0) 0 || eqb (get_or t k 0) 2) && eqb (count_below 34 (λ k. leb 1 (get_or t k 0))) 7

-- "all 13 yaochu kinds, one twice": each yaochu kind is held once or twice and no other kind, and one is held twice
unfoldable pub is_orphans : List ℕ → Bool
is_orphans t =
    all_below 34 (λ k. cond (is_yaochu k) (eqb (get_or t k 0) 1 || eqb (get_or t k 0) 2) (eqb (get_or t k 0) 0)) && eqb (count_below 34 (λ k. eqb (get_or t k 0) 2)) 1

-- "seven pairs", "thirteen orphans": the reading without pair (34), groups (68) and place, of shape 1 or 2
abbrev pub of_shape : ℕ → Reading
of_shape f = record { shape = f; pair = 34; groups = 68 ∷ 68 ∷ 68 ∷ 68 ∷ []; place = 0 }

-- "seven pairs: m = 0, seven different kinds"
pub record IsSevenPairs (t : List ℕ) (m : ℕ) (r : Reading) : Type 0 where
  pub meldless : m ≡ 0
  pub kinds : is_seven_pairs t ≡ true
  pub reading : r ≡ of_shape 1

-- "thirteen orphans: m = 0, all 13 yaochu kinds, one twice"
pub record IsOrphans (t : List ℕ) (m : ℕ) (r : Reading) : Type 0 where
  pub meldless : m ≡ 0
  pub kinds : is_orphans t ≡ true
  pub reading : r ≡ of_shape 2

-- "A reading of the concealed tiles with the winning tile is one of"
pub data IsReading (t : List ℕ) (m win : ℕ) (r : Reading) : Type 0 where
  regular : IsRegular t m win r → IsReading t m win r
  pairs : IsSevenPairs t m r → IsReading t m win r
  orphans : IsOrphans t m r → IsReading t m win r
