-- How the code decides a claim. What it decides is stated by `IsVerdict` of specs/Verdict.
use Rattle.std.specs.Prelude.{Bool, ◌&&◌, not, cond, List, [], ◌∷◌, ◌++◌, ◌⊎◌, ◌≡◌, ℕ, ◌-◌, ◌≤◌, ◌<◌, ltb, leb, eqb, length, get_or, take, replicate}
use Rattle.hand.specs.declared.Hand.{Hand}
use Rattle.hand.specs.Hand.{concealed_tally}
use Rattle.reading.specs.declared.Reading.{Reading}
use Rattle.reading.specs.Reading.{Ascends, holds, is_seven_pairs, is_orphans, of_shape}
use Rattle.reading.specs.search.Readings.{is_empty, less, fits, without}
use Rattle.score_best.specs.Best.{with_yaku}
use Rattle.score.specs.Named.{worth, gain_in}
use Rattle.score.specs.search.HandScore.{kept_of}

-- a reading as a claim names it
pub data IsFormed (m : ℕ) : Reading → Type 0 where
  formed : (pair place : ℕ) (codes : List ℕ) → length codes ≡ 4 - m → Ascends 0 codes → pair < 34 → place ≤ 4 - m
      → IsFormed m (record { shape = 0; pair = pair; groups = codes ++ replicate m 68; place = place })
  without_groups : (k : ℕ) → (k ≡ 1) ⊎ (k ≡ 2) → IsFormed m (of_shape k)

-- taking the groups off one after the other leaves no tile
unfoldable pub strip : List ℕ → List ℕ → Bool
strip t [] = is_empty t
strip t (g ∷ gs) = fits t g && strip (without t g) gs

-- the pair, the first n groups and the place
unfoldable pub regularly : List ℕ → ℕ → ℕ → ℕ → List ℕ → ℕ → Bool
regularly t n win pair groups place = leb 2 (get_or t pair 0) && (strip (less t pair 2) (take n groups) && holds pair groups place win)

-- r is a reading of the tally t with m melds, won by the kind win
unfoldable pub reads : List ℕ → ℕ → ℕ → Reading → Bool
reads t m win r =
    cond (eqb r.shape 0) (regularly t (4 - m) win r.pair r.groups r.place)
    (cond (eqb r.shape 1) (eqb m 0 && is_seven_pairs t) (eqb m 0 && is_orphans t))

-- the tests of a reading one after the other; most is what the best reading with a yaku pays
unfoldable pub weighed_as : Bool → ℕ → ℕ → ℕ → ℕ
weighed_as yaku paid gain most = cond (not yaku) 2 (cond (not (eqb paid gain)) 3 (cond (ltb paid most) 4 0))

unfoldable pub verdict_of : Hand → ℕ → ℕ → Reading → ℕ → ℕ
verdict_of h dealer wind r gain =
    cond (reads (concealed_tally h) h.held.m h.fields.winning r)
    (weighed_as (with_yaku (worth h dealer wind) r) (gain_in h dealer wind r) gain (kept_of h dealer wind).value.gain.0) 1
