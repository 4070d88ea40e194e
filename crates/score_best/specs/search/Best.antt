-- How the code finds the reported reading: it holds each of a list against the best so far, up to one that `ends` the search, and counts them;
-- `worth` says what each is worth.
-- What it finds is stated by `Named` of score/specs.
use Rattle.std.specs.Prelude.{Bool, true, false, ◌&&◌, ◌||◌, not, cond, List, ℕ, ◌+◌, ltb, eqb, replicate}
use Rattle.reading.specs.declared.Reading.{Reading}
use Rattle.reading.specs.Reading.{of_shape}
use Rattle.reading.specs.search.Readings.{readings}
use Rattle.reading.specs.search.Folded.{folded}
use Rattle.points_value.specs.declared.Value.{Value}
use Rattle.points_value.specs.declared.Worth.{Worth}
use Rattle.points_fu.specs.Fu.{base_alone}
use Rattle.score_best.specs.declared.Best.{Best}
use Rattle.score_best.specs.Best.{with_yaku, with_yakuman}

-- "the highest winner's gain, then highest h, then fu": v is above w
unfoldable pub beats : Value → Value → Bool
beats v w =
    ltb w.gain.0 v.gain.0
    || (eqb v.gain.0 w.gain.0 && (ltb w.han.0 v.han.0 || (eqb v.han.0 w.han.0 && ltb w.fu.0 v.fu.0)))

-- before any reading: nothing is worth anything
abbrev pub nothing : Value
nothing =
    record { yaku = replicate 37 false; han = record { 0 = 0 }; items = base_alone 0; fu = record { 0 = 0 }; basic = record { 0 = 0 }; gain = record { 0 = 0 } }

-- what is kept at first; `wanted` is 0 for the best reading, or the number of a reading, from 1
unfoldable pub none_of : ℕ → Best
none_of wanted = record { valued = false; value = nothing; reading = of_shape 0; done = false; tried = 0; wanted = wanted }

-- one more is tried. A count of 32 bits stays at its highest, which no hand reaches (`readings_few`)
unfoldable pub counted : ℕ → ℕ
counted n = cond (ltb n 4294967295) (n + 1) n

-- what is kept after a reading that is taken, and after one that is not
module _ (worth : Reading → Value) (ends : Reading → Bool) (b : Best) (r : Reading) where
  abbrev pub taking : Best
  taking = record { valued = true; value = worth r; reading = r; done = ends r; tried = counted b.tried; wanted = b.wanted }

  abbrev pub passing : Best
  passing = record { valued = b.valued; value = b.value; reading = b.reading; done = ends r; tried = counted b.tried; wanted = b.wanted }

-- "the first": a later reading has to beat the one that is kept; past one that ends the search none is looked at
unfoldable pub keep_better_by : (Reading → Value) → (Reading → Bool) → Best → Reading → Best
keep_better_by worth ends b r = cond b.done b (cond (with_yaku worth r && (not b.valued || beats (worth r) b.value))
    (taking worth ends b r) (passing worth ends b r))

-- the reading that is wanted by its number is taken, whatever it is worth, and nothing ends the search
unfoldable pub keep_nth : (Reading → Value) → Best → Reading → Best
keep_nth worth b r = cond b.done b (cond (eqb (counted b.tried) b.wanted) (taking worth (λ _. false) b r) (passing worth (λ _. false) b r))

-- by what is wanted: the best, where "a search in that order ends at the first yakuman reading" (02, S-4), or the one with a number
unfoldable pub keep_better : (Reading → Value) → Best → Reading → Best
keep_better worth b r = cond (eqb b.wanted 0) (keep_better_by worth (with_yakuman worth) b r) (keep_nth worth b r)

-- what is kept after a reading of worth v
unfoldable pub keep_of : Best → Reading → Worth → Best
keep_of b r v =
    let best = eqb b.wanted 0 in
    cond ((best && (v.any && (not b.valued || beats v.value b.value))) || eqb (counted b.tried) b.wanted)
    (record { valued = true; value = v.value; reading = r; done = best && v.yakuman; tried = counted b.tried; wanted = b.wanted })
    (record { valued = b.valued; value = b.value; reading = b.reading; done = best && v.yakuman; tried = counted b.tried; wanted = b.wanted })

-- what is kept after the readings of a tally, in their order, where one is wanted
unfoldable pub search_for : (Reading → Value) → ℕ → List ℕ → ℕ → ℕ → Best
search_for worth wanted tally m win = folded (keep_better worth) (none_of wanted) (readings tally m win)

-- where that is the best
unfoldable pub best_of : (Reading → Value) → List ℕ → ℕ → ℕ → Best
best_of worth tally m win = folded (keep_better_by worth (with_yakuman worth)) (none_of 0) (readings tally m win)
