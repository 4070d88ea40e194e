-- What the code keeps after a reading is what `keep_better` keeps; where the best is wanted, that is the step `keep_better_by`.
use Rattle.std.specs.Prelude.{◌≡◌, Bool, ◌&&◌, ◌||◌, not, cond, ℕ, eqb}
use Rattle.std.proofs.Math.Path.{refl, ap}
use Rattle.std.proofs.Common.{◌∙◌, eqb-true, ne_eqb}
use Rattle.std.proofs.Math.Bool.{true, false}
use mathlib.Core.List.{List, [], ◌∷◌}
use Rattle.reading.specs.declared.Reading.{Reading}
use Rattle.reading.specs.search.Folded.{folded}
use Rattle.reading.specs.search.Readings.{readings}
use Rattle.yaku.specs.Yaku.{is_yakuman, has_yaku}
use Rattle.points_value.specs.declared.Value.{Value}
use Rattle.points_value.specs.declared.Worth.{Worth}
use Rattle.score_best.specs.declared.Best.{Best}
use Rattle.score_best.specs.Best.{with_yaku, with_yakuman}
use Rattle.score_best.specs.search.Best.{beats, counted, none_of, taking, passing, keep_better_by, keep_nth, keep_better, keep_of, search_for, best_of}
use Rattle.score_best.proofs.laws.First.{counted_some}

-- nothing is kept at first
pub none_going : (wanted : ℕ) (b : Best) → b ≡ none_of wanted → b.done ≡ false
unfolding none_of
none_going wanted b e = rw e

-- ---- what the code keeps

pub kept_folded : (worth : Reading → Value) (b : Best) (r : Reading) (v : Worth) → b.done ≡ false → v.value ≡ worth r
    → (v.yakuman ≡ is_yakuman (worth r).yaku) × (v.any ≡ has_yaku (worth r).yaku) → keep_of b r v ≡ keep_better worth b r
unfolding keep_better keep_better_by keep_nth keep_of
kept_folded worth b r v eb ev (em, ea) = rw (eb, em, ea, ev) (go (eqb b.wanted 0) refl)
  where
    go : (c : Bool) → eqb b.wanted 0 ≡ c
        → cond ((c && (with_yaku worth r && (not b.valued || beats (worth r) b.value))) || eqb (counted b.tried) b.wanted)
        (taking worth (λ q. c && with_yakuman worth q) b r) (passing worth (λ q. c && with_yakuman worth q) b r)
        ≡ cond {A = Best} c
        (cond (with_yaku worth r && (not b.valued || beats (worth r) b.value)) (taking worth (with_yakuman worth) b r)
        (passing worth (with_yakuman worth) b r))
        (cond (eqb (counted b.tried) b.wanted) (taking worth (λ _. false) b r) (passing worth (λ _. false) b r))
    go false e = refl
    go true e =
        rw (ne_eqb (counted b.tried) b.wanted (λ z. counted_some b.tried (z ∙ eqb-true b.wanted 0 e)))
        (by (with_yaku worth r && (not b.valued || beats (worth r) b.value)))
      where
        by : (x : Bool) → cond (x || false) (taking worth (with_yakuman worth) b r) (passing worth (with_yakuman worth) b r)
            ≡ cond {A = Best} x (taking worth (with_yakuman worth) b r) (passing worth (with_yakuman worth) b r)
        by true = refl
        by false = refl

-- ---- where the best is wanted

module _ (worth : Reading → Value) where
  better : (b : Best) (r : Reading) → b.wanted ≡ 0 → keep_better worth b r ≡ keep_better_by worth (with_yakuman worth) b r
  unfolding keep_better
  better b r e = rw e

  still_wanted : (b : Best) (r : Reading) → (keep_better_by worth (with_yakuman worth) b r).wanted ≡ b.wanted
  unfolding keep_better_by
  still_wanted b r = go b.done (with_yaku worth r && (not b.valued || beats (worth r) b.value))
    where
      go : (d c : Bool)
          → (cond {A = Best} d b (cond {A = Best} c (taking worth (with_yakuman worth) b r) (passing worth (with_yakuman worth) b r))).wanted ≡ b.wanted
      go true c = refl
      go false true = refl
      go false false = refl

  pub best_folded : (rs : List Reading) (b : Best) → b.wanted ≡ 0 → folded (keep_better worth) b rs ≡ folded (keep_better_by worth (with_yakuman worth)) b rs
  unfolding folded
  best_folded [] b e = refl
  best_folded (r ∷ rs) b e =
      ap (λ (x : Best). folded (keep_better worth) x rs) (better b r e)
      ∙ best_folded rs (keep_better_by worth (with_yakuman worth) b r) (still_wanted b r ∙ e)

  pub best_wanted : (tally : List ℕ) (m win : ℕ) → search_for worth 0 tally m win ≡ best_of worth tally m win
  unfolding search_for best_of none_of
  best_wanted tally m win = best_folded (readings tally m win) (none_of 0) refl
