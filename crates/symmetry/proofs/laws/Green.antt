-- Yaku 34 goes by the tiles alone, so a hand of green tiles whose score has no yaku 34 has no reading.
use Rattle.std.specs.Prelude.{ℕ, ◌≡◌, refl, Bool, true, false, ◌&&◌, cond, List, leb}
use Rattle.std.proofs.Common.{sym, ◌∙◌, arith}
use Rattle.std.proofs.Math.Bool.{false≢true}
use Rattle.std.proofs.Math.ListN.{get_or}
use Rattle.tiles.specs.Below.{tabulate}
use Rattle.tiles.proofs.laws.Below.{some_stop}
use Rattle.hand.specs.declared.Hand.{Hand}
use Rattle.hand.specs.Hand.{hand_tally}
use Rattle.reading.specs.declared.Reading.{Reading}
use Rattle.yaku_tiles.specs.OfTiles.{only, is_green}
use Rattle.yaku.specs.Yaku.{tests_of, is_yakuman, listed, yaku_of, has_yaku}
use Rattle.points_value.specs.Value.{value_of}
use Rattle.score.specs.declared.Scored.{Scored}
use Rattle.score.specs.Named.{won_of, full_reading_of, worth, IsReadingOf, Named, reported, six, seven}
use Rattle.symmetry.specs.Renamed.{is_all_green}

-- a yakuman is listed where its test is met
listed_34 : (y : List Bool) → get_or (listed y) 34 false ≡ get_or y 34 false
unfolding listed
listed_34 y = go (is_yakuman y)
  where
    go : (b : Bool) → get_or (cond b (tabulate 37 0 (λ n. leb 26 n && get_or y n false)) y) 34 false ≡ get_or y 34 false
    go true = refl
    go false = refl

module _ (h : Hand) (dealer wind : ℕ) where
  -- every reading of a hand has yaku 34 where its tiles are green
  green_in : (r : Reading) → get_or (worth h dealer wind r).yaku 34 false ≡ only (hand_tally h) is_green
  unfolding worth value_of yaku_of tests_of won_of
  green_in r = listed_34 (tests_of (won_of h dealer wind) (full_reading_of h r))

  pub green_no_reading : only (hand_tally h) is_green ≡ true → {x : Scored} → Named h dealer wind x → is_all_green x ≡ false → (q : Reading) → IsReadingOf h q → ⊥
  unfolding has_yaku
  green_no_reading g (reported r a) e q i = false≢true (sym e ∙ green_in r ∙ g)
  green_no_reading g (six n) e q i = n q i
  green_no_reading g (seven p j n) e q i = n q (i, some_stop (λ n. get_or (worth h dealer wind q).yaku n false) 37 34 (omega arith) (green_in q ∙ g))
