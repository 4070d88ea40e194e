-- The readings of a hand are a list of them all, and the only one.
use Rattle.std.specs.Prelude.{List, ◌≡◌}
use Rattle.hand.specs.declared.Hand.{Hand}
use Rattle.hand.specs.Hand.{concealed_tally}
use Rattle.reading.specs.declared.Reading.{Reading}
use Rattle.reading.proofs.Claims.{exactly_one_list}
use Rattle.score.specs.Readings.{AreReadingsOf, all_kinds, readings_of}

module _ (h : Hand) where
  -- it is such a list
  pub are_readings : AreReadingsOf h (readings_of h)
  unfolding readings_of
  are_readings = (exactly_one_list (concealed_tally h) h.held.m h.fields.winning (all_kinds h)).1

  -- and the only one
  pub only_readings : (rs : List Reading) → AreReadingsOf h rs → rs ≡ readings_of h
  unfolding readings_of
  only_readings = (exactly_one_list (concealed_tally h) h.held.m h.fields.winning (all_kinds h)).2
