-- The readings of a hand in document 01's order (02, S-4): the one list of them all.
use Rattle.std.specs.Prelude.{List, ◌≡◌, length}
use Rattle.tiles.proofs.laws.Tally.{length_tally}
use Rattle.hand.specs.declared.Hand.{Hand}
use Rattle.hand.specs.Hand.{in_concealed, concealed_tally}
use Rattle.reading.specs.declared.Reading.{Reading}
use Rattle.reading.specs.All.{IsAll}
use Rattle.reading.proofs.Claims.{exactly_one_list}

-- the list has every reading "of the concealed tiles with the winning tile" and nothing else, in "document 01's order"
abbrev pub AreReadingsOf : Hand → List Reading → Type 0
AreReadingsOf h rs = IsAll (concealed_tally h) h.held.m h.fields.winning rs

-- "the tally of all 34 kinds"
pub all_kinds : (h : Hand) → length (concealed_tally h) ≡ 34
unfolding concealed_tally
all_kinds h = length_tally (in_concealed h)

-- the one such list
unfoldable pub readings_of : Hand → List Reading
readings_of h = (exactly_one_list (concealed_tally h) h.held.m h.fields.winning (all_kinds h)).0
