-- The nearest ready tally, written out.
use Rattle.std.proofs.Common.{refl}
use Rattle.ready.proofs.laws.Nearest.{tallies_fit, nearest_found}
use Rattle.ready.proofs.nearest_to.Goals as goal

pub nearest-n-requires : goal.nearest-n-requires
nearest-n-requires c = tallies_fit _ c.requires.0 c.requires.1 _ _ c.others_tally.ensures c.melds_tally.ensures

pub returns : goal.returns
returns c = (refl, nearest_found _ c.requires.0 c.requires.1 _ _ c.others_tally.ensures c.melds_tally.ensures _ _ _ _ c.nearest-n.ensures c.written.ensures)
