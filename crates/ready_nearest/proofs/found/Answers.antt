-- The complete hand of the best start, less one tile.
use Rattle.std.proofs.Common.{arith}
use Rattle.ready_nearest.proofs.laws.Answer.{some_complete, value_low, tile_more, answer}
use Rattle.ready_nearest.proofs.found.Goals as goal

pub walk-w-requires-clause-start_bound : goal.walk-w-requires-clause-start_bound
walk-w-requires-clause-start_bound c = (c.start-s.ensures.low, some_complete _ _ _ c.requires.0 c.requires.3 _ c.start-s.ensures c.requires.1)

pub overflow_sub-result-2 : goal.overflow_sub-result-2
overflow_sub-result-2 c = value_low _ _ _ c.requires.0 c.requires.3 _ c.start-s.ensures c.requires.1 _ c.walk-w.ensures _ (c.requires.2 0 (omega arith))

pub short-requires : goal.short-requires
short-requires c = (c.requires.0.kinds, tile_more _ _ _ c.requires.0 c.requires.3 _ c.start-s.ensures c.requires.1 _ c.walk-w.ensures)

pub returns : goal.returns
returns c = answer _ _ _ c.requires.0 c.requires.3 _ c.start-s.ensures c.requires.1 _ c.walk-w.ensures _ (c.requires.2 0 (omega arith)) _ c.short.ensures
