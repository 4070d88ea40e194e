-- A call has one group less to find.
use Rattle.reading_splits.proofs.+is_groups.Given as goal

abbrev pub decreases-is_groups : goal.decreases-is_groups
decreases-is_groups l = l.pieces
