-- The table of hands to prove (01).
use Rattle.score_table.specs.Table.{Lines}
use Rattle.score_table.proofs.laws.Table as table

-- "lines 1 to 12 are theorems gathered in one table under one theorem"
pub lines : Lines
lines = table.lines
