-- What is counted so far and what is left is the whole.
use Rattle.std.proofs.Common.{◌≡◌, ◌+◌, ◌-◌, ◌≤◌}
use Rattle.card_writer.specs.search.Written.{counted}
use Rattle.card_writer.proofs.+count.Given as goal

abbrev pub invariant-loop-a : goal.invariant-loop-a
invariant-loop-a l = (l.low ≤ l.a) × (l.c + counted l.d.groups l.left l.d.end l.a l.t ≡ counted l.d.groups l.left l.d.end l.low l.t)

abbrev pub decreases-loop-a : goal.decreases-loop-a
decreases-loop-a l = l.d.end - l.a

abbrev pub decreases-count : goal.decreases-count
decreases-count l = l.left
