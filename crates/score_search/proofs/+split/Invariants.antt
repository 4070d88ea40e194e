-- A call has one group less to take; the codes from here on give what is left to list.
use Rattle.std.proofs.Common.{◌≡◌, ◌++◌, ◌-◌}
use Rattle.reading.specs.search.Stored.{behind}
use Rattle.score_search.proofs.+split.Given as goal

abbrev pub decreases-split : goal.decreases-split
decreases-split l = l.left

abbrev pub invariant-loop-c : goal.invariant-loop-c
invariant-loop-c l = l.out ++ behind l.size l.prefix l.left l.from l.t ≡ l.initial.out ++ behind l.size l.prefix l.left l.code l.t

abbrev pub decreases-loop-c : goal.decreases-loop-c
decreases-loop-c l = 68 - l.from
