-- The first k items so far.
use Rattle.std.proofs.Common.{◌≡◌, ◌++◌, ◌+◌, ◌*◌, ◌≤◌, length}
use Rattle.speech_fu.proofs.laws.Items.{first_items}
use Rattle.speech_fu.proofs.put_items.Given as goal

abbrev pub invariant-loop-k : goal.invariant-loop-k
invariant-loop-k l = record {
  added : l.clips ≡ l.fn.clips ++ first_items l.language l.item-items l.k;
  few : length l.clips ≤ length l.fn.clips + 14 * l.k;
}
