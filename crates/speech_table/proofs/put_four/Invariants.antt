-- Of the first seats so far.
use Rattle.std.proofs.Common.{◌≡◌, ◌++◌, ◌+◌, ◌*◌, ◌≤◌, length}
use Rattle.speech_table.proofs.laws.Four.{first_scores}
use Rattle.speech_table.proofs.put_four.Given as goal

abbrev pub invariant-loop-seat : goal.invariant-loop-seat
invariant-loop-seat l = record {
  added : l.clips ≡ l.fn.clips ++ first_scores l.language l.dealer l.fn.scores l.seat;
  few : length l.clips ≤ length l.fn.clips + 16 * l.seat;
}
