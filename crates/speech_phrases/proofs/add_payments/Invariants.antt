-- Of the first seats so far.
use Rattle.std.proofs.Common.{◌≡◌, ◌++◌, ◌+◌, ◌*◌, ◌≤◌, length}
use Rattle.speech_phrases.proofs.laws.Seats.{first_payments}
use Rattle.speech_phrases.proofs.add_payments.Given as goal

abbrev pub invariant-loop-seat : goal.invariant-loop-seat
invariant-loop-seat g l = record {
  added : l.clips ≡ l.fn.clips ++ first_payments l.language l.dealer l.fn.changes l.seat;
  few : length l.clips ≤ length l.fn.clips + 16 * l.seat;
}
