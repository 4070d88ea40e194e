-- So many scores so far, a space after each.
use Rattle.std.proofs.Common.{◌≡◌, ◌++◌, ◌+◌, ◌*◌, ◌≤◌, length}
use Rattle.text.proofs.laws.Line.{first_scores}
use Rattle.text.proofs.written.Given as goal

abbrev pub invariant-loop-score : goal.invariant-loop-score
invariant-loop-score l = record {
  added : l.text ≡ l.initial.text ++ first_scores l.fn.scores l.score-index;
  few : length l.text ≤ length l.initial.text + 12 * l.score-index;
}
