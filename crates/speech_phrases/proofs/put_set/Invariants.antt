-- Those chosen of the first k so far.
use Rattle.std.proofs.Common.{◌≡◌, ◌++◌, ◌+◌, ◌≤◌, false, length, get_or}
use Rattle.speech_told.specs.Phrases.{chosen}
use Rattle.speech_phrases.proofs.put_set.Given as goal

abbrev pub invariant-loop-k : goal.invariant-loop-k
invariant-loop-k g l = record {
  added : l.clips ≡ l.fn.clips ++ chosen l.first (λ k. get_or l.set k false) l.k;
  few : length l.clips ≤ length l.fn.clips + l.k;
}
