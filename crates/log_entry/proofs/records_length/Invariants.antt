-- What is added and what is left to add give the whole; each record has a byte at least.
use Rattle.std.proofs.Common.{◌≡◌, ◌-◌, ◌≤◌, length, drop}
use Rattle.log_entry.specs.search.Lengths.{records_length}
use Rattle.log_entry.proofs.laws.Records.{length_from}
use Rattle.log_entry.proofs.records_length.Given as goal

abbrev pub invariant-loop : goal.invariant-loop
invariant-loop l =
    record {
      inside : l.at ≤ length l.s;
      each : l.counter ≤ l.at;
      left : length_from l.at (l.n - l.counter) (drop l.at l.s) ≡ records_length l.n l.s;
    }
