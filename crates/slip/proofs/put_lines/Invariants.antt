-- k lines so far, and the rest of the page as it was.
use Rattle.std.proofs.Common.{◌≡◌, ◌*◌, ◌++◌, length, drop}
use Rattle.slip.specs.Slip.{line_at}
use Rattle.slip.proofs.laws.Lines.{first_lines}
use Rattle.slip.proofs.put_lines.Given as goal

abbrev pub invariant-loop-k : goal.invariant-loop-k
invariant-loop-k l = record {
  kept : length l.page ≡ length l.fn.page;
  long : length (first_lines (line_at l.a) l.k) ≡ 25 * l.k;
  written : l.page ≡ first_lines (line_at l.a) l.k ++ drop (25 * l.k) l.fn.page;
}
