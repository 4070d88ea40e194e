-- What is printed and what is left make up the text.
use Rattle.std.proofs.Common.{length}
use Rattle.log_walk.specs.Walk.{text_left}
use Rattle.log_printer.proofs.Kept.{Kept}
use Rattle.log_printer.proofs.print_log.Given as goal

abbrev pub invariant-loop-page : goal.invariant-loop-page
invariant-loop-page g l = Kept l.s l.page l.w l.printed

abbrev pub decreases-loop-page : goal.decreases-loop-page
decreases-loop-page g l = length (text_left l.w l.s)
