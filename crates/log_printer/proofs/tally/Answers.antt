-- Of a log that is longer only the first 65,536 bytes are taken.
use Rattle.std.proofs.Common.{sym, length-take-le, arith}
use Rattle.log_walk.proofs.laws.Through.{text_cut}
use Rattle.log_printer.proofs.tally.Goals as goal

pub slice_bounds-print_log-end : goal.slice_bounds-print_log-end
slice_bounds-print_log-end g c = sym (length-take-le 65536 c.args.s.now (omega (arith, c.if-whole.false)))

pub print_log-requires-2 : goal.print_log-requires-2
print_log-requires-2 g c = omega (arith, length-take-le 65536 c.args.s.now (omega (arith, c.if-whole.false)))

pub returns : goal.returns
returns g c = rw (text_cut c.args.s.now) at c.print_log-2.ensures
