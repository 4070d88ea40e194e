-- A record has 13 bytes at most.
use Rattle.std.proofs.Common.{arith}
use Rattle.hand_record.proofs.laws.Lengths.{record_inside}
use Rattle.log_entry.proofs.win_length.Goals as goal

pub overflow_add-result : goal.overflow_add-result
overflow_add-result c = omega (arith, c.in_ok-record_length.ensures.value, record_inside c.args.rest.now)
