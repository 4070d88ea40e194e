-- Three records have 39 bytes at most.
use Rattle.std.proofs.Common.{arith}
use Rattle.log_entry.proofs.laws.Records.{records_inside}
use Rattle.log_entry.proofs.multi_ron_length.Goals as goal

pub overflow_add-result : goal.overflow_add-result
overflow_add-result c = omega (arith, c.in_ok-records_length.ensures.value, records_inside c.args.argument c.args.rest.now)
