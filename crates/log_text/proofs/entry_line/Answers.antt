use Rattle.log_walk.specs.Walk.{entry_line}
use Rattle.log_text.proofs.entry_line.Goals as goal

pub returns-clause-value : goal.returns-clause-value
unfolding entry_line
returns-clause-value c = c.line.ensures.value

pub returns-clause-buf_after : goal.returns-clause-buf_after
unfolding entry_line
returns-clause-buf_after c = c.line.ensures.buf_after

pub returns-clause-line_bound : goal.returns-clause-line_bound
unfolding entry_line
returns-clause-line_bound c = c.line.ensures.sticks_len_bound
