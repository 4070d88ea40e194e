-- The choice is that of the table, and can be made where the test says so.
use Rattle.ready_choices.proofs.laws.Makes.{read_parts, makes_read, makes_unreadable}
use Rattle.ready_choices.proofs.Begun.regular.Goals as goal

pub returns-then-possible : goal.returns-then-possible
returns-then-possible c =
    let (x, y, z) = read_parts c.args.e c.from.result c.from.ensures c.requires.1 in
    rw c.taking.ensures (makes_read _ _ _ _ _ _ _ c.requires.0 c.is_run_start.ensures x y z c.if-possible.true)

pub returns-else-possible : goal.returns-else-possible
returns-else-possible c =
    let (x, y, z) = read_parts c.args.e c.from.result c.from.ensures c.requires.1 in
    makes_unreadable _ _ _ _ _ c.args.self _ c.requires.0 c.is_run_start.ensures x y z c.if-possible.false
