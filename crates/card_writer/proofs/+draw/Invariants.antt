-- What is left to write gives the whole.
use Rattle.std.proofs.Common.{◌-◌, take}
use Rattle.card_writer.specs.search.Written.{written}
use Rattle.card_writer.proofs.laws.Put.{Left}
use Rattle.card_writer.proofs.+draw.Given as goal

abbrev pub invariant-loop-a : goal.invariant-loop-a
invariant-loop-a l = Left l.initial.buf l.at (written (take (l.d.size - l.left) l.prefix) l.d.groups l.left l.d.end l.low l.t) l.buf l.e
    (written (take (l.d.size - l.left) l.prefix) l.d.groups l.left l.d.end l.a l.t)

abbrev pub decreases-draw : goal.decreases-draw
decreases-draw l = l.left
