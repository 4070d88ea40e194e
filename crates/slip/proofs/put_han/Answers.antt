-- The word, or h, which is no negative number.
use Rattle.std.proofs.Common.{◌<◌, ◌^◌, rules, w32}
use Rattle.std.proofs.lemmas.Int.{to_z_pos}
use Rattle.text.specs.Text.{signed_of}
use Rattle.slip.specs.Line.{labels}
use Rattle.slip.proofs.put_han.Goals as goal

pub returns-then-yakuman : goal.returns-then-yakuman
unfolding labels
returns-then-yakuman c = rw c.if-yakuman.true c.put_line.ensures

pub returns : goal.returns
unfolding labels signed_of
returns c =
    let small : c.args.h.0 < 2 ^ 31 = search rules in
    rw c.if-yakuman.false (rw (c.from.ensures, to_z_pos w32 c.args.h.0 small) at c.put_number.ensures)
