-- fu is no negative number.
use Rattle.std.proofs.Common.{◌<◌, ◌^◌, rules, w32}
use Rattle.std.proofs.lemmas.Int.{to_z_pos}
use Rattle.text.specs.Text.{signed_of}
use Rattle.slip.specs.Line.{labels}
use Rattle.slip.proofs.put_fu.Goals as goal

pub returns : goal.returns
unfolding labels signed_of
returns c =
    let small : c.args.fu.0 < 2 ^ 31 = search rules in
    rw (c.from.ensures, to_z_pos w32 c.args.fu.0 small) at c.put_number.ensures
