-- It asks each of the hands, and each two of them.
use Rattle.std.proofs.Common.{◌≡◌, length, rules, arith}
use Rattle.hand_rons.proofs.laws.Hands.{not_on_one_tile_is}
use Rattle.hand_rons.proofs.not_on_one_tile.Goals as goal

pub returns : goal.returns
returns c rs e =
    let a = c.args in
    let three : length a.hands ≡ 3 = search rules in
    rw (c.conflict.ensures, c.conflict-2.ensures, c.conflict-3.ensures)
    (not_on_one_tile_is a.number a.hands c.requires.0 c.requires.1 (omega (arith, c.requires.1)) rs e)
