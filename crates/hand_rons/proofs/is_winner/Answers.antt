-- It asks each of the hands.
use Rattle.std.proofs.Common.{◌≡◌, length, rules, arith}
use Rattle.hand_rons.proofs.laws.Hands.{wins_is}
use Rattle.hand_rons.proofs.is_winner.Goals as goal

pub returns : goal.returns
returns c rs e =
    let a = c.args in
    let three : length a.hands ≡ 3 = search rules in
    wins_is a.number a.hands c.requires.0 c.requires.1 (omega (arith, c.requires.1)) rs e a.seat
