use Rattle.std.proofs.Common.{ℕ, ◌<◌, pos, get_or, arith, rules}
use Rattle.position.proofs.laws.Sums.{plus_is}
use Rattle.position_moves.proofs.pay.Goals as goal

pub returns : goal.returns
returns c =
    let sum = λ (i : ℕ) (l : i < 4). plus_is (get_or c.args.s i (pos 0)) (get_or c.args.by i (pos 0)) (c.requires.0 i l) (c.requires.1 i l) in
    let s0 = sum 0 (omega arith) in
    let s1 = sum 1 (omega arith) in
    let s2 = sum 2 (omega arith) in
    let s3 = sum 3 (omega arith) in
    rw (← s0, ← s1, ← s2, ← s3) (search rules)
