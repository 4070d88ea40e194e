-- Shape and pair, the codes, then place and gain.
use Rattle.std.proofs.Common.{◌≡◌, ◌-◌, length, rules, sym, ◌∙◌, arith, length-take-le}
use Rattle.std.proofs.Math.ListN.{length-replicate}
use Rattle.bits.proofs.laws.Pack.{take_replicate, below_replicate, sum_replicate}
use Rattle.claim_writer.proofs.laws.Found.{regular_stored}
use Rattle.claim_writer.proofs.pack_regular.Goals as goal

pub pack_into-requires-2 : goal.pack_into-requires-2
pack_into-requires-2 c =
    let x = c.args.c in
    let four : length x.groups ≡ 4 = search rules in
    let n = 4 - x.m in
    let l = length-take-le n x.groups (omega arith) in
    rw (take_replicate n 4 7 (omega arith)) (
      length-replicate n 7 ∙ sym l,
      below_replicate 9 n 7 (omega arith),
      omega (arith, sum_replicate n 7, c.pack_into.auto),
    )

pub returns : goal.returns
returns c =
    regular_stored c.args.c c.requires.0 (search rules) c.requires.1 c.pack_into.new.b c.pack_into-2.new.b c.pack_into-3.new.b
    c.pack_into.ensures c.pack_into-2.ensures c.pack_into-3.ensures
