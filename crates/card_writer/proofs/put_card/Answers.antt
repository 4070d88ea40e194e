-- The tiles are copied into their part of the buffer.
use Rattle.std.proofs.Common.{◌≡◌, ◌+◌, ◌-◌, length, length-take-le, rules, arith}
use Rattle.text.proofs.laws.Put.{put_part}
use Rattle.card_writer.proofs.put_card.Goals as goal

pub returns : goal.returns
returns c =
    let l : length c.args.card ≡ 8 = search rules in
    let k : c.args.at + c.args.size - c.args.at ≡ c.args.size = omega arith in
    rw k (put_part c.args.buf.now _ _ c.args.at c.args.size c.copy_from_slice.ensures.after (length-take-le c.args.size c.args.card (omega (arith, l))) c.requires.1)
