-- The bytes are copied into their part of the buffer.
use Rattle.std.proofs.Common.{◌≡◌, ◌+◌, ◌-◌, length, refl, arith}
use Rattle.text.proofs.laws.Put.{put_part}
use Rattle.text.proofs.put.Goals as goal

pub returns : goal.returns
returns c =
    let k : c.args.at + length c.args.from.now - c.args.at ≡ length c.args.from.now = omega arith in
    rw k (put_part c.args.buf.now _ _ c.args.at (length c.args.from.now) c.copy_from_slice.ensures.after refl c.requires)
