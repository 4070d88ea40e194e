-- The eight fields of the first 25 bits.
use Rattle.std.proofs.Common.{sym}
use Rattle.bits.specs.Bits.{bits_of}
use Rattle.hand_record.specs.Record.{head_of}
use Rattle.hand_record.proofs.laws.Read.{head_at}
use Rattle.hand_record.proofs.header.Goals as goal

pub returns : goal.returns
unfolding head_of
returns c =
    rw (
      c.field-m.ensures,
      c.field-7.ensures,
      c.field-6.ensures,
      c.field-5.ensures,
      c.field-4.ensures,
      c.field-3.ensures,
      c.field-2.ensures,
      c.field.ensures,
    )
    (sym (head_at (bits_of c.args.s.now)))
