use Rattle.bits.proofs.laws.Bytes.{field_of}
use Rattle.bits.proofs.field.Goals as goal

pub returns : goal.returns
returns c =
    rw (c.shifted.ensures.0, c.byte.ensures.0, c.byte-2.ensures.0)
    (field_of c.args.s.now c.args.p c.args.w (λ d. (c.type_inv.s d).fits) c.requires.1 c.requires.0)
