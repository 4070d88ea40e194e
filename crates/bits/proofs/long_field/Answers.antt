use Rattle.bits.proofs.laws.Bytes.{long_of}
use Rattle.bits.proofs.long_field.Goals as goal

pub returns : goal.returns
returns c =
    rw (c.shifted.ensures.0, c.byte.ensures.0, c.byte-2.ensures.0, c.byte-3.ensures.0)
    (long_of c.args.s.now c.args.p c.args.w (λ d. (c.type_inv.s d).fits) c.requires.1 c.requires.0)
