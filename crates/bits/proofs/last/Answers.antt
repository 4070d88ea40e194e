use Rattle.bits.proofs.laws.Bytes.{last_of}
use Rattle.bits.proofs.last.Goals as goal

pub returns : goal.returns
returns c = rw c.shifted.ensures.0 (last_of c.args.s.now c.args.w (λ d. (c.type_inv.s d).fits) c.requires.0 c.requires.1)
