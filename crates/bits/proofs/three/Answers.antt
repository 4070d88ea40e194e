use Rattle.bits.proofs.laws.Bytes.{three_of_lem}
use Rattle.bits.proofs.three.Goals as goal

pub returns : goal.returns
returns c =
    rw (c.shifted-a.ensures.0, c.shifted-b.ensures.0, c.shifted-c.ensures.0)
    (three_of_lem c.args.s.now c.args.p c.args.w (λ d. (c.type_inv.s d).fits) _ c.word.ensures c.requires.2 c.requires.1)
