use Rattle.std.proofs.Common.{arith}
use Rattle.text.proofs.laws.Digits.{length_one, length_more}
use Rattle.text.proofs.laws.Put.{put_one, put_more}
use Rattle.text.proofs.+digits.Goals as goal

pub bounds-buf-at : goal.bounds-buf-at
bounds-buf-at t c = omega (arith, length_one c.args.n c.if-n-lt10.true)

pub returns-then-n-lt10 : goal.returns-then-n-lt10
returns-then-n-lt10 t c = put_one c.args.n c.args.at c.args.buf.now c.if-n-lt10.true

pub digits-e-requires : goal.digits-e-requires
digits-e-requires t c = (omega arith, omega (arith, length_more c.args.n c.if-n-lt10.false))

pub bounds-buf-e : goal.bounds-buf-e
bounds-buf-e t c = omega (arith, length_more c.args.n c.if-n-lt10.false, c.digits-e.ensures.place, c.digits-e.auto.buf)

pub overflow_add-result-2 : goal.overflow_add-result-2
overflow_add-result-2 t c = omega (arith, length_more c.args.n c.if-n-lt10.false, c.digits-e.ensures.place)

pub returns : goal.returns
returns t c = put_more c.args.n c.if-n-lt10.false c.digits-e.ensures
