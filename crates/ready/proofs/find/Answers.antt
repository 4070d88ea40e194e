-- What the reader refuses is refused, else the nearest ready hand is given.
use Rattle.std.proofs.Common.{refl, Ok, arith}
use Rattle.refusals.specs.Refusal.{number}
use Rattle.refusals.proofs.Numbers.{number_above}
use Rattle.unfinished.specs.Unfinished.{numbered, refused_with}
use Rattle.ready.proofs.laws.Answer.{answer_refused, same_melds_read, answer_found}
use Rattle.ready.proofs.ExactlyOne.{one_number}
use Rattle.ready.proofs.find.Goals as goal

pub returns-in-Err : goal.returns-in-Err
returns-in-Err c =
    let i = answer_refused c.args.s.now (refused_with (number c.in-Err.r)) c.in-Err.ensures (λ z. omega (arith, z, number_above c.in-Err.r)) in
    rw c.from.ensures.value (record { refusal_value = one_number c.args.s.now _ i; answer = i })

pub nearest_to-requires : goal.nearest_to-requires
nearest_to-requires c = same_melds_read _ (numbered (Ok c.in-Ok.held)) c.in-Ok.ensures refl

pub returns-in-Ok : goal.returns-in-Ok
returns-in-Ok c =
    let i =
    answer_found c.args.s.now (numbered (Ok c.in-Ok.held)) c.in-Ok.ensures refl c.nearest_to.result c.nearest_to.ensures.0 c.nearest_to.ensures.1 in
    record { refusal_value = one_number c.args.s.now _ i; answer = i }
