-- By where it ends, and by what Read gives of it.
use Rattle.std.proofs.Common.{rules, ◌≡◌, ℕ, Option, unwrap_or, sym, ap, ◌∙◌, take, Err, length-take-le}
use Rattle.refusals.specs.declared.Refusal.TheVariants.{Length}
use Rattle.refusals.proofs.Numbers.{number_above}
use Rattle.hand_record.specs.Record.{HandRead, refusal_in, refused_with, hand_of}
use Rattle.hand_record.proofs.laws.Bounds.{given_read, given_hand}
use Rattle.hand_rons.specs.Records.{cut_of}
use Rattle.hand_rons.proofs.laws.Cut.{first_inside, first_broken, first_unreadable_lem, first_read}
use Rattle.hand_rons.proofs.read_first.Goals as goal

pub returns-in_err-end : goal.returns-in_err-end
returns-in_err-end c =
    let a = c.args in
    let e : 0 ≡ cut_of a.number a.s.now = ap (λ (o : Option ℕ). unwrap_or o 0) (sym c.in_err-end.ensures.ok_part) ∙ c.cut.ensures in
    let l : c.from_residual.result ≡ Err Length = search rules in
    rw l (first_broken a.number a.s.now c.requires 0 e (hand_of (refused_with 0)) (λ i. 0))

pub slice_bounds-read-end : goal.slice_bounds-read-end
slice_bounds-read-end c =
    let a = c.args in
    let e : c.in_ok-end.end ≡ cut_of a.number a.s.now = ap (λ (o : Option ℕ). unwrap_or o 0) (sym c.in_ok-end.ensures.ok_part) ∙ c.cut.ensures in
    sym (length-take-le c.in_ok-end.end a.s.now (first_inside a.number a.s.now c.requires c.in_ok-end.end e))

pub returns-in_err-hand : goal.returns-in_err-hand
returns-in_err-hand c =
    let a = c.args in
    let e : c.in_ok-end.end ≡ cut_of a.number a.s.now = ap (λ (o : Option ℕ). unwrap_or o 0) (sym c.in_ok-end.ensures.ok_part) ∙ c.cut.ensures in
    let l : c.from_residual-in_err-hand.result ≡ Err c.in_err-hand.field-0.0 = search rules in
    rw l (first_unreadable_lem a.number a.s.now c.requires c.in_ok-end.end e _ (hand_of (refused_with 0))
    (ap (λ (r : HandRead). refusal_in r.answer) (sym c.read.ensures) ∙ sym c.in_err-hand.ensures.refusal, number_above c.in_err-hand.field-0.0))

pub returns : goal.returns
returns c =
    let a = c.args in
    let bytes = take c.in_ok-end.end a.s.now in
    let e : c.in_ok-end.end ≡ cut_of a.number a.s.now = ap (λ (o : Option ℕ). unwrap_or o 0) (sym c.in_ok-end.ensures.ok_part) ∙ c.cut.ensures in
    first_read a.number a.s.now c.requires c.in_ok-end.end e c.in_ok-hand.hand
    (given_read bytes c.read.result c.read.ensures c.in_ok-hand.ensures.refusal) (given_hand bytes c.read.result c.read.ensures c.in_ok-hand.ensures.hand)
