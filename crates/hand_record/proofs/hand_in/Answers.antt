-- What the calls gave is the hand that bits are, or its refusal.
use Rattle.std.proofs.Common.{◌≡◌, ℕ, ◌+◌, ◌*◌, ◌-◌, ◌≤◌, List, length, sym, ap, ◌∙◌, lt-ltb}
use Rattle.refusals.proofs.Numbers.{number_above}
use Rattle.bits.specs.Bits.{bits_of}
use Rattle.hand_record.specs.Record.{length_of, pad_of, answer_by}
use Rattle.hand_record.proofs.laws.Read.{whole, padding_last, answer_in_by}
use Rattle.hand_record.proofs.hand_in.Goals as goal

-- the record's widths are its bytes
room : (s : List ℕ) (m : ℕ) → m ≤ 4 → length s ≡ length_of m → 25 + 8 * m + 6 * (13 - 3 * m) + pad_of m ≡ 8 * length s
room s m h e = (whole m h).0 ∙ ap (λ (n : ℕ). 8 * n) (sym e)

pub returns-in-Ok : goal.returns-in-Ok
unfolding answer_by
returns-in-Ok c =
    let a = c.args in
    answer_in_by a.m (bits_of a.s.now) a.f c.held_in-held.result c.from.result 0 c.requires.2 c.held_in-held.ensures
    (c.from.ensures ∙ c.last-padding.ensures ∙ padding_last 25 a.m (pad_of a.m) a.s.now (room a.s.now a.m c.requires.0 c.requires.1))
    c.in-Ok.ensures

pub returns-in-Err : goal.returns-in-Err
unfolding answer_by
returns-in-Err c =
    let a = c.args in
    let made =
    answer_in_by a.m (bits_of a.s.now) a.f c.held_in-held.result c.from.result _ c.requires.2 c.held_in-held.ensures
    (c.from.ensures ∙ c.last-padding.ensures ∙ padding_last 25 a.m (pad_of a.m) a.s.now (room a.s.now a.m c.requires.0 c.requires.1))
    c.in-Err.ensures in
    c.refused.ensures ∙ rw (lt-ltb 0 _ (number_above c.in-Err.r)) at made
