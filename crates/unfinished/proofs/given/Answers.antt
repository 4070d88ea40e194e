-- What the calls gave is the tiles held that bits are, or their refusal.
use Rattle.std.proofs.Common.{rules, ◌≡◌, ℕ, ◌+◌, ◌*◌, ◌-◌, ◌≤◌, List, Err, length, sym, ap, ◌∙◌, lt-ltb}
use Rattle.refusals.proofs.Numbers.{number_above}
use Rattle.hand.specs.declared.Held.{Held}
use Rattle.hand_record.proofs.laws.Read.{padding_last}
use Rattle.unfinished.specs.Unfinished.{length_of, pad_of, held_refusal, given_by}
use Rattle.unfinished.proofs.laws.Read.{whole}
use Rattle.unfinished.proofs.given.Goals as goal

room : (s : List ℕ) (m : ℕ) → m ≤ 4 → length s ≡ length_of m → 3 + 8 * m + 6 * (13 - 3 * m) + pad_of m ≡ 8 * length s
room s m h e = (whole m h).0 ∙ ap (λ (n : ℕ). 8 * n) (sym e)

-- the refusal, by the padding that the call gave
made : (x : Held) (p q j : ℕ) → j ≡ held_refusal x p → p ≡ q → j ≡ held_refusal x q
made x p q j e h = e ∙ ap (held_refusal x) h

pub returns-in_err-check : goal.returns-in_err-check
unfolding given_by
returns-in_err-check c =
    let a = c.args in
    let p = c.last-padding.ensures ∙ padding_last 3 a.m (pad_of a.m) a.s.now (room a.s.now a.m c.requires.0 c.requires.1) in
    let m = made c.held_in-held.result _ _ _ c.in_err-check.ensures p in
    let l : c.from_residual.result ≡ Err c.in_err-check.field-0.0 = search rules in
    rw (l, ← c.held_in-held.ensures, ← m, lt-ltb 0 _ (number_above c.in_err-check.field-0.0))

pub returns : goal.returns
unfolding given_by
returns c =
    let a = c.args in
    let p = c.last-padding.ensures ∙ padding_last 3 a.m (pad_of a.m) a.s.now (room a.s.now a.m c.requires.0 c.requires.1) in
    let m = made c.held_in-held.result _ _ _ c.in_ok-check.ensures p in
    rw (← c.held_in-held.ensures, ← m)
