-- Return by return.
use Rattle.std.proofs.Common.{rules, ◌≡◌, ℕ, ◌≤◌, List, Ok, Err, sym, ap, ◌∙◌, arith, refl}
use Rattle.refusals.specs.Refusal.{number}
use Rattle.refusals.proofs.Numbers.{number_above}
use Rattle.hand.specs.declared.Held.{Held}
use Rattle.unfinished.specs.Unfinished.{numbered, read_of, refused_with}
use Rattle.unfinished.proofs.laws.Sound.{refusal_is, held_is, sound_held}
use Rattle.waits.proofs.laws.Exact.{all_kinds, found_unreadable, found_fifteen, found_waits}
use Rattle.waits.proofs.try_find.Goals as goal

-- past the reader's refusals there are at most four melds
few : (s : List ℕ) (x : Held) → numbered (Ok x) ≡ read_of s → x.m ≤ 4
few s x e =
    let q : x.m ≡ _ = ap (λ (x : Held). x.m) (held_is s (numbered (Ok x)) e refl) in
    omega (arith, (sound_held s (sym (refusal_is s (numbered (Ok x)) e))).few)

pub returns-in_err-held : goal.returns-in_err-held
returns-in_err-held c =
    let l : c.from_residual.result ≡ Err c.in_err-held.field-0.0 = search rules in
    let n = c.in_err-held.field-0.0 in
    rw l (found_unreadable _ _ (refused_with (number n)) c.in_err-held.ensures (number_above n))

pub returns-then-has_over_33 : goal.returns-then-has_over_33
returns-then-has_over_33 c = found_fifteen _ _ (numbered (Ok c.in_ok-held.held)) c.in_ok-held.ensures (omega arith) (sym c.has_over_33.ensures ∙ c.if-has_over_33.true)

pub wait_set-waits-requires : goal.wait_set-waits-requires
wait_set-waits-requires c = few _ _ c.in_ok-held.ensures

pub in_furiten-furiten-requires : goal.in_furiten-furiten-requires
in_furiten-furiten-requires c = all_kinds _ (sym c.has_over_33.ensures ∙ c.if-has_over_33.false)

pub returns : goal.returns
returns c =
    found_waits _ _ (numbered (Ok c.in_ok-held.held)) c.in_ok-held.ensures (omega arith) (sym c.has_over_33.ensures ∙ c.if-has_over_33.false) _ _ c.wait_set-waits.ensures
    c.in_furiten-furiten.ensures
