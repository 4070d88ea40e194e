-- The conditions in order.
use Rattle.std.proofs.Common.{◌≡◌, sym, ◌∙◌, ℕ, Bool, true, false, List, get_or}
use Rattle.tiles.specs.Tally.{tally_of}
use Rattle.tiles.proofs.laws.Below.{some_cong}
use Rattle.tiles.proofs.laws.Tally.{get_d_tally}
use Rattle.hand.specs.declared.Held.{Held}
use Rattle.hand.specs.Held.{in_held, wrong_held, descends, over_four}
use Rattle.unfinished.specs.Unfinished.{held_refusal}
use Rattle.unfinished.proofs.check.Goals as goal

module _ (x : Held) (p : ℕ) where
  two : wrong_held x p ≡ true → 2 ≡ held_refusal x p
  unfolding held_refusal
  two e = rw e

  module _ (e2 : wrong_held x p ≡ false) where
    three : descends x ≡ true → 3 ≡ held_refusal x p
    unfolding held_refusal
    three e = rw (e2, e)

    module _ (e3 : descends x ≡ false) where
      four : over_four (in_held x) ≡ true → 4 ≡ held_refusal x p
      unfolding held_refusal
      four e = rw (e2, e3, e)

      none : over_four (in_held x) ≡ false → 0 ≡ held_refusal x p
      unfolding held_refusal
      none e = rw (e2, e3, e)

-- the test of the tally
counted : (x : Held) (t : List ℕ) (r : Bool) → t ≡ tally_of (in_held x) → r ≡ over_four (λ k. get_or t k 0) → over_four (in_held x) ≡ r
unfolding over_four
counted x t r e q = sym (q ∙ some_cong _ _ 34 (λ k g. rw (e, get_d_tally (in_held x) k g)))

pub returns-then-wrong_held : goal.returns-then-wrong_held
returns-then-wrong_held c = two _ _ (sym c.wrong_held.ensures ∙ c.if-wrong_held.true)

pub returns-then-descends : goal.returns-then-descends
returns-then-descends c = three _ _ (sym c.wrong_held.ensures ∙ c.if-wrong_held.false) (sym c.descends.ensures ∙ c.if-descends.true)

pub returns-then-over_four : goal.returns-then-over_four
returns-then-over_four c =
    four _ _ (sym c.wrong_held.ensures ∙ c.if-wrong_held.false) (sym c.descends.ensures ∙ c.if-descends.false)
    (counted _ c.held_tally-t.result c.over_four.result c.held_tally-t.ensures c.over_four.ensures ∙ c.if-over_four.true)

pub returns : goal.returns
returns c =
    none _ _ (sym c.wrong_held.ensures ∙ c.if-wrong_held.false) (sym c.descends.ensures ∙ c.if-descends.false)
    (counted _ c.held_tally-t.result c.over_four.result c.held_tally-t.ensures c.over_four.ensures ∙ c.if-over_four.false)
