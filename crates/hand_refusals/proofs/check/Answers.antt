use Rattle.std.proofs.Common.{◌≡◌, sym, ◌∙◌, ℕ, ◌<◌, Bool, true, false, ◌||◌, List, ltb, get_or, ltb-false, arith}
use Rattle.tiles.specs.Tally.{tally_of}
use Rattle.tiles.proofs.laws.Below.{or_both, some_cong}
use Rattle.tiles.proofs.laws.Tally.{get_d_tally}
use Rattle.hand.specs.declared.Hand.{Hand}
use Rattle.hand.specs.Held.{wrong_held, descends, over_four}
use Rattle.hand.specs.Refusals.{field_over33, field_over, wrong_discarder, wrong_fields, in_record, wrong_by, wrong_situation, refusal_of}
use Rattle.hand_refusals.proofs.check.Goals as goal

-- past refusal 2 the winning tile is a kind
winning_kind : (h : Hand) (p : ℕ) → wrong_fields h p ≡ false → h.fields.winning < 34
unfolding wrong_fields
winning_kind h p e =
    let f = h.fields in
    let q = second (wrong_held h.held p) (field_over33 f) (field_over f) (wrong_discarder f) e in
    omega (arith, ltb-false 33 f.winning (or_both (ltb 33 f.indicator) (ltb 33 f.winning) q).1)
  where
    second : (a b c d : Bool) → a || b || c || d ≡ false → b ≡ false
    second a b c d x = (or_both a b (or_both (a || b) c (or_both (a || b || c) d x).0).0).1

-- the tests of the tally
four : (h : Hand) (t : List ℕ) (r : Bool) → t ≡ tally_of (in_record h) → r ≡ over_four (λ k. get_or t k 0) → r ≡ over_four (in_record h)
unfolding over_four
four h t r e q = q ∙ some_cong _ _ 34 (λ k g. rw (e, get_d_tally (in_record h) k g))

situated : (h : Hand) (t : List ℕ) (r : Bool) → t ≡ tally_of (in_record h) → h.fields.winning < 34
    → r ≡ wrong_by h.fields h.held (get_or t h.fields.winning 0) → r ≡ wrong_situation h
unfolding wrong_situation
situated h t r e l q = q ∙ rw (e, get_d_tally (in_record h) h.fields.winning l)

module _ (h : Hand) (p : ℕ) where
  two : wrong_fields h p ≡ true → 2 ≡ refusal_of h p
  unfolding refusal_of
  two e = rw e

  module _ (e2 : wrong_fields h p ≡ false) where
    three : descends h.held ≡ true → 3 ≡ refusal_of h p
    unfolding refusal_of
    three e = rw (e2, e)

    module _ (e3 : descends h.held ≡ false) where
      four_is : over_four (in_record h) ≡ true → 4 ≡ refusal_of h p
      unfolding refusal_of
      four_is e = rw (e2, e3, e)

      module _ (e4 : over_four (in_record h) ≡ false) where
        five : wrong_situation h ≡ true → 5 ≡ refusal_of h p
        unfolding refusal_of
        five e = rw (e2, e3, e4, e)

        none : wrong_situation h ≡ false → 0 ≡ refusal_of h p
        unfolding refusal_of
        none e = rw (e2, e3, e4, e)

pub returns-then-wrong_fields : goal.returns-then-wrong_fields
returns-then-wrong_fields c = two _ _ (sym c.wrong_fields.ensures ∙ c.if-wrong_fields.true)

pub returns-then-descends : goal.returns-then-descends
returns-then-descends c =
    three _ _ (sym c.wrong_fields.ensures ∙ c.if-wrong_fields.false) (sym c.descends.ensures ∙ c.if-descends.true)

pub returns-then-over_four : goal.returns-then-over_four
returns-then-over_four c =
    four_is _ _ (sym c.wrong_fields.ensures ∙ c.if-wrong_fields.false) (sym c.descends.ensures ∙ c.if-descends.false)
    (sym (four c.args.h c.record_tally-t.result _ c.record_tally-t.ensures c.over_four.ensures) ∙ c.if-over_four.true)

pub bounds-t-at : goal.bounds-t-at
bounds-t-at c = winning_kind _ _ (sym c.wrong_fields.ensures ∙ c.if-wrong_fields.false)

pub returns-then-wrong_situation : goal.returns-then-wrong_situation
returns-then-wrong_situation c =
    let e2 = sym c.wrong_fields.ensures ∙ c.if-wrong_fields.false in
    let t = c.record_tally-t in
    five _ _ e2 (sym c.descends.ensures ∙ c.if-descends.false)
    (sym (four c.args.h t.result _ t.ensures c.over_four.ensures) ∙ c.if-over_four.false)
    (sym (situated c.args.h t.result _ t.ensures (winning_kind _ _ e2) c.wrong_situation.ensures) ∙ c.if-wrong_situation.true)

pub returns : goal.returns
returns c =
    let e2 = sym c.wrong_fields.ensures ∙ c.if-wrong_fields.false in
    let t = c.record_tally-t in
    none _ _ e2 (sym c.descends.ensures ∙ c.if-descends.false)
    (sym (four c.args.h t.result _ t.ensures c.over_four.ensures) ∙ c.if-over_four.false)
    (sym (situated c.args.h t.result _ t.ensures (winning_kind _ _ e2) c.wrong_situation.ensures) ∙ c.if-wrong_situation.false)
