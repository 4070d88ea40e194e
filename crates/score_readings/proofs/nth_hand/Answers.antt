-- By what the two searches kept.
use Rattle.std.proofs.Common.{◌≡◌, ◌<◌, ℕ, Bool, true, false, ◌&&◌, List, [], ◌∷◌, eqb, length, get_or, refl, ◌∙◌, arith, rules}
use lib.Pointwise.{pointwise}
use Rattle.reading.specs.declared.Reading.{Reading}
use Rattle.hand.specs.Hand.{concealed_tally}
use Rattle.score_best.specs.search.Best.{search_for}
use Rattle.score.specs.Named.{worth}
use Rattle.score.specs.search.HandScore.{kept_of}
use Rattle.score.proofs.laws.FullReading.{search_in, kept_in}
use Rattle.score_readings.specs.search.Found.{same_reading}
use Rattle.score_readings.proofs.laws.Found.{found_le, nth_none, nth_shown, nth_zero}
use Rattle.score_readings.proofs.nth_hand.Goals as goal

-- `==` of two readings is `same_reading`
groups_are : (g k : List ℕ) → length g ≡ 4 → length k ≡ 4 → pointwise eqb g k
    ≡ eqb (get_or g 0 0) (get_or k 0 0) && (eqb (get_or g 1 0) (get_or k 1 0) && (eqb (get_or g 2 0) (get_or k 2 0) && (eqb (get_or g 3 0) (get_or k 3 0) && true)))
groups_are [] k h l = absurd (omega arith)
groups_are (a ∷ []) k h l = absurd (omega arith)
groups_are (a ∷ b ∷ []) k h l = absurd (omega arith)
groups_are (a ∷ b ∷ c ∷ []) k h l = absurd (omega arith)
groups_are (a ∷ b ∷ c ∷ d ∷ e ∷ g) k h l = absurd (omega arith)
groups_are (a ∷ b ∷ c ∷ d ∷ []) [] h l = absurd (omega arith)
groups_are (a ∷ b ∷ c ∷ d ∷ []) (x ∷ []) h l = absurd (omega arith)
groups_are (a ∷ b ∷ c ∷ d ∷ []) (x ∷ y ∷ []) h l = absurd (omega arith)
groups_are (a ∷ b ∷ c ∷ d ∷ []) (x ∷ y ∷ z ∷ []) h l = absurd (omega arith)
groups_are (a ∷ b ∷ c ∷ d ∷ []) (x ∷ y ∷ z ∷ w ∷ []) h l = refl
groups_are (a ∷ b ∷ c ∷ d ∷ []) (x ∷ y ∷ z ∷ w ∷ v ∷ k) h l = absurd (omega arith)

regrouped : (p q s w x y z : Bool) → p && (q && ((w && (x && (y && (z && true)))) && s)) ≡ (((((p && q) && s) && w) && x) && y) && z
regrouped false q s w x y z = refl
regrouped true false s w x y z = refl
regrouped true true false false x y z = refl
regrouped true true false true false y z = refl
regrouped true true false true true false z = refl
regrouped true true false true true true false = refl
regrouped true true false true true true true = refl
regrouped true true true false x y z = refl
regrouped true true true true false y z = refl
regrouped true true true true true false z = refl
regrouped true true true true true true false = refl
regrouped true true true true true true true = refl

same_is : (a b : Reading) → length a.groups ≡ 4 → length b.groups ≡ 4
    → eqb a.shape b.shape && (eqb a.pair b.pair && (pointwise eqb a.groups b.groups && eqb a.place b.place)) ≡ same_reading a b
unfolding same_reading
same_is a b h l =
    let g : ℕ → Bool = λ i. eqb (get_or a.groups i 0) (get_or b.groups i 0) in
    rw (groups_are a.groups b.groups h l) (regrouped (eqb a.shape b.shape) (eqb a.pair b.pair) (eqb a.place b.place) (g 0) (g 1) (g 2) (g 3))

pub returns-then-n-eq0 : goal.returns-then-n-eq0
returns-then-n-eq0 c = let a = c.args in c.refused.ensures ∙ nth_zero a.h a.dealer a.wind a.n c.if-n-eq0.true

pub shown-requires : goal.shown-requires
shown-requires c =
    let a = c.args in
    let long : length a.h.held.melds ≡ 4 = search rules in
    let found = search_in a.h c.requires.0 long a.dealer a.wind c.hand_common_of-t.result c.concealed_tally-c.result c.search_for-b.result
    c.hand_common_of-t.ensures.0 c.concealed_tally-c.ensures a.n c.search_for-b.ensures in
    (c.hand_common_of-t.ensures.1, found_le a.h a.dealer a.wind a.n (omega (arith, c.if-n-eq0.false)) c.search_for-b.result found c.if-b.true)

pub returns-then-b : goal.returns-then-b
returns-then-b c =
    let a = c.args in
    let long : length a.h.held.melds ≡ 4 = search rules in
    let t = c.hand_common_of-t in
    let found = search_in a.h c.requires.0 long a.dealer a.wind t.result c.concealed_tally-c.result c.search_for-b.result t.ensures.0 c.concealed_tally-c.ensures a.n
    c.search_for-b.ensures in
    let best = kept_in a.h c.requires.0 long a.dealer a.wind t.result c.concealed_tally-c.result c.search_for-x.result t.ensures.0 c.concealed_tally-c.ensures
    c.search_for-x.ensures in
    nth_shown a.h a.dealer a.wind a.n (omega (arith, c.if-n-eq0.false)) c.search_for-b.result found c.requires.0 long t.result t.ensures.0 c.if-b.true
    c.search_for-x.result best c.eq.result (c.eq.ensures ∙ same_is c.search_for-x.result.reading c.search_for-b.result.reading (search rules) (search rules)) c.shown.result c.shown.ensures

pub returns : goal.returns
returns c =
    let a = c.args in
    let long : length a.h.held.melds ≡ 4 = search rules in
    let found = search_in a.h c.requires.0 long a.dealer a.wind c.hand_common_of-t.result c.concealed_tally-c.result c.search_for-b.result
    c.hand_common_of-t.ensures.0 c.concealed_tally-c.ensures a.n c.search_for-b.ensures in
    c.refused-2.ensures ∙ nth_none a.h a.dealer a.wind a.n (omega (arith, c.if-n-eq0.false)) c.search_for-b.result found c.if-b.false
