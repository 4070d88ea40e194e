-- From one past to the next: what a position holds by its past it holds after an accepted booking, and so after every past.
use Rattle.std.specs.Prelude.{◌≡◌, refl, Bool, true, false, ◌||◌, cond, ℕ, ◌+◌, ◌/◌, ◌≤◌, ◌<◌, eqb, replicate}
use Rattle.std.proofs.Math.Path.{sym, ap}
use Rattle.std.proofs.Common.{◌∙◌, subst, arith, eqb-true, leb-false}
use mathlib.Core.List.{List, [], ◌∷◌, reverse_aux, reverse}
use Rattle.std.proofs.Math.Dec.{leb}
use Rattle.points.proofs.laws.Balance.{below_four}
use Rattle.position.specs.declared.Position.{Position}
use Rattle.position.specs.Booking.{Booking}
use Rattle.position.specs.Ledger.{fresh, is_set, is_declared, not_open, refusal_for, effect_of, applied, after, ledger_from, ledger}
use Rattle.position.specs.search.After.{over_after, hands_after}
use Rattle.position.proofs.laws.Form.{of_form}
use Rattle.position.proofs.laws.Effect.{is_mark, declared_applied, Kept}
use Rattle.position.proofs.laws.Kept.{fresh_kept, kept_form, after_kept}
use Rattle.position.proofs.laws.Refusals.{accepted_moves}
use Rattle.game.specs.Game.{Entry, fresh_game, game_from, standing}
use Rattle.game.proofs.laws.Standing.{AllIn, standing_in, game_standing}
use Rattle.game_rules.specs.Past.{sum_since, has_declared, hands_in, passes_in, dealer_in}
use Rattle.game_rules.specs.History.{History, EachWithPast, RiichiDeclared}
use Rattle.game_rules.proofs.laws.Accepted.{few_passes, deals}
use Rattle.game_rules.proofs.laws.Deal.{passes_more, same_passing, dealt, stayed, over_now}
use Rattle.game_rules.proofs.laws.Counter.{hands_more, hands_few, same_counter}
use Rattle.game_rules.proofs.laws.Sticks.{same_declared, same_sticks}
use Rattle.game_rules.proofs.laws.Feeders.{Eight, eight_after, NamedAs, lapsed, same_named}
use Rattle.game_rules.proofs.laws.RiichiDeclared.{accepted_agrees}

-- what is carried beside it
abbrev pub Holds : List Booking → Position → Type 0
Holds past l = History past l × Eight l.feeders × Kept l

-- not open: marked over, as at 200 hands
same_shut : (past : List Booking) (l : Position) → Kept l → is_set l.over ≡ leb 8 (passes_in past) || leb 200 (hands_in past) → l.hands ≡ hands_in past
    → not_open l ≡ leb 8 (passes_in past) || leb 200 (hands_in past)
unfolding not_open
same_shut past l k e n = rw (of_form l (kept_form l k), e) (go (leb 8 (passes_in past)) (eqb l.hands 200) (leb 200 (hands_in past)) refl refl)
  where
    go : (a b c : Bool) → eqb l.hands 200 ≡ b → leb 200 (hands_in past) ≡ c → ((a || c) || b) || false ≡ a || c
    go true b c p q = refl
    go false true true p q = refl
    go false false true p q = refl
    go false false false p q = refl
    go false true false p q = absurd (omega (arith, eqb-true l.hands 200 p, leb-false 200 (hands_in past) q))

first_declared : (i : ℕ) → i < 4 → is_declared fresh i ≡ has_declared [] i
unfolding fresh sum_since
first_declared = below_four (λ i. is_declared fresh i ≡ has_declared [] i) refl refl refl refl

first_named : NamedAs fresh.feeders []
unfolding fresh sum_since
first_named holder feeder yaku m n z = lapsed (replicate 8 0) refl holder feeder yaku m z

pub at_first : Holds [] fresh
unfolding fresh sum_since passes_in
at_first = (
  record {
    deal = λ m. (refl, refl);
    stays = λ m. absurd (omega arith);
    over = refl;
    shut = same_shut [] fresh fresh_kept refl refl;
    hands = refl;
    counter = refl;
    sticks = refl;
    declared = first_declared;
    feeders = first_named;
  },
  refl,
  fresh_kept,
)

module _ (past : List Booking) (l : Position) (h : History past l) (n : Eight l.feeders) (k : Kept l) (b : Booking) (e : refusal_for l b ≡ 0) where
  abbrev new : Position
  new = applied l (effect_of l b)

  abbrev passed : Bool
  passed = (effect_of l b).passes

  passes_now : passes_in (b ∷ past) ≡ passes_in past + cond passed 1 0
  passes_now = passes_more b past ∙ ap (λ (t : Bool). passes_in past + cond t 1 0) (sym (same_passing past l h b e))

  step_deal : passes_in (b ∷ past) < 8 → (new.dealer ≡ dealer_in (b ∷ past)) × (new.wind ≡ passes_in (b ∷ past) / 4)
  unfolding applied
  step_deal m =
      let d = deals past l h b e in
      rw passes_now (dealt l (passes_in past) (few_passes past l h b e) d.0 d.1 passed (omega (arith, passes_now)))

  step_stays : 8 ≤ passes_in (b ∷ past) → (new.dealer ≡ 3) × (new.wind ≡ 1)
  unfolding applied
  step_stays m =
      let d = deals past l h b e in
      stayed l (passes_in past) (few_passes past l h b e) d.0 d.1 passed (omega (arith, passes_now))

  step_over : is_set new.over ≡ leb 8 (passes_in (b ∷ past)) || leb 200 (hands_in (b ∷ past))
  unfolding applied
  step_over =
      let d = deals past l h b e in
      is_mark (over_after l (effect_of l b))
      ∙ over_now l (passes_in past) (few_passes past l h b e) d.0 d.1 (effect_of l b) (hands_few l b e)
      ∙ ap (λ (m : ℕ). leb 8 m || leb 200 (hands_after l (effect_of l b).finishes)) (sym passes_now)
      ∙ ap (λ (m : ℕ). leb 8 (passes_in (b ∷ past)) || leb 200 m) (hands_more past l h b)

  new_kept : Kept new
  new_kept = subst Kept (sym (accepted_moves l b new e refl).1) (after_kept l b k)

  step_applied : Holds (b ∷ past) (applied l (effect_of l b))
  unfolding applied
  step_applied = (
    record {
      deal = step_deal;
      stays = step_stays;
      over = step_over;
      shut = same_shut (b ∷ past) new new_kept step_over (hands_more past l h b);
      hands = hands_more past l h b;
      counter = same_counter past l h b e;
      sticks = same_sticks past l h b e;
      declared = λ i m. declared_applied l (effect_of l b) i m ∙ same_declared past l h b i m;
      feeders = same_named past l h n b e;
    },
    eight_after l b n,
    new_kept,
  )

  pub step : Holds (b ∷ past) (after l b)
  step = subst (Holds (b ∷ past)) (accepted_moves l b (applied l (effect_of l b)) e refl).1 step_applied

-- ---- every past

-- the position after the bookings of a past
unfoldable position_after : List Booking → Position
position_after [] = fresh
position_after (b ∷ past) = after (position_after past) b

-- each of them was accepted
abbrev AllAccepted : List Booking → Type 0
AllAccepted [] = Unit {0}
AllAccepted (b ∷ past) = (refusal_for (position_after past) b ≡ 0) × AllAccepted past

holds : (past : List Booking) → AllAccepted past → Holds past (position_after past)
unfolding position_after
holds [] a = at_first
holds (b ∷ past) a = let h = holds past a.1 in step past (position_after past) h.0 h.1 h.2 b a.0

each_declared : (past : List Booking) → AllAccepted past → EachWithPast RiichiDeclared past
each_declared [] a = tt
each_declared (b ∷ past) a = (accepted_agrees past (position_after past) (holds past a.1).0 b a.0, each_declared past a.1)

-- ---- the bookings left standing, the latest first

all_accepted : (bs past : List Booking) → AllIn (position_after past) bs → AllAccepted past → AllAccepted (reverse_aux bs past)
unfolding position_after
all_accepted [] past a p = p
all_accepted (b ∷ bs) past a p = all_accepted bs (b ∷ past) a.1 (a.0, p)

position_after_lem : (bs past : List Booking) → position_after (reverse_aux bs past) ≡ ledger_from (position_after past) bs
unfolding position_after ledger_from
position_after_lem [] past = refl
position_after_lem (b ∷ bs) past = position_after_lem bs (b ∷ past)

module _ (es : List Entry) where
  abbrev past : List Booking
  past = reverse (standing es)

  accepted : AllAccepted past
  unfolding position_after
  accepted = all_accepted (standing es) [] (standing_in es) tt

  position : position_after past ≡ (game_from fresh_game es).now
  unfolding position_after ledger
  position = position_after_lem (standing es) [] ∙ sym (game_standing es)

  pub history : History past (game_from fresh_game es).now
  history = subst (History past) position (holds past accepted).0

  pub riichi_declared : EachWithPast RiichiDeclared past
  riichi_declared = each_declared past accepted
