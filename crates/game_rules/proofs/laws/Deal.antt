-- The deal: it passes with an accepted booking where the past says so, and dealer, wind and the game's end are what is left of how often it has passed.
use Rattle.std.specs.Prelude.{◌≡◌, Bool, ◌&&◌, ◌||◌, cond, List, ◌∷◌, ℕ, ◌+◌, ◌%◌, ◌/◌, ◌≤◌, ◌<◌, leb, eqb}
use Rattle.std.proofs.Math.Path.{refl, sym, ap}
use Rattle.std.proofs.Common.{◌∙◌, arith, leb-true, leb-false, eqb-true, le-leb, eq-eqb, ne_eqb}
use Rattle.std.proofs.Math.Bool.{true, false, not, or-false, and-true, and-false}
use Rattle.std.proofs.lemmas.Bool.{eqb-false, lt-leb}
use Rattle.hand_rons.specs.Records.{records_of, is_winner}
use Rattle.hand_rons.proofs.laws.OneTile.{winner_of}
use Rattle.position.specs.declared.Position.{Position}
use Rattle.position.specs.Booking.{Booking, result, riichi, win, draw, chombo, pao, multi_ron}
use Rattle.position.specs.Ledger.{last_hand, is_ready, refusal_for, Effect, chombo_of, draw_of, is_at_fault, effect_of}
use Rattle.position.specs.Ledger.{is_last}
use Rattle.position.specs.search.After.{dealer_after, wind_after, hands_after, over_after}
use Rattle.game_rules.specs.Past.{is_win, has_won, is_chombo, has_passed, passes_in, dealer_in}
use Rattle.game_rules.specs.History.{History}
use Rattle.game_rules.proofs.laws.Accepted.{win_wins, multi_ron_wins, deals, draw_by_past}

-- ---- whether it passes

pub passes_more : (b : Booking) (past : List Booking) → passes_in (b ∷ past) ≡ passes_in past + cond (has_passed (dealer_in past) b past) 1 0
unfolding passes_in
passes_more b past = refl

-- a win that is no dealer's
childs : (some dealers : Bool) → some ≡ true → not dealers ≡ (some && not dealers) || false
childs some dealers e = rw e (sym (or-false (not dealers)))

module _ (past : List Booking) (l : Position) (h : History past l) where
  pub same_passing : (b : Booking) → refusal_for l b ≡ 0 → (effect_of l b).passes ≡ has_passed (dealer_in past) b past
  unfolding effect_of is_winner
  same_passing (riichi seat) e = refl
  same_passing (pao holder feeder yaku) e = refl
  same_passing (result (chombo seat)) e = refl
  same_passing (result (win s)) e =
      let d = (deals past l h (result (win s)) e).0 in
      ap not (ap (eqb (winner_of s)) d ∙ sym (or-false (eqb (winner_of s) (dealer_in past))))
      ∙ childs (is_win (result (win s)) past) (has_won (result (win s)) (dealer_in past)) (win_wins l past s e)
  same_passing (result (multi_ron number s)) e =
      let d = (deals past l h (result (multi_ron number s)) e).0 in
      ap (λ (seat : ℕ). not (is_winner (records_of number s) seat)) d
      ∙ childs (is_win (result (multi_ron number s)) past) (has_won (result (multi_ron number s)) (dealer_in past)) (multi_ron_wins l past number s e)
  same_passing (result (draw bits)) e = ap (λ (x : Effect). x.passes) (draw_by_past past l h bits) ∙ go (is_chombo (result (draw bits)) past)
    where
      go : (t : Bool) → (cond t (chombo_of l (is_at_fault l bits)) (draw_of l bits)).passes ≡ not (is_ready bits (dealer_in past)) && not t
      go true = sym (and-false (not (is_ready bits (dealer_in past))))
      go false =
          ap (λ (seat : ℕ). not (is_ready bits seat)) (deals past l h (result (draw bits)) e).0 ∙ sym (and-true (not (is_ready bits (dealer_in past))))

-- ---- dealer, wind and the end, n being how often it has passed

module _ (l : Position) (n : ℕ) (few : n < 8) (seat : l.dealer ≡ n % 4) (wind : l.wind ≡ n / 4) where
  -- after seven passes the deal is the last
  last_is : is_last l ≡ eqb n 7
  last_is = go (eqb l.wind 1) (eqb l.dealer 3) refl refl
    where
      go : (x y : Bool) → eqb l.wind 1 ≡ x → eqb l.dealer 3 ≡ y → x && y ≡ eqb n 7
      go true true q r = sym (eq-eqb n 7 (omega (arith, eqb-true l.wind 1 q, eqb-true l.dealer 3 r)))
      go true false q r = let z = eqb-false l.dealer 3 r in sym (ne_eqb n 7 (λ (e : n ≡ 7). omega arith))
      go false y q r = let z = eqb-false l.wind 1 q in sym (ne_eqb n 7 (λ (e : n ≡ 7). omega arith))

  dealer_now : (last : Bool) → eqb n 7 ≡ last → dealer_after l true ≡ cond (not last) ((l.dealer + 1) % 4) l.dealer
  dealer_now last e = ap (λ (t : Bool). cond (not t) ((l.dealer + 1) % 4) l.dealer) (last_is ∙ e)

  wind_now : wind_after l true ≡ cond (leb 3 n) 1 0
  wind_now = go (eqb l.dealer 3) refl
    where
      go : (t : Bool) → eqb l.dealer 3 ≡ t → cond t 1 l.wind ≡ cond (leb 3 n) 1 0
      go true q = rw (le-leb 3 n (omega (arith, eqb-true l.dealer 3 q)))
      go false q = by (leb 3 n) refl
        where
          by : (u : Bool) → leb 3 n ≡ u → l.wind ≡ cond u 1 0
          by true r = let z = eqb-false l.dealer 3 q in omega (arith, leb-true 3 n r)
          by false r = omega (arith, leb-false 3 n r)

  pub dealt : (p : Bool) → n + cond p 1 0 < 8 → (dealer_after l p ≡ (n + cond p 1 0) % 4) × (wind_after l p ≡ (n + cond p 1 0) / 4)
  dealt false m = (omega arith, omega arith)
  dealt true m =
      let d : (l.dealer + 1) % 4 ≡ (n + 1) % 4 = omega arith in
      (dealer_now false (ne_eqb n 7 (λ (e : n ≡ 7). omega arith)) ∙ d, wind_now ∙ go (leb 3 n) refl)
    where
      go : (t : Bool) → leb 3 n ≡ t → cond t 1 0 ≡ (n + 1) / 4
      go true q = omega (arith, leb-true 3 n q)
      go false q = omega (arith, leb-false 3 n q)

  pub stayed : (p : Bool) → 8 ≤ n + cond p 1 0 → (dealer_after l p ≡ 3) × (wind_after l p ≡ 1)
  stayed false m = absurd (omega arith)
  stayed true m =
      let d : l.dealer ≡ 3 = omega arith in
      (dealer_now true (eq-eqb n 7 (omega arith)) ∙ d, wind_now ∙ ap (λ (t : Bool). cond t 1 0) (le-leb 3 n (omega arith)))

  ended : (p : Bool) → p && is_last l ≡ leb 8 (n + cond p 1 0)
  ended false = sym (lt-leb 8 (n + 0) (omega arith))
  ended true = last_is ∙ go (eqb n 7) refl
    where
      go : (t : Bool) → eqb n 7 ≡ t → t ≡ leb 8 (n + 1)
      go true q = sym (le-leb 8 (n + 1) (omega (arith, eqb-true n 7 q)))
      go false q = let z = eqb-false n 7 q in sym (lt-leb 8 (n + 1) (omega arith))

  -- "it is marked so at 200 finished hands too", which are never more
  pub over_now : (e : Effect) → hands_after l e.finishes ≤ last_hand
      → over_after l e ≡ leb 8 (n + cond e.passes 1 0) || leb last_hand (hands_after l e.finishes)
  over_now e m =
      ap (λ (t : Bool). t || eqb hands last_hand) (ended e.passes)
      ∙ ap (λ (t : Bool). leb 8 (n + cond e.passes 1 0) || t) (go (eqb hands last_hand) refl)
    where
      hands : ℕ
      hands = hands_after l e.finishes

      go : (t : Bool) → eqb hands last_hand ≡ t → t ≡ leb last_hand hands
      go true q = sym (le-leb last_hand hands (omega (arith, eqb-true hands last_hand q)))
      go false q = let z = eqb-false hands last_hand q in sym (lt-leb last_hand hands (omega arith))
