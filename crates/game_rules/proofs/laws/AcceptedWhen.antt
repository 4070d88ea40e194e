-- When a booking is accepted, by its past.
use Rattle.std.specs.Prelude.{◌≡◌, refl, Bool, true, false, ◌||◌, not, cond, ◌↔◌, List, ℕ, zero, suc, ◌+◌, ◌≤◌, ◌<◌, ltb, eqb, pos}
use Rattle.std.proofs.Common.{sym, ◌∙◌, inl, inr, arith}
use borrow.Author.Tests.{ltb-false, le-ltb, eqb-true, eqb-false, ne_eqb}
use Rattle.std.specs.Int.Signed.{lt_z}
use Rattle.hand_record.proofs.Claims.{sound}
use Rattle.hand_record.proofs.laws.Bounds.{read_bounds}
use Rattle.hand_rons.specs.Records.{records_of, not_on_one_tile}
use Rattle.reading.specs.All.{Each, none, also}
use Rattle.position.specs.declared.Position.{Position}
use Rattle.position.specs.Booking.{Booking, result, riichi, win, draw, chombo, pao, multi_ron}
use Rattle.position.specs.Ledger.{score_at, is_set, not_open, feeder_index, feeder_at, refusal_for, refusals_of}
use Rattle.position.specs.Wins.{IsWinning}
use Rattle.position.proofs.laws.Accepted as accepted
use Rattle.position.proofs.laws.Form.{InForm}
use Rattle.position.proofs.laws.Kept.{kept_form}
use Rattle.position.proofs.laws.Pao.{right_pao, feeder_small}
use Rattle.position.proofs.laws.Refusals.{riichi_by, chombo_by, draw_by, pao_by}
use Rattle.position.proofs.laws.Tiles.{win_accepted_when, multi_ron_accepted_when}
use Rattle.game.specs.Game.{Entry, booking, fresh_game, game_refusal, game_from}
use Rattle.game.proofs.laws.Lists.{both_kept, plain_refusal}
use Rattle.game_rules.specs.Past.{has_declared, has_named}
use Rattle.game_rules.specs.History.{History, IsOpen, WinsBy}
use Rattle.game_rules.proofs.laws.Feeders.{OneOfTwo, index_below, two_bounds}
use Rattle.game_rules.proofs.laws.RiichiDeclared.{record_agrees, agrees_record}

each_of : {P Q : List ℕ → Type 0} → ((s : List ℕ) → P s → Q s) → {ss : List (List ℕ)} → Each P ss → Each Q ss
each_of f none = none
each_of f (also {x = s} p ps) = also (f s p) (each_of f ps)

module _ (past : List Booking) (l : Position) (h : History past l) where
  opened : not_open l ≡ false → IsOpen past
  opened o = sym h.shut ∙ o

  pub riichi_when : (seat : ℕ) → (refusal_for l (riichi seat) ≡ 0)
      ↔ ((seat ≤ 3) × IsOpen past × (has_declared past seat ≡ false) × (lt_z (score_at l seat) (pos 1000) ≡ false))
  riichi_when seat = (
    λ e.
        let a = accepted.riichi_accepted l seat e in
        (a.0, opened a.1, sym (h.declared seat (omega (arith, a.0))) ∙ a.2, a.3),
    λ a. riichi_by l seat a.0 (h.shut ∙ a.1) (h.declared seat (omega (arith, a.0)) ∙ a.2) false a.3,
  )

  -- what neither Score nor 11 refuses, by the position and by its past
  wins_by : (s : List ℕ) → IsWinning l s → WinsBy past l s
  wins_by s y = (y.0, y.1, record_agrees past l h s (read_bounds s ((sound s).0 y.0)).winner y.2)

  by_wins : (s : List ℕ) → WinsBy past l s → IsWinning l s
  by_wins s y = (y.0, y.1, agrees_record past l h s (read_bounds s ((sound s).0 y.0)).winner y.2)

  pub win_when : (s : List ℕ) → (refusal_for l (result (win s)) ≡ 0) ↔ (IsOpen past × WinsBy past l s)
  win_when s =
      let w = win_accepted_when l s (refusal_for l (result (win s))) refl in
      (λ e. let a = w.0 e in (opened a.0, wins_by s a.1), λ a. w.1 (h.shut ∙ a.0, by_wins s a.1))

  pub multi_ron_when : (number : ℕ) (s : List ℕ) → let ss = records_of number s in
      (refusal_for l (result (multi_ron number s)) ≡ 0)
      ↔ (IsOpen past × (0 < number) × (number ≤ 3) × Each (WinsBy past l) ss × (not_on_one_tile ss ≡ false))
  multi_ron_when number s =
      let w = multi_ron_accepted_when l number s (refusal_for l (result (multi_ron number s))) refl in (
        λ e. let a = w.0 e in (opened a.0, a.1, a.2, each_of wins_by a.3, a.4),
        λ a. w.1 (h.shut ∙ a.0, a.1, a.2, each_of by_wins a.3, a.4),
      )

  few_bits : (bits : ℕ) → refusal_for l (result (draw bits)) ≡ 0 → bits ≤ 15
  unfolding refusal_for refusals_of
  few_bits bits e = ltb-false 15 bits (accepted.cond_zero (ltb 15 bits) 7 (cond (not_open l) 9 0) e).0

  pub draw_when : (bits : ℕ) → (refusal_for l (result (draw bits)) ≡ 0) ↔ ((bits ≤ 15) × IsOpen past)
  draw_when bits = (
    λ e. (few_bits bits e, opened (accepted.draw_accepted l bits e)),
    λ a. draw_by l bits a.0 false (h.shut ∙ a.1),
  )

  pub chombo_when : (seat : ℕ) → (refusal_for l (result (chombo seat)) ≡ 0) ↔ ((seat ≤ 3) × IsOpen past)
  chombo_when seat = (
    λ e. let a = accepted.chombo_accepted l seat e in (a.0, opened a.1),
    λ a. chombo_by l seat a.0 false (h.shut ∙ a.1),
  )

-- ---- a pao

-- nobody is named at a index
free_of : (n : ℕ) → n ≤ 4 → ((f : ℕ) → f ≤ 3 → eqb n (1 + f) ≡ false) → is_set n ≡ false
free_of zero m e = refl
free_of (suc n) m e = absurd (eqb-false (suc n) (1 + n) (e n (omega arith)) (omega arith))

of_free : (n f : ℕ) → is_set n ≡ false → eqb n (1 + f) ≡ false
of_free n f e = let z = ltb-false 0 n e in ne_eqb n (1 + f) (λ (w : n ≡ 1 + f). omega arith)

one_of_two : (yaku : ℕ) → 28 ≤ yaku → yaku ≤ 29 → OneOfTwo yaku
one_of_two yaku a b = go (eqb yaku 28) refl
  where
    go : (t : Bool) → eqb yaku 28 ≡ t → OneOfTwo yaku
    go true q = inl (eqb-true yaku 28 q)
    go false q = let z = eqb-false yaku 28 q in inr (omega arith)

either_yaku : (yaku : ℕ) → OneOfTwo yaku → eqb yaku 28 || eqb yaku 29 ≡ true
either_yaku yaku (inl e) = rw e
either_yaku yaku (inr e) = rw e

none_wrong : (a b c : Bool) → a ≡ false → b ≡ true → c ≡ false → a || not b || c ≡ false
none_wrong a b c p q r = rw (p, q, r)

module _ (past : List Booking) (l : Position) (h : History past l) (form : InForm l) (holder feeder yaku : ℕ) where
  abbrev pub PaoWhen : Type 0
  PaoWhen =
      (holder ≤ 3) × (feeder ≤ 3) × IsOpen past × (holder ≡ feeder → ⊥) × OneOfTwo yaku × ((f : ℕ) → f ≤ 3 → has_named past holder f yaku ≡ false)

  abbrev n : ℕ
  n = feeder_at l (feeder_index holder yaku)

  accepted_then : refusal_for l (pao holder feeder yaku) ≡ 0 → PaoWhen
  accepted_then e =
      let a = accepted.pao_accepted l holder feeder yaku e in
      let r = right_pao l holder feeder yaku a.3 in
      let y = one_of_two yaku r.1.0 r.1.1 in (
        a.0,
        a.1,
        opened past l h a.2,
        eqb-false holder feeder r.0,
        y,
        λ f m. sym (h.feeders holder f yaku (omega (arith, a.0)) (omega arith) y) ∙ of_free n f r.2,
      )

  then_accepted : PaoWhen → refusal_for l (pao holder feeder yaku) ≡ 0
  then_accepted a =
      let index : ℕ = feeder_index holder yaku in
      let few = feeder_small index n (form.feeders index (index_below holder yaku (omega (arith, a.0)) (two_bounds yaku a.4).1)) in
      let free = free_of n few (λ f m. h.feeders holder f yaku (omega (arith, a.0)) (omega arith) a.4 ∙ a.5 f m) in
      pao_by l holder feeder yaku (rw (le-ltb 3 holder a.0, le-ltb 3 feeder a.1)) (h.shut ∙ a.2) false
      (none_wrong (eqb holder feeder) (eqb yaku 28 || eqb yaku 29) (is_set n) (ne_eqb holder feeder a.3) (either_yaku yaku a.4) free)

  pub pao_when : (refusal_for l (pao holder feeder yaku) ≡ 0) ↔ PaoWhen
  pao_when = (accepted_then, then_accepted)

-- ---- in a game

module _ (es : List Entry) where
  -- a booking gets the refusal of the position that stands
  pub in_game : (b : Booking) {Q : Type 0} → (refusal_for (game_from fresh_game es).now b ≡ 0) ↔ Q → (game_refusal (game_from fresh_game es) (booking b) ≡ 0) ↔ Q
  in_game b w = let e = plain_refusal (game_from fresh_game es) (both_kept es) b in (λ z. w.0 (sym e ∙ z), λ q. e ∙ w.1 q)

  pub in_form : InForm (game_from fresh_game es).now
  in_form = kept_form (game_from fresh_game es).now (both_kept es).0
