-- When a win is accepted, what paid it, and when it is refused for its tiles.
use Rattle.std.specs.Prelude.{◌≡◌, true, ◌&&◌, ◌↔◌, ltb, ◌+ℤ◌, get_or}
use Rattle.std.proofs.Math.Path.{refl, sym, ap, subst}
use Rattle.std.proofs.Common.{◌∙◌, inl, inr, ⊎_elim, arith, ltb-false, le-ltb, eq-eqb, ne_eqb}
use Rattle.std.proofs.Math.Bool.{Bool, false, cond}
use mathlib.Core.List.{List, [], ◌∷◌}
use Prim.Native.Nat.{ℕ, ◌+◌, ◌*◌, ◌≤◌, ◌<◌}
use Rattle.std.proofs.Math.Dec.{eqb}
use Rattle.std.proofs.Math.IntN.{ℤ, pos, nat_abs}
use Rattle.std.specs.Int.Signed.{le_z}
use Rattle.tiles.specs.Below.{sum}
use Rattle.hand.specs.Hand.{is_ron}
use Rattle.hand_record.specs.Record.{IsSound, refusal_in, read_of}
use Rattle.hand_record.proofs.Claims.{sound}
use Rattle.hand_record.proofs.laws.Bounds.{other_seat, read_bounds}
use Rattle.reading.specs.declared.Reading.{Reading}
use Rattle.reading.specs.All.{Each, none, also}
use Rattle.points.proofs.Claims.{gain_is_payments}
use Rattle.points_value.specs.Value.{value_of}
use Rattle.yaku_basics.specs.Tests.{winds}
use Rattle.score.specs.declared.Scored.{Scored}
use Rattle.score.specs.Named.{won_of, seats_of, groups_of, worth, IsReadingOf, IsReported, gain_in, scored_as, Named}
use Rattle.score.proofs.laws.Z.{add_law}
use Rattle.score.proofs.laws.HandScore.{scored}
use Rattle.score.proofs.laws.Named.{accepted, best, most, refused_6, refused_7, for_tiles}
use Rattle.position.specs.declared.Position.{Position}
use Rattle.position.specs.Booking.{result, win, multi_ron}
use Rattle.hand_rons.specs.Records.{records_of, first_unreadable, not_on_one_tile, first_winner}
use Rattle.position.specs.Ledger.{score_at, not_open, hand_for, scored_for, riichi_mismatch, refusal_for, record_refusals, paid_by_others}
use Rattle.position.specs.Ledger.{Liable, nobody, the_feeder, owes, liable_in, whole_of, is_dealers_win, payments, holds_four_winds, win_gives}
use Rattle.position.specs.Ledger.{multi_ron_gives, effect_of, after}
use Rattle.position.specs.Wins.{HasYaku, IsWinning, paid_in, IsPaid, WinBooked, MultiRonBooked}
use Rattle.position.proofs.laws.PaidByOthers.{sticks_to}
use Rattle.position.specs.search.First.{win_refusal, first_refused}
use Rattle.position.proofs.laws.Form.{InForm, le_le_z, open_of}
use Rattle.position.proofs.laws.Accepted.{win_accepted}
use Rattle.position.proofs.laws.Refusals.{win_by, multi_ron_by}
use Rattle.position.proofs.laws.Lists.{score_after}
use Rattle.position.proofs.laws.MultiRon.{multi_ron_accepted}
use Rattle.hand_rons.proofs.laws.OneTile.{own_zero, AllRead}
use Rattle.position.proofs.laws.Owed.{whole_even, gain_owed, all_owed, all_paid}
use Rattle.position.proofs.laws.Pao.{feeder_seat}
use Rattle.position.proofs.laws.Winds.{winds_by_tiles, yakuman_gain}

-- a refusal under 11 is the scorer's
from_score : (j k : ℕ) (m : Bool) → 0 < j → j < 11 → (cond (ltb 0 k) k (cond m 11 0) ≡ j) ↔ (k ≡ j)
from_score j k m a b = go (ltb 0 k) m refl
  where
    go : (t u : Bool) → ltb 0 k ≡ t → (cond t k (cond u 11 0) ≡ j) ↔ (k ≡ j)
    go true u e = (λ q. q, λ q. q)
    go false true e = (λ q. absurd (omega arith), λ q. absurd (omega (arith, ltb-false 0 k e)))
    go false false e = (λ q. absurd (omega arith), λ q. absurd (omega (arith, ltb-false 0 k e)))

-- two tests behind one that are the same where it holds
behind : (b p q : Bool) → (b ≡ true → p ≡ q) → b && p ≡ b && q
behind true p q e = e refl
behind false p q e = refl

-- what is added to both leaves their order
same_order : (a b : ℕ) (x : ℤ) → a ≤ b → le_z (pos a +ℤ x) (pos b +ℤ x) ≡ true
same_order a b x h = le_le_z (pos a +ℤ x) (pos b +ℤ x) (omega (arith, add_law (pos a) x, add_law (pos b) x))

module _ (l : Position) (s : List ℕ) where
  -- what Score gives where r is reported, and the winner's gain in it
  abbrev pub scored_by : Reading → Scored
  scored_by = scored_as (hand_for s) l.dealer l.wind

  abbrev gain_by : Reading → ℕ
  gain_by = gain_in (hand_for s) l.dealer l.wind

  -- in an open game Score gives what document 01 names for a sound record
  names : not_open l ≡ false → IsSound s → Named (hand_for s) l.dealer l.wind (scored_for l s)
  names o i = let f = (open_of l o).form in scored s l.dealer l.wind f.dealer f.wind i

  -- a record that scores as r gives what r gives or takes, and the sticks: four wind triplets by the tiles are four in the reading
  gives_in : (r : Reading) → refusal_in (read_of s).answer ≡ 0 → IsReadingOf (hand_for s) r → scored_for l s ≡ scored_by r
      → (n k i : ℕ) → win_gives l s n k i ≡ paid_in l s r n i +ℤ sticks_to s k i
  unfolding win_gives payments
  gives_in r z m e n k i =
      let f = (hand_for s).fields in
      let v = scored_by r in
      let given : Bool → ℤ = λ b. paid_by_others f.winner
      (owes (λ j. nat_abs (get_or v.changes j (pos 0))) f.discarder (whole_of (is_dealers_win l s)) n (liable_in l f.winner (get_or v.yaku 28 false) b)
      (is_ron f)) i +ℤ sticks_to s k i in
      ap (λ (x : Scored). payments l s x (holds_four_winds (hand_for s)) n i +ℤ sticks_to s k i) e
      ∙ ap given (behind (get_or v.yaku 29 false) (holds_four_winds (hand_for s)) (eqb (winds (groups_of (hand_for s) r)) 4)
      (winds_by_tiles s z l.dealer l.wind r m))

  -- an accepted win moves each score by what it gives
  win_moves : refusal_for l (result (win s)) ≡ 0 → (i : ℕ) → i < 4
      → score_at (after l (result (win s))) i ≡ score_at l i +ℤ win_gives l s l.counter l.sticks i
  unfolding effect_of
  win_moves z i h = rw z at (score_after l (result (win s)) i h)

  -- a record that reads and scores is paid by its best reading
  best_of : not_open l ≡ false → refusal_in (read_of s).answer ≡ 0 → (scored_for l s).refusal ≡ 0 → IsPaid l s
  best_of o n z =
      let r = best (hand_for s) l.dealer l.wind (names o ((sound s).1 n)) z in
      (r.0, (r.1, λ q w. most (hand_for s) l.dealer l.wind r.0 q r.1 w), gives_in r.0 n r.1.yaku.0 r.2)

  -- the winner's change in a reading is its gain
  gain_at_lem : (q : Reading) → (hand_for s).fields.winner < 4 → get_or (scored_by q).changes (hand_for s).fields.winner (pos 0) ≡ pos (gain_by q)
  unfolding worth value_of won_of
  gain_at_lem q h = (gain_is_payments (seats_of (hand_for s) l.dealer) (is_ron (hand_for s).fields) (worth (hand_for s) l.dealer l.wind q).basic.0).got h

  -- ---- what a reading gives the winner, with pao or without

  module _ (o : not_open l ≡ false) (n : refusal_in (read_of s).answer ≡ 0) where
    abbrev w : ℕ
    w = (hand_for s).fields.winner

    form : InForm l
    form = (open_of l o).form

    module _ (q : Reading) where
      abbrev y : List Bool
      y = (scored_by q).yaku

      abbrev taken : ℕ → ℕ
      taken i = nat_abs (get_or (scored_by q).changes i (pos 0))

      abbrev whole : ℕ
      whole = whole_of (is_dealers_win l s)

      -- without counters the others owe the gain: the changes are it, and so is the whole of a yakuman
      taken_gain : gain_owed taken w whole nobody ≡ gain_by q
      unfolding worth value_of won_of
      taken_gain =
          all_paid (seats_of (hand_for s) l.dealer) (is_ron (hand_for s).fields) (worth (hand_for s) l.dealer l.wind q).basic.0

      either_gain : (who : Liable) (j : ℕ) → 26 ≤ j → j ≤ 36 → get_or y j false ≡ true → gain_owed taken w whole who ≡ gain_by q
      either_gain nobody j a b m = taken_gain
      either_gain (the_feeder x) j a b m = sym (yakuman_gain s n l.dealer l.wind q form.dealer j a b m)

      abbrev who : Bool → Bool → Liable
      who = liable_in l w

      owed_gain : (a b d : Bool) → get_or y 28 false ≡ a → get_or y 29 false ≡ b → gain_owed taken w whole (who a (b && d)) ≡ gain_by q
      owed_gain true b d p r = either_gain (who true (b && d)) 28 (omega arith) (omega arith) p
      owed_gain false true d p r = either_gain (who false d) 29 (omega arith) (omega arith) r
      owed_gain false false d p r = taken_gain

      -- "The winner's gain is what it was" (02, S-8), and 300 a counter, whoever pays them
      pub winner_gains : (m : ℕ) → paid_in l s q m w ≡ pos (gain_by q) +ℤ pos (300 * m)
      unfolding payments paid_by_others
      winner_gains m =
          let b = read_bounds s n in
          let f = (hand_for s).fields in
          let four : Bool = eqb (winds (groups_of (hand_for s) q)) 4 in
          let a : Liable = who (get_or y 28 false) (get_or y 29 false && four) in
          let half : ℕ = cond (is_dealers_win l s) 24000 16000 in
          let even = whole_even (is_dealers_win l s) in
          let all : sum 4 (λ j. cond (eqb j w) 0 (owes taken f.discarder whole m a (is_ron f) j)) ≡ gain_owed taken w whole a + 300 * m =
          subst (λ (x : ℕ). sum 4 (λ j. cond (eqb j w) 0 (owes taken f.discarder x m a (is_ron f) j)) ≡ gain_owed taken w x a + 300 * m) (sym even)
          (all_owed taken w f.discarder half m b.winner b.discarder a
          (feeder_seat l form w b.winner (get_or y 28 false) (get_or y 29 false && four)) (is_ron f) (other_seat f b.other)) in
          rw (eq-eqb w w refl) (ap pos (all ∙ ap (λ (x : ℕ). x + 300 * m) (owed_gain (get_or y 28 false) (get_or y 29 false) four refl refl)))

      pub winner_won : paid_in l s q 0 w ≡ get_or (scored_by q).changes w (pos 0)
      winner_won =
          let same : gain_by q + 300 * 0 ≡ gain_by q = omega arith in
          winner_gains 0 ∙ ap pos same ∙ sym (gain_at_lem q (omega (arith, (read_bounds s n).winner)))

  -- "equal for every reading of the tiles, so the best one stays best" (02, S-5)
  pub best_with_counters : not_open l ≡ false → IsSound s → (r q : Reading) → IsReported (hand_for s) l.dealer l.wind r → HasYaku l s q
      → (n : ℕ) → let winner = (hand_for s).fields.winner in le_z (paid_in l s q n winner) (paid_in l s r n winner) ≡ true
  best_with_counters o i r q y z n =
      let w = winner_gains o ((sound s).0 i) in
      rw (w r n, w q n) (same_order (gain_by q) (gain_by r) (pos (300 * n)) (most (hand_for s) l.dealer l.wind r q y z))

  module _ (n : ℕ) (e : n ≡ refusal_for l (result (win s))) where
    pub win_accepted_when : (n ≡ 0) ↔ ((not_open l ≡ false) × IsWinning l s)
    win_accepted_when = (
      λ z.
          let y = win_accepted l s (sym e ∙ z) in
          let i = (sound s).1 y.1 in
          (y.0, (i, (accepted (hand_for s) l.dealer l.wind (names y.0 i)).0 y.2, y.3)),
      λ y.
          let z : (scored_for l s).refusal ≡ 0 = (accepted (hand_for s) l.dealer l.wind (names y.0 y.1.0)).1 y.1.1 in
          e ∙ win_by l s y.0 ∙ rw (z, y.1.2),
    )

    -- a refusal of the scorer's, of a sound record in an open game
    told : not_open l ≡ false → (j : ℕ) → 0 < j → j < 11 → (n ≡ j) ↔ ((scored_for l s).refusal ≡ j)
    told o j a b =
        let w = from_score j (scored_for l s).refusal (riichi_mismatch l (hand_for s)) a b in
        let c = e ∙ win_by l s o in
        (λ q. w.0 (sym c ∙ q), λ q. c ∙ w.1 q)

    pub win_booked : WinBooked l s n
    win_booked = record {
      accepted = win_accepted_when;
      paid = λ z.
          let y = win_accepted l s (sym e ∙ z) in
          (best_of y.0 y.1 y.2, win_moves (sym e ∙ z));
      tiles = λ i o.
          let w = for_tiles (hand_for s) l.dealer l.wind (names o i) in
          let six = told o 6 (omega arith) (omega arith) in
          let seven = told o 7 (omega arith) (omega arith) in
          (λ t. w.0 (⊎_elim (λ q. inl (six.0 q)) (λ q. inr (seven.0 q)) t), λ u. ⊎_elim (λ q. inl (six.1 q)) (λ q. inr (seven.1 q)) (w.1 u));
      six = λ i o.
          let six = told o 6 (omega arith) (omega arith) in
          let none = refused_6 (hand_for s) l.dealer l.wind (names o i) in
          (λ q. none.0 (six.0 q), λ u. six.1 (none.1 u));
      seven = λ i o.
          let seven = told o 7 (omega arith) (omega arith) in
          let some = refused_7 (hand_for s) l.dealer l.wind (names o i) in
          (λ q. some.0 (seven.0 q), λ u. seven.1 (some.1 u));
    }

-- ---- multiple ron

module _ (l : Position) (o : not_open l ≡ false) where
  each_paid : (ss : List (List ℕ)) → AllRead ss → first_refused l ss ≡ 0 → Each (IsPaid l) ss
  unfolding record_refusals
  each_paid [] r e = none
  each_paid (s ∷ ss) r e =
      let v : ℕ = (scored_for l s).refusal in
      let p = own_zero (win_refusal l s) (first_refused l ss) e in
      also (best_of l s o r.0 (own_zero v (cond (riichi_mismatch l (hand_for s)) 11 0) p.0).0) (each_paid ss r.1 p.1)

  each_wins : (ss : List (List ℕ)) → AllRead ss → first_refused l ss ≡ 0 → Each (IsWinning l) ss
  unfolding record_refusals
  each_wins [] r e = none
  each_wins (s ∷ ss) r e =
      let p = own_zero (win_refusal l s) (first_refused l ss) e in
      also ((win_accepted_when l s 0 (sym (win_by l s o ∙ p.0))).0 refl).1 (each_wins ss r.1 p.1)

  all_won : (ss : List (List ℕ)) → Each (IsWinning l) ss → (first_unreadable ss ≡ 0) × (first_refused l ss ≡ 0)
  unfolding first_unreadable record_refusals
  all_won [] w = (refl, refl)
  all_won (s ∷ ss) (also w ws) =
      let t = all_won ss ws in
      let z : win_refusal l s ≡ 0 = sym (win_by l s o) ∙ (win_accepted_when l s (refusal_for l (result (win s))) refl).1 (o, w) in
      (rw ((sound s).0 w.0) t.0, rw z t.1)

module _ (l : Position) (number : ℕ) (s : List ℕ) (n : ℕ) (e : n ≡ refusal_for l (result (multi_ron number s))) where
  abbrev ss : List (List ℕ)
  ss = records_of number s

  pub multi_ron_accepted_when :
      (n ≡ 0) ↔ ((not_open l ≡ false) × (0 < number) × (number ≤ 3) × Each (IsWinning l) ss × (not_on_one_tile ss ≡ false))
  multi_ron_accepted_when = (
    λ z.
        let a = multi_ron_accepted l number s (sym e ∙ z) in
        (a.opened, a.some, a.few, each_wins l a.opened ss a.read a.scored, a.set),
    λ y.
        let t = all_won l y.0 ss y.3 in
        e ∙ multi_ron_by l number s y.0 (rw (ne_eqb number 0 (λ z. omega (arith, y.1)), le-ltb 3 number y.2)) t.0 false y.4 ∙ t.1,
  )

  moved : n ≡ 0 → (i : ℕ) → i < 4 → score_at (after l (result (multi_ron number s))) i ≡ score_at l i +ℤ multi_ron_gives l (first_winner ss) ss i
  unfolding effect_of
  moved z i h = rw (sym e ∙ z) at (score_after l (result (multi_ron number s)) i h)

  pub multi_ron_booked : MultiRonBooked l number s n
  multi_ron_booked = record {
    accepted = multi_ron_accepted_when;
    paid = λ z.
        let a = multi_ron_accepted l number s (sym e ∙ z) in
        (each_paid l a.opened ss a.read a.scored, moved z);
  }
