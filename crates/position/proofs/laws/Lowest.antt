-- The lowest score that a list of bookings leads to: a seat pays for a stick in the first hand alone, since later it has 1,000 left only where it is far above.
use Rattle.std.specs.Prelude.{◌≡◌, Bool, ◌||◌, List, [], ◌∷◌, ◌⊎◌, ℤ, pos, neg_ℤ, ◌+ℤ◌}
use Rattle.std.proofs.Math.Path.{refl}
use Rattle.std.proofs.Common.{ap, ◌∙◌, inr, ⊎_elim}
use Rattle.std.proofs.Math.Bool.{true, false, cond}
use Rattle.std.proofs.Math.Logic.{inl}
use Prim.Native.Nat.{ℕ, zero, suc, ◌+◌, ◌-◌, ◌*◌, ◌≤◌, ◌<◌}
use native.Mathlib.Omega.{arith}
use borrow.Author.Tests.{ltb-false, eqb-true}
use Rattle.std.proofs.Math.Dec.{ltb, eqb}
use Rattle.std.specs.Int.Signed.{lt_z}
use Rattle.tiles.specs.Below.{any}
use Rattle.points.proofs.laws.Balance.{below_four}
use Rattle.score.proofs.laws.Z.{up, dn, add_law, lt_z_false, le_lt_z}
use Rattle.hand_rons.specs.Records.{records_of, first_winner}
use Rattle.hand_rons.proofs.laws.OneTile.{records_length_lem}
use Rattle.position.specs.declared.Position.{Position}
use Rattle.position.specs.Booking.{Booking, result, riichi, win, draw, chombo, pao, multi_ron}
use Rattle.position.specs.Ledger.{last_hand, mark, fresh, score_at, is_declared, not_open, refusal_for, Effect, riichi_gives}
use Rattle.position.specs.Ledger.{is_dealers_win, chombo_of, draw_of, is_at_fault, effect_of, applied, after, ledger_from, ledger}
use Rattle.position.specs.search.After.{hands_after}
use Rattle.position.proofs.laws.Bounds.{costs}
use Rattle.position.proofs.laws.Form.{open_of}
use Rattle.position.proofs.laws.Accepted.{riichi_accepted, win_accepted}
use Rattle.position.proofs.laws.Effect.{mark_le, score_applied, declared_applied, hands_applied}
use Rattle.position.proofs.laws.Fair.{draw_bounded, chombo_bounded, win_dn}
use Rattle.position.proofs.laws.MultiRon.{multi_ron_accepted, multi_ron_dn, once}
use Rattle.position.proofs.laws.Kept.{fresh_kept, ledger_kept}
use Rattle.position.proofs.laws.Each.{result_finishes}

-- ---- what h hands cost at most, sticks left out

unfoldable spent : ℕ → ℕ
spent zero = 0
spent (suc h) = spent h + costs h

spent_step : (h : ℕ) → spent (h + 1) ≡ spent h + costs h
unfolding spent
spent_step h = let e : h + 1 ≡ suc h = omega arith in ap spent e

spent_some : (h : ℕ) → 0 < h → 29000 ≤ spent h
unfolding spent
spent_some zero l = absurd (omega arith)
spent_some (suc h) l = omega arith

spent_more : (h n : ℕ) → spent h ≤ spent (h + n)
unfolding spent
spent_more h zero = let e : h + 0 ≡ h = omega arith in rw e (omega arith)
spent_more h (suc n) = let e : h + suc n ≡ suc (h + n) = omega arith in rw e (omega (arith, spent_more h n))

spent_all : spent last_hand ≡ 28370000
unfolding spent
spent_all = refl

-- ---- no hand's end costs a seat more than the hand may

module _ (g : Position) where
  abbrev Cheap : Effect → Type 0
  Cheap e = (i : ℕ) → i < 4 → dn (e.gives i) ≤ costs g.hands + up (e.gives i)

  win_cheap : (s : List ℕ) → refusal_for g (result (win s)) ≡ 0 → Cheap (effect_of g (result (win s)))
  unfolding effect_of
  win_cheap s e i l =
      let o = open_of g (win_accepted g s e).0 in
      omega (arith, mark_le (is_dealers_win g s), o.form.counter, win_dn g s g.counter g.sticks i)

  draw_cheap : (bits : ℕ) → refusal_for g (result (draw bits)) ≡ 0 → Cheap (effect_of g (result (draw bits)))
  unfolding effect_of
  draw_cheap bits e i l = go (any 4 (is_at_fault g bits))
    where
      go : (t : Bool) → let x = cond t (chombo_of g (is_at_fault g bits)) (draw_of g bits) in dn (x.gives i) ≤ costs g.hands + up (x.gives i)
      go true = omega (arith, chombo_bounded g (is_at_fault g bits) i l)
      go false = omega (arith, draw_bounded bits i)

  multi_ron_cheap : (number : ℕ) (s : List ℕ) → refusal_for g (result (multi_ron number s)) ≡ 0 → Cheap (effect_of g (result (multi_ron number s)))
  unfolding effect_of
  multi_ron_cheap number s e i l =
      let a = multi_ron_accepted g number s e in
      let o = open_of g a.opened in
      let rs = records_of number s in
      let x : ℕ = first_winner rs in
      omega (
        arith,
        records_length_lem number s,
        a.few,
        o.form.counter,
        once g number s g.dealer 16000 a.set,
        once g number s x (300 * g.counter)
            a.set,
        multi_ron_dn g x rs i,
      )

-- ---- what a seat keeps from the first booking on

-- in the first hand it has paid for its stick at most, and later for the hands and one stick
abbrev Above29 : Position → ℕ → Type 0
Above29 g i =
    (g.hands ≡ 0 → dn (score_at g i) + 30000 ≤ up (score_at g i) + 1000 * mark (is_declared g i))
    × (dn (score_at g i) + 29000 ≤ up (score_at g i) + spent g.hands)

abbrev Lower : Position → Type 0
Lower g = (i : ℕ) → i < 4 → Above29 g i

module _ (g : Position) (e : Effect) where
  -- a booking that finishes the hand
  when_finished : e.finishes ≡ true → Cheap g e → Lower g → Lower (applied g e)
  when_finished f c w i l =
      let z = score_at g i in
      let h : (applied g e).hands ≡ g.hands + 1 = hands_applied g e ∙ ap (hands_after g) f in
      rw (h, score_applied g e i l) (λ q. absurd (omega arith), omega (arith, add_law z (e.gives i), (w i l).1, c i l, spent_step g.hands))

-- one that goes on with it: seat i pays for the stick that it puts, and has enough for it
module _ (g : Position) (e : Effect) where
  abbrev Pays : ℕ → Type 0
  Pays i =
      (dn (e.gives i) + 1000 * mark (is_declared g i) ≤ up (e.gives i) + 1000 * mark (e.declared i))
      × ((dn (e.gives i) ≤ up (e.gives i)) ⊎ (dn (score_at g i) + dn (e.gives i) ≤ up (score_at g i) + up (e.gives i)))

  module _ (i : ℕ) (y : Pays i) (x : Above29 g i) where
    abbrev z : ℤ
    z = score_at g i +ℤ e.gives i

    first : g.hands ≡ 0 → dn z + 30000 ≤ up z + 1000 * mark (e.declared i)
    first q = omega (arith, add_law (score_at g i) (e.gives i), y.0, x.0 q)

    low : (n : ℕ) → g.hands ≡ n → dn z + 29000 ≤ up z + spent g.hands
    low zero q = omega (arith, first q, mark_le (e.declared i))
    low (suc n) q =
        let a = add_law (score_at g i) (e.gives i) in
        ⊎_elim (λ (k : dn (e.gives i) ≤ up (e.gives i)). omega (arith, a, x.1, k))
        (λ (k : dn (score_at g i) + dn (e.gives i) ≤ up (score_at g i) + up (e.gives i)). omega (arith, a, k, spent_some g.hands (omega arith))) y.1

  when_going : e.finishes ≡ false → ((i : ℕ) → i < 4 → Pays i) → Lower g → Lower (applied g e)
  when_going f c w i l =
      let h : (applied g e).hands ≡ g.hands = hands_applied g e ∙ ap (hands_after g) f in
      rw (h, score_applied g e i l, declared_applied g e i l) (first i (c i l) (w i l), low i (c i l) (w i l) g.hands refl)

-- ---- each booking, and every list

module _ (g : Position) where
  riichi_pays : (seat : ℕ) → refusal_for g (riichi seat) ≡ 0 → (i : ℕ) → i < 4 → Pays g (effect_of g (riichi seat)) i
  unfolding effect_of riichi_gives
  riichi_pays seat e i l = go (eqb i seat) refl
    where
      y : (seat ≤ 3) × (not_open g ≡ false) × (is_declared g seat ≡ false) × (lt_z (score_at g seat) (pos 1000) ≡ false)
      y = riichi_accepted g seat e

      go : (t : Bool) → eqb i seat ≡ t
          → (dn (cond t (neg_ℤ (pos 1000)) (pos 0)) + 1000 * mark (is_declared g i) ≤ up (cond t (neg_ℤ (pos 1000)) (pos 0)) + 1000 * mark (t || is_declared g i))
          × ((dn (cond t (neg_ℤ (pos 1000)) (pos 0)) ≤ up (cond t (neg_ℤ (pos 1000)) (pos 0)))
          ⊎ (dn (score_at g i) + dn (cond t (neg_ℤ (pos 1000)) (pos 0)) ≤ up (score_at g i) + up (cond t (neg_ℤ (pos 1000)) (pos 0))))
      go true q =
          let s = eqb-true i seat q in
          let d : is_declared g i ≡ false = ap (is_declared g) s ∙ y.2 in
          let p : lt_z (score_at g i) (pos 1000) ≡ false = ap (λ (k : ℕ). lt_z (score_at g k) (pos 1000)) s ∙ y.3 in
          (rw d (omega arith), inr (omega (arith, lt_z_false (score_at g i) (pos 1000) p)))
      go false q = (omega arith, inl (omega arith))

  pao_pays_lem : (holder feeder yaku i : ℕ) → Pays g (effect_of g (pao holder feeder yaku)) i
  unfolding effect_of
  pao_pays_lem holder feeder yaku i = (omega arith, inl (omega arith))

  accepted_lower : (b : Booking) → refusal_for g b ≡ 0 → Lower g → Lower (applied g (effect_of g b))
  unfolding effect_of
  accepted_lower (riichi seat) e w = when_going g (effect_of g (riichi seat)) refl (riichi_pays seat e) w
  accepted_lower (result (win s)) e w = when_finished g (effect_of g (result (win s))) refl (win_cheap g s e) w
  accepted_lower (result (draw bits)) e w =
      when_finished g (effect_of g (result (draw bits))) (result_finishes g (draw bits)) (draw_cheap g bits e) w
  accepted_lower (result (chombo seat)) e w =
      when_finished g (effect_of g (result (chombo seat))) refl (λ i l. omega (arith, chombo_bounded g (λ j. eqb j seat) i l)) w
  accepted_lower (pao holder feeder yaku) e w = when_going g (effect_of g (pao holder feeder yaku)) refl (λ i l. pao_pays_lem holder feeder yaku i) w
  accepted_lower (result (multi_ron number s)) e w = when_finished g (effect_of g (result (multi_ron number s))) refl (multi_ron_cheap g number s e) w

  after_lower : (b : Booking) → Lower g → Lower (after g b)
  unfolding after
  after_lower b w = go (ltb 0 (refusal_for g b)) refl
    where
      go : (t : Bool) → ltb 0 (refusal_for g b) ≡ t → Lower (cond t g (applied g (effect_of g b)))
      go true q = w
      go false q = accepted_lower b (omega (arith, ltb-false 0 (refusal_for g b) q)) w

fresh_lower : Lower fresh
unfolding fresh spent
fresh_lower =
    below_four (Above29 fresh) (λ q. omega arith, omega arith) (λ q. omega arith, omega arith) (λ q. omega arith, omega arith) (λ q. omega arith, omega arith)

ledger_lower : (bs : List Booking) (l : Position) → Lower l → Lower (ledger_from l bs)
unfolding ledger_from
ledger_lower [] l w = w
ledger_lower (b ∷ bs) l w = ledger_lower bs (after l b) (after_lower l b w)

pub never_below_lowest : (bs : List Booking) (i : ℕ) → i < 4 → lt_z (score_at (ledger bs) i) (neg_ℤ (pos 28341000)) ≡ false
unfolding ledger
never_below_lowest bs i l =
    let g = ledger_from fresh bs in
    let w = (ledger_lower bs fresh fresh_lower i l).1 in
    let h : g.hands + (last_hand - g.hands) ≡ last_hand = omega (arith, (ledger_kept bs fresh fresh_kept).hands) in
    let m : spent g.hands ≤ spent last_hand = rw h at (spent_more g.hands (last_hand - g.hands)) in
    le_lt_z (score_at g i) (neg_ℤ (pos 28341000)) (omega (arith, w, m, spent_all))
