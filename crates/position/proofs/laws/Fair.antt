-- The effect of each booking but a multiple ron is fair: what it gives comes from the seats or the sticks, and no seat loses more than a hand may cost.
use Rattle.std.specs.Prelude.{◌≡◌, Bool, not, ◌&&◌, ◌||◌, cond, List, ℤ, pos, nat_abs, ◌+ℤ◌, get_or}
use Rattle.std.proofs.Math.Path.{refl, ap}
use Rattle.std.proofs.Common.{◌∙◌, div-le_self, eqb-true}
use Rattle.std.proofs.Math.Bool.{true, false}
use Prim.Native.Nat.{ℕ, zero, suc, ◌+◌, ◌-◌, ◌*◌, ◌/◌, ◌≤◌, ◌<◌}
use native.Mathlib.Omega.{arith}
use Rattle.std.proofs.Math.Dec.{eqb}
use Rattle.std.proofs.Math.IntN.{neg_ℤ}
use Rattle.tiles.specs.Below.{any, count}
use Rattle.hand.specs.Hand.{is_ron}
use Rattle.hand_record.proofs.laws.Bounds.{read_bounds}
use Rattle.score.proofs.laws.Z.{up, dn, add_law, neg_law, parts_eq}
use Rattle.score.proofs.laws.Changes.{score_within, score_child}
use Rattle.position.specs.declared.Position.{Position}
use Rattle.position.specs.Booking.{result, riichi, win, draw, pao}
use Rattle.position.specs.Ledger.{last_hand, mark, is_declared, declarations, not_open, is_ready, hand_for, scored_for, ready_seats, share_of, refusal_for}
use Rattle.position.specs.Ledger.{riichi_gives, paid_by_others, owes, liable_in, whole_of, is_dealers_win, payments, holds_four_winds}
use Rattle.position.specs.Ledger.{win_gives, draw_gives, fine_of, chombo_gives, chombo_of, draw_of, is_at_fault, effect_of}
use Rattle.position.proofs.laws.Bounds.{worst}
use Rattle.position.proofs.laws.Form.{open_of}
use Rattle.position.proofs.laws.Accepted.{riichi_accepted, draw_accepted, win_accepted, pao_accepted}
use Rattle.position.proofs.laws.PaidByOthers.{sticks_to, paid_by_others_even, paid_by_others_dn}
use Rattle.position.proofs.laws.Owed.{owes_le, score_paid}
use Rattle.position.proofs.laws.Pao.{multi_ron_right, right_pao}
use Rattle.position.proofs.laws.Fines.{fines_even, fine_dn}
use Rattle.position.proofs.laws.Effect.{mark_le, Bounded, Fair, finishing_fair}

-- ---- what four seats are given, by its parts

-- gifts f turn k sticks into m
abbrev pub Turns : (ℕ → ℤ) → ℕ → ℕ → Type 0
Turns f k m = up (f 0) + up (f 1) + up (f 2) + up (f 3) + 1000 * m ≡ dn (f 0) + dn (f 1) + dn (f 2) + dn (f 3) + 1000 * k

-- two gifts: one that the seats pay, one that comes from the sticks
both_turn : (f x : ℕ → ℤ) (k m : ℕ) → Turns f 0 0 → Turns x k m → Turns (λ i. f i +ℤ x i) k m
both_turn f x k m e d = omega (arith, e, d, add_law (f 0) (x 0), add_law (f 1) (x 1), add_law (f 2) (x 2), add_law (f 3) (x 3))

-- two gifts that come from sticks
pub all_turn : (f x : ℕ → ℤ) (k m : ℕ) → Turns f k 0 → Turns x m 0 → Turns (λ i. f i +ℤ x i) (k + m) 0
all_turn f x k m e d = omega (arith, e, d, add_law (f 0) (x 0), add_law (f 1) (x 1), add_law (f 2) (x 2), add_law (f 3) (x 3))

-- ---- riichi: the stick

module _ (g : Position) where
  riichi_balanced : (seat : ℕ) → seat ≤ 3 → Turns (riichi_gives seat) g.sticks (g.sticks + 1)
  unfolding riichi_gives
  riichi_balanced zero h = omega arith
  riichi_balanced (suc zero) h = omega arith
  riichi_balanced (suc (suc zero)) h = omega arith
  riichi_balanced (suc (suc (suc zero))) h = omega arith
  riichi_balanced (suc (suc (suc (suc n)))) h = absurd (omega arith)

  riichi_backed : (seat : ℕ) → seat ≤ 3 → count 4 (λ i. eqb i seat || is_declared g i) ≤ declarations g + 1
  riichi_backed zero h = omega arith
  riichi_backed (suc zero) h = omega arith
  riichi_backed (suc (suc zero)) h = omega arith
  riichi_backed (suc (suc (suc zero))) h = omega arith
  riichi_backed (suc (suc (suc (suc n)))) h = absurd (omega arith)

  riichi_bounded : (seat i : ℕ) → g.hands < last_hand → is_declared g seat ≡ false → Bounded g (effect_of g (riichi seat)) i
  unfolding effect_of riichi_gives
  riichi_bounded seat i h u = go (eqb i seat) refl
    where
      go : (e : Bool) → eqb i seat ≡ e
          → (g.hands + mark (e || is_declared g i) ≤ last_hand)
          × (dn (cond e (neg_ℤ (pos 1000)) (pos 0)) + worst g.hands + 1000 * mark (is_declared g i) ≤ up (cond e (neg_ℤ (pos 1000)) (pos 0))
          + worst g.hands + 1000 * mark (e || is_declared g i))
      go true q = let d : is_declared g i ≡ false = ap (is_declared g) (eqb-true i seat q) ∙ u in (omega arith, rw d (omega arith))
      go false q = (omega (arith, mark_le (is_declared g i)), omega arith)

  pub riichi_fair : (seat : ℕ) → refusal_for g (riichi seat) ≡ 0 → Fair g (effect_of g (riichi seat))
  unfolding effect_of
  riichi_fair seat e =
      let y = riichi_accepted g seat e in
      let o = open_of g y.1 in
      record {
        balanced = riichi_balanced seat y.0;
        backed = omega (arith, riichi_backed seat y.0, o.form.sticks);
        hands = o.form.hands;
        counter = o.form.counter;
        feeders = o.form.feeders;
        bounded = λ i l. riichi_bounded seat i o.hands y.2;
      }

-- ---- a draw: what the others pay is shared

shares_zero : (p q r t : Bool) →
    let n : ℕ = 0 + cond p 1 0 + cond q 1 0 + cond r 1 0 + cond t 1 0 in
    up (share_of n p) + up (share_of n q) + up (share_of n r) + up (share_of n t) ≡ dn (share_of n p) + dn (share_of n q) + dn (share_of n r) + dn (share_of n t)
shares_zero true true true true = refl
shares_zero true true true false = refl
shares_zero true true false true = refl
shares_zero true true false false = refl
shares_zero true false true true = refl
shares_zero true false true false = refl
shares_zero true false false true = refl
shares_zero true false false false = refl
shares_zero false true true true = refl
shares_zero false true true false = refl
shares_zero false true false true = refl
shares_zero false true false false = refl
shares_zero false false true true = refl
shares_zero false false true false = refl
shares_zero false false false true = refl
shares_zero false false false false = refl

neg_dn : (n : ℕ) → dn (neg_ℤ (pos n)) ≡ n
neg_dn zero = refl
neg_dn (suc n) = refl

share_dn : (a ready : Bool) (m n : ℕ) → n ≤ 3000 → dn (cond a (pos 0) (cond ready (pos m) (neg_ℤ (pos n)))) ≤ 3000
share_dn true ready m n h = omega arith
share_dn false true m n h = omega arith
share_dn false false m n h = omega (arith, neg_dn n)

module _ (bits : ℕ) where
  draw_balanced : (k : ℕ) → Turns (draw_gives bits) k k
  unfolding draw_gives
  draw_balanced k = ap (λ (n : ℕ). n + 1000 * k) (shares_zero (is_ready bits 0) (is_ready bits 1) (is_ready bits 2) (is_ready bits 3))

  pub draw_bounded : (i : ℕ) → dn (draw_gives bits i) ≤ 3000
  unfolding draw_gives
  draw_bounded i =
      let n : ℕ = ready_seats bits in
      share_dn (eqb n 0 || eqb n 4) (is_ready bits i) (3000 / n) (3000 / (4 - n)) (div-le_self 3000 (4 - n))

-- ---- a chombo: the fines are paid for, and this hand's sticks go back

back_is : (d : Bool) → (up (cond d (pos 1000) (pos 0)) ≡ 1000 * cond d 1 0) × (dn (cond d (pos 1000) (pos 0)) ≡ 0)
back_is true = (refl, refl)
back_is false = (refl, refl)

module _ (g : Position) where
  -- "each declared seat gets 1,000 back"
  abbrev back_to : ℕ → ℤ
  back_to i = cond (is_declared g i) (pos 1000) (pos 0)

  backs : declarations g ≤ g.sticks → Turns back_to g.sticks (g.sticks - declarations g)
  backs h = omega (arith, back_is (is_declared g 0), back_is (is_declared g 1), back_is (is_declared g 2), back_is (is_declared g 3))

  module _ (at : ℕ → Bool) where
    pub chombo_balanced : declarations g ≤ g.sticks → Turns (chombo_gives g at) g.sticks (g.sticks - declarations g)
    unfolding chombo_gives
    chombo_balanced d = both_turn (fine_of at) back_to g.sticks (g.sticks - declarations g) (omega (arith, fines_even at)) (backs d)

    pub chombo_bounded : (i : ℕ) → i < 4 → dn (chombo_gives g at i) ≤ 9000 + up (chombo_gives g at i)
    unfolding chombo_gives
    chombo_bounded i l = omega (arith, fine_dn at i l, back_is (is_declared g i), add_law (fine_of at i) (back_to i))

    pub chombo_fair : not_open g ≡ false → Fair g (chombo_of g at)
    chombo_fair e =
        let o = open_of g e in
        finishing_fair g (chombo_gives g at) (g.sticks - declarations g) false g.counter o.hands
        (omega (arith, o.form.counter)) (chombo_balanced o.form.sticks) (λ i l. omega (arith, chombo_bounded i l))

-- ---- a win: the changes and what the counters add sum to 0, and the winner takes the sticks

pot_dn : (wins : Bool) (n : ℕ) → dn (cond wins (pos n) (pos 0)) ≡ 0
pot_dn true n = refl
pot_dn false n = refl

pots : (winner k : ℕ) → winner ≤ 3 →
    Turns (λ i. cond (eqb i winner) (pos (1000 * k)) (pos 0)) k 0
pots zero k h = omega arith
pots (suc zero) k h = omega arith
pots (suc (suc zero)) k h = omega arith
pots (suc (suc (suc zero))) k h = omega arith
pots (suc (suc (suc (suc n)))) k h = absurd (omega arith)

-- the winner takes n counters and k sticks
module _ (g : Position) (s : List ℕ) (n k : ℕ) where
  abbrev w : ℕ
  w = (hand_for s).fields.winner

  abbrev change : ℕ → ℤ
  change i = get_or (scored_for g s).changes i (pos 0)

  -- what each seat owes
  abbrev owed : ℕ → ℕ
  owed =
      let f = (hand_for s).fields in
      let yaku = (scored_for g s).yaku in
      owes (λ i. nat_abs (change i)) f.discarder (whole_of (is_dealers_win g s)) n
      (liable_in g w (get_or yaku 28 false) (get_or yaku 29 false && holds_four_winds (hand_for s))) (is_ron f)

  -- a yakuman, dealt to the dealer or to a child
  abbrev most : ℕ
  most = 32000 + 16000 * mark (is_dealers_win g s)

  change_dn : (i : ℕ) → dn (change i) ≤ most
  change_dn i = go (is_dealers_win g s) refl
    where
      go : (t : Bool) → is_dealers_win g s ≡ t → dn (change i) ≤ 32000 + 16000 * mark t
      go true e = omega (arith, (score_within s g.dealer g.wind i).1)
      go false e = omega (arith, score_child s g.dealer g.wind e i)

  -- what the reported reading takes of another seat than the winner
  taken_most : (i : ℕ) → eqb i w ≡ false → nat_abs (change i) ≤ most
  unfolding paid_by_others
  taken_most i e =
      let paid : neg_ℤ (pos (nat_abs (change i))) ≡ change i = rw e at (score_paid s g.dealer g.wind i) in
      omega (arith, change_dn i, parts_eq _ _ paid, neg_law (pos (nat_abs (change i))))

  whole_is : (t : Bool) → whole_of t ≡ 32000 + 16000 * mark t
  whole_is true = refl
  whole_is false = refl

  owed_most : (i : ℕ) → eqb i w ≡ false → owed i ≤ most + 300 * n
  owed_most i e =
      let f = (hand_for s).fields in
      let yaku = (scored_for g s).yaku in
      let whole : whole_of (is_dealers_win g s) ≤ most = omega (arith, whole_is (is_dealers_win g s)) in
      owes_le (λ j. nat_abs (change j)) f.discarder (whole_of (is_dealers_win g s)) n i most (taken_most i e) whole
      (liable_in g w (get_or yaku 28 false) (get_or yaku 29 false && holds_four_winds (hand_for s))) (is_ron f)

  pub win_turns : w ≤ 3 → Turns (win_gives g s n k) k 0
  unfolding win_gives payments
  win_turns h =
      let e = paid_by_others_even owed w (omega arith) in
      both_turn (paid_by_others w owed) (sticks_to s k) k 0 (omega (arith, e)) (pots w k h)

  pub win_dn : (i : ℕ) → dn (win_gives g s n k i) ≤ most + 300 * n + up (win_gives g s n k i)
  unfolding win_gives payments
  win_dn i =
      omega (
        arith,
        paid_by_others_dn owed w i (most + 300 * n) (owed_most i),
        pot_dn (eqb i w) (1000 * k),
        add_law (paid_by_others w owed i)
            (sticks_to s k i),
      )

pub won_counter : (deals : Bool) (n h : ℕ) → n ≤ h → cond deals (n + 1) 0 ≤ h + 1
won_counter true n h l = omega arith
won_counter false n h l = omega arith

module _ (g : Position) where
  pub win_fair : (s : List ℕ) → refusal_for g (result (win s)) ≡ 0 → Fair g (effect_of g (result (win s)))
  unfolding effect_of
  win_fair s e =
      let y = win_accepted g s e in
      let o = open_of g y.0 in
      let m = mark_le (is_dealers_win g s) in
      finishing_fair g (win_gives g s g.counter g.sticks) 0 (not (is_dealers_win g s)) (cond (is_dealers_win g s) (g.counter + 1) 0) o.hands
      (won_counter (is_dealers_win g s) g.counter g.hands o.form.counter) (win_turns g s g.counter g.sticks (read_bounds s y.1).winner)
      (λ i l. omega (arith, m, o.form.counter, win_dn g s g.counter g.sticks i))

-- ---- a draw, or the chombo that it is

module _ (g : Position) where
  pub draw_fair : (bits : ℕ) → refusal_for g (result (draw bits)) ≡ 0 → Fair g (effect_of g (result (draw bits)))
  unfolding effect_of
  draw_fair bits e = go (draw_accepted g bits e) (any 4 (is_at_fault g bits))
    where
      go : not_open g ≡ false → (t : Bool) → Fair g (cond t (chombo_of g (is_at_fault g bits)) (draw_of g bits))
      go q true = chombo_fair g (is_at_fault g bits) q
      go q false =
          let o = open_of g q in
          finishing_fair g (draw_gives bits) g.sticks (draw_of g bits).passes (g.counter + 1) o.hands
          (omega (arith, o.form.counter)) (draw_balanced bits g.sticks) (λ i l. omega (arith, draw_bounded bits i))

-- ---- a named feeder: nothing is given

module _ (g : Position) where
  pub pao_fair : (holder feeder yaku : ℕ) → refusal_for g (pao holder feeder yaku) ≡ 0 → Fair g (effect_of g (pao holder feeder yaku))
  unfolding effect_of
  pao_fair holder feeder yaku e =
      let y = pao_accepted g holder feeder yaku e in
      let o = open_of g y.2 in
      record {
        balanced = omega arith;
        backed = o.form.sticks;
        hands = o.form.hands;
        counter = o.form.counter;
        feeders = multi_ron_right holder feeder (yaku - 28) y.0 y.1 (right_pao g holder feeder yaku y.3).0 g.feeders o.form.feeders;
        bounded = λ i l. (omega (arith, o.hands, mark_le (is_declared g i)), omega arith);
      }
