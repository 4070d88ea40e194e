-- What every fair effect keeps: the total, the form, the floor. A booking has to show that its effect is fair, and no more.
use Rattle.std.specs.Prelude.{◌≡◌, Bool, true, false, not, ◌&&◌, cond, ℕ, ◌+◌, ◌*◌, ◌%◌, ◌≤◌, ◌<◌, eqb, ℤ, pos, ◌+ℤ◌, get_or, replicate}
use Rattle.std.proofs.Math.Path.{refl}
use Rattle.std.proofs.Common.{◌∙◌, mod-lt, ne_eqb}
use native.Mathlib.Omega.{arith}
use Rattle.std.proofs.lemmas.List.{get_or-replicate}
use Rattle.tiles.specs.Below.{count}
use Rattle.tiles.proofs.laws.Tabulate.{get_d_tabulate}
use Rattle.score.proofs.laws.Z.{up, dn, add_law, eq_parts}
use Rattle.position.specs.declared.Position.{Position}
use Rattle.position.specs.Ledger.{starting_score, points_in_play, last_hand, is_set, mark, score_at, is_declared, declarations, feeder_at, total_of, wrong_feeder}
use Rattle.position.specs.Ledger.{Effect, finishing, is_last, applied}
use Rattle.position.specs.search.After.{dealer_after, wind_after, hands_after}
use Rattle.position.proofs.laws.Bounds.{costs, worst, worst_step}
use Rattle.position.proofs.laws.Form.{sum_law}

-- ---- marks

pub mark_le : (d : Bool) → mark d ≤ 1
mark_le true = omega arith
mark_le false = omega arith

pub is_mark : (d : Bool) → is_set (mark d) ≡ d
is_mark true = refl
is_mark false = refl

-- ---- what a game keeps from the first booking on

abbrev pub Above : Position → ℕ → Type 0
Above g i =
    (g.hands + mark (is_declared g i) ≤ last_hand) × (dn (score_at g i) + up starting_score ≤ up (score_at g i) + worst g.hands + 1000 * mark (is_declared g i))

pub record Kept (g : Position) : Type 0 where
  pub dealer : g.dealer ≤ 3
  pub wind : g.wind ≤ 1
  pub hands : g.hands ≤ last_hand
  pub sticks : declarations g ≤ g.sticks
  pub counter : g.counter ≤ g.hands
  pub feeders : (i : ℕ) → i < 8 → wrong_feeder i (feeder_at g i) ≡ false
  pub above : (i : ℕ) → i < 4 → Above g i
  pub total : total_of g ≡ points_in_play

-- ---- what an effect has to show

module _ (g : Position) (e : Effect) where
  -- what is given comes from the seats or the sticks
  abbrev pub Balanced : Type 0
  Balanced =
      up (e.gives 0) + up (e.gives 1) + up (e.gives 2) + up (e.gives 3) + 1000 * e.sticks
      ≡ dn (e.gives 0) + dn (e.gives 1) + dn (e.gives 2) + dn (e.gives 3) + 1000 * g.sticks

  -- what seat i loses is within what its hand may cost and its stick
  abbrev pub Bounded : ℕ → Type 0
  Bounded i =
      (hands_after g e.finishes + mark (e.declared i) ≤ last_hand)
      × (dn (e.gives i) + worst g.hands + 1000 * mark (is_declared g i) ≤ up (e.gives i) + worst (hands_after g e.finishes) + 1000 * mark (e.declared i))

  pub record Fair : Type 0 where
    pub balanced : Balanced
    pub backed : count 4 e.declared ≤ e.sticks
    pub hands : hands_after g e.finishes ≤ last_hand
    pub counter : e.counter ≤ hands_after g e.finishes
    pub feeders : (i : ℕ) → i < 8 → wrong_feeder i (get_or e.feeders i 0) ≡ false
    pub bounded : (i : ℕ) → i < 4 → Bounded i

  -- ---- what follows

  pub score_applied : (i : ℕ) → i < 4 → score_at (applied g e) i ≡ score_at g i +ℤ e.gives i
  unfolding applied
  score_applied i l = get_d_tabulate (pos 0) 4 (λ j. score_at g j +ℤ e.gives j) i l

  pub declared_applied : (i : ℕ) → i < 4 → is_declared (applied g e) i ≡ e.declared i
  unfolding applied
  declared_applied i l = rw (get_d_tabulate 0 4 (λ j. mark (e.declared j)) i l) (is_mark (e.declared i))

  declarations_applied : declarations (applied g e) ≡ count 4 e.declared
  unfolding applied
  declarations_applied = rw (is_mark (e.declared 0), is_mark (e.declared 1), is_mark (e.declared 2), is_mark (e.declared 3))

  pub hands_applied : (applied g e).hands ≡ hands_after g e.finishes
  unfolding applied
  hands_applied = refl

  total_applied : Balanced → total_of (applied g e) ≡ total_of g
  unfolding total_of applied
  total_applied b =
      let x0 = score_at g 0 in
      let x1 = score_at g 1 in
      let x2 = score_at g 2 in
      let x3 = score_at g 3 in
      eq_parts _ _ (omega (
        arith,
        b,
        sum_law (x0 +ℤ e.gives 0) (x1 +ℤ e.gives 1) (x2 +ℤ e.gives 2) (x3 +ℤ e.gives 3) e.sticks,
        sum_law x0 x1 x2 x3 g.sticks,
        add_law x0 (e.gives 0),
        add_law x1 (e.gives 1),
        add_law x2 (e.gives 2),
        add_law x3 (e.gives 3),
      ))

  above_applied : (i : ℕ) → i < 4 → Bounded i → Above g i → Above (applied g e) i
  above_applied i l b a = rw (declared_applied i l, score_applied i l, hands_applied) (b.0, omega (arith, add_law (score_at g i) (e.gives i), a.1, b.1))

  dealer_small : g.dealer ≤ 3 → dealer_after g e.passes ≤ 3
  dealer_small h = go (e.passes && not (is_last g))
    where
      go : (c : Bool) → cond c ((g.dealer + 1) % 4) g.dealer ≤ 3
      go true = omega (arith, mod-lt (g.dealer + 1) {m = 4} (omega arith))
      go false = h

  wind_small : g.wind ≤ 1 → wind_after g e.passes ≤ 1
  wind_small h = go (e.passes && eqb g.dealer 3)
    where
      go : (c : Bool) → cond c 1 g.wind ≤ 1
      go true = omega arith
      go false = h

  pub applied_kept : Kept g → Fair → Kept (applied g e)
  unfolding applied
  applied_kept k f = record {
    dealer = dealer_small k.dealer;
    wind = wind_small k.wind;
    hands = f.hands;
    sticks = omega (arith, f.backed, declarations_applied);
    counter = f.counter;
    feeders = f.feeders;
    above = λ i l. above_applied i l (f.bounded i l) (k.above i l);
    total = total_applied f.balanced ∙ k.total;
  }

-- ---- no feeder is named

none_wrong : (i n : ℕ) → n ≡ 0 → wrong_feeder i n ≡ false
none_wrong i n e = rw e (ne_eqb 0 (1 + i % 4) (λ z. omega arith))

pub none_named : (i : ℕ) → i < 8 → wrong_feeder i (get_or (replicate 8 0) i 0) ≡ false
none_named i l = none_wrong i (get_or (replicate 8 0) i 0) (get_or-replicate 8 i 0 0 l)

-- ---- an effect that finishes a hand: its gifts are paid for, and no seat loses more than the hand may cost

module _ (g : Position) (gives : ℕ → ℤ) (sticks : ℕ) (passes : Bool) (counter : ℕ) where
  pub finishing_fair : g.hands < last_hand → counter ≤ g.hands + 1 → Balanced g (finishing gives sticks passes counter)
      → ((i : ℕ) → i < 4 → dn (gives i) ≤ costs g.hands + up (gives i)) → Fair g (finishing gives sticks passes counter)
  finishing_fair h n b d = record {
    balanced = b;
    backed = omega arith;
    hands = omega arith;
    counter = n;
    feeders = none_named;
    bounded = λ i l. let t = mark_le (is_declared g i) in let c = d i l in (omega arith, omega (arith, worst_step g.hands));
  }
