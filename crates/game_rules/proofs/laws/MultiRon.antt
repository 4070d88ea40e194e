-- What a multiple ron gives each seat: its records alone, and sticks and counters to the first winner, the counters from the discarder (02, S-6 and S-8).
use Rattle.std.specs.Prelude.{◌≡◌, Bool, ◌&&◌, ◌+ℤ◌, get_or}
use Rattle.std.proofs.Math.Path.{refl, sym, ap}
use Rattle.std.proofs.Common.{◌∙◌}
use Rattle.std.proofs.Math.Bool.{true, false, cond}
use mathlib.Core.List.{List, [], ◌∷◌}
use Prim.Native.Nat.{ℕ, ◌+◌, ◌*◌, ◌/◌, ◌≤◌, ◌<◌}
use native.Mathlib.Omega.{arith}
use borrow.Author.Tests.{eqb-true}
use Rattle.std.proofs.Math.Dec.{eqb}
use Rattle.std.proofs.Math.IntN.{ℤ, pos, neg_ℤ, nat_abs}
use Rattle.tiles.specs.Below.{sum}
use Rattle.hand.specs.declared.Fields.{Fields}
use Rattle.hand.specs.Hand.{is_ron}
use Rattle.hand_record.proofs.laws.Bounds.{other_seat, read_bounds}
use Rattle.hand_rons.specs.Records.{records_of, conflicts, not_on_one_tile, is_winner, discarder_of, first_winner, turns_after}
use Rattle.hand_rons.proofs.laws.OneTile.{Read, AllRead, winner_of, taken, rons_first, first_once}
use Rattle.hand_rons.proofs.laws.First.{next_discarder}
use Rattle.score.proofs.laws.Z.{add_law, neg_law, eq_parts}
use Rattle.position.specs.declared.Position.{Position}
use Rattle.position.specs.Booking.{result, multi_ron}
use Rattle.position.specs.Ledger.{hand_for, scored_for, refusal_for, paid_by_others, Liable, nobody, the_feeder, owes, liable_in, whole_of, is_dealers_win, payments}
use Rattle.position.specs.Ledger.{holds_four_winds, win_gives, multi_ron_gives, effect_of}
use Rattle.position.proofs.laws.PaidByOthers.{both_pay, one_pays}
use Rattle.position.proofs.laws.MultiRon.{multi_ron_accepted, first_winner_lem}
use Rattle.game_rules.specs.Payments.{each_alone}

-- ---- what goes to one seat, and what is taken of another

-- n to the seat where b holds
abbrev to : Bool → ℕ → ℤ
to b n = cond b (pos n) (pos 0)

abbrev of : Bool → ℕ → ℤ
of b n = cond b (neg_ℤ (pos n)) (pos 0)

to_both : (b : Bool) (m n : ℕ) → to b (m + n) ≡ to b m +ℤ to b n
to_both true m n = refl
to_both false m n = refl

of_both : (b : Bool) (m n : ℕ) → of b (m + n) ≡ of b m +ℤ of b n
of_both true m n =
    eq_parts _ _ (omega (arith, neg_law (pos m), neg_law (pos n), neg_law (pos (m + n)), add_law (neg_ℤ (pos m)) (neg_ℤ (pos n))))
of_both false m n = refl

nothing_of : (b : Bool) → of b 0 ≡ pos 0
nothing_of true = refl
nothing_of false = refl

nothing_to : (b : Bool) → to b 0 ≡ pos 0
nothing_to true = refl
nothing_to false = refl

-- six gifts, grouped otherwise
regroup : (a e f s x y : ℤ) → (a +ℤ e +ℤ f) +ℤ (s +ℤ x +ℤ y) ≡ (a +ℤ s) +ℤ (e +ℤ x) +ℤ (f +ℤ y)
regroup a e f s x y =
    eq_parts _ _ (omega (
      arith,
      add_law a e,
      add_law (a +ℤ e) f,
      add_law s x,
      add_law (s +ℤ x) y,
      add_law (a +ℤ e +ℤ f) (s +ℤ x +ℤ y),
      add_law a s,
      add_law e x,
      add_law f y,
      add_law (a +ℤ s) (e +ℤ x),
      add_law ((a +ℤ s) +ℤ (e +ℤ x)) (f +ℤ y),
    ))

further : (a s x y : ℤ) → a +ℤ (s +ℤ x +ℤ y) ≡ (a +ℤ s) +ℤ x +ℤ y
further a s x y =
    eq_parts _ _ (omega (
      arith,
      add_law s x,
      add_law (s +ℤ x) y,
      add_law a (s +ℤ x +ℤ y),
      add_law a s,
      add_law (a +ℤ s) x,
      add_law ((a +ℤ s) +ℤ x) y,
    ))

-- ---- one record: by ron the discarder pays the counters

module _ (took : ℕ → ℕ) (w d whole n : ℕ) (h : d < 4) (other : w ≡ d → ⊥) where
  abbrev owed : Liable → ℕ → ℕ → ℕ
  owed who m = owes took d whole m who true

  more_owed : (who : Liable) (j : ℕ) → owed who n j ≡ owed who 0 j + cond (eqb j d) (300 * n) 0
  unfolding owes
  more_owed nobody j = go (eqb j d)
    where
      go : (b : Bool) → took j + cond b (300 * n) 0 ≡ took j + cond b (300 * 0) 0 + cond b (300 * n) 0
      go true = omega arith
      go false = omega arith
  more_owed (the_feeder x) j = go (eqb j d) _
    where
      go : (b : Bool) (m : ℕ) → m + cond b (whole / 2 + 300 * n) 0 ≡ m + cond b (whole / 2 + 300 * 0) 0 + cond b (300 * n) 0
      go true m = omega arith
      go false m = omega arith

  more_owed_in_all : (who : Liable) → sum 4 (λ j. cond (eqb j w) 0 (owed who n j)) ≡ sum 4 (λ j. cond (eqb j w) 0 (owed who 0 j)) + 300 * n
  more_owed_in_all who =
      let m : ℕ → ℕ = λ j. cond (eqb j d) (300 * n) 0 in
      let e : (j : ℕ) → cond (eqb j w) 0 (owed who n j) ≡ cond (eqb j w) 0 (owed who 0 j + m j)
      = λ j. ap (λ (k : ℕ). cond (eqb j w) 0 k) (more_owed who j) in
      rw (e 0, e 1, e 2, e 3) (both_pay (λ j. eqb j w) (owed who 0) m ∙ ap (λ (k : ℕ). sum 4 (λ j. cond (eqb j w) 0 (owed who 0 j)) + k)
      (one_pays (300 * n) w d h other))

  counters_apart : (who : Liable) (i : ℕ)
      → paid_by_others w (owed who n) i ≡ paid_by_others w (owed who 0) i +ℤ to (eqb i w) (300 * n) +ℤ of (eqb i d) (300 * n)
  unfolding paid_by_others
  counters_apart who i = go (eqb i w) (eqb i d) refl refl
    where
      go : (a b : Bool) → eqb i w ≡ a → eqb i d ≡ b
          → cond a (pos (sum 4 (λ j. cond (eqb j w) 0 (owed who n j)))) (neg_ℤ (pos (owed who n i)))
          ≡ cond a (pos (sum 4 (λ j. cond (eqb j w) 0 (owed who 0 j)))) (neg_ℤ (pos (owed who 0 i))) +ℤ to a (300 * n) +ℤ of b (300 * n)
      go true true p q = absurd (other (sym (eqb-true i w p) ∙ eqb-true i d q))
      go true false p q =
          let s : ℕ = sum 4 (λ j. cond (eqb j w) 0 (owed who 0 j)) in
          let z : s + 300 * n + 0 ≡ s + 300 * n = omega arith in
          ap pos (more_owed_in_all who ∙ sym z)
      go false b p q =
          let m : ℕ = owed who 0 i in
          ap (λ (k : ℕ). neg_ℤ (pos k)) (more_owed who i ∙ ap (λ (c : Bool). m + cond c (300 * n) 0) q) ∙ less m b
        where
          less : (m : ℕ) (b : Bool) → neg_ℤ (pos (m + cond b (300 * n) 0)) ≡ neg_ℤ (pos m) +ℤ pos 0 +ℤ of b (300 * n)
          less m true =
              eq_parts _ _ (omega (
                arith,
                neg_law (pos m),
                neg_law (pos (300 * n)),
                neg_law (pos (m + 300 * n)),
                add_law (neg_ℤ (pos m)) (pos 0),
                add_law (neg_ℤ (pos m) +ℤ pos 0) (neg_ℤ (pos (300 * n))),
              ))
          less m false =
              eq_parts _ _ (omega (
                arith,
                neg_law (pos m),
                neg_law (pos (m + 0)),
                add_law (neg_ℤ (pos m)) (pos 0),
                add_law (neg_ℤ (pos m) +ℤ pos 0) (pos 0),
              ))

module _ (l : Position) (s : List ℕ) (e : Read s) (ron : is_ron (hand_for s).fields ≡ true) (n k i : ℕ) where
  abbrev f : Fields
  f = (hand_for s).fields

  abbrev who : Liable
  who =
      let yaku = (scored_for l s).yaku in
      liable_in l f.winner (get_or yaku 28 false) (get_or yaku 29 false && holds_four_winds (hand_for s))

  -- what the record gives alone, and the counters and sticks
  pub alone_and_more : win_gives l s n k i ≡ win_gives l s 0 0 i +ℤ to (eqb i f.winner) (300 * n + 1000 * k) +ℤ of (eqb i f.discarder) (300 * n)
  unfolding win_gives payments
  alone_and_more =
      let b = read_bounds s e in
      let took : ℕ → ℕ = λ j. nat_abs (get_or (scored_for l s).changes j (pos 0)) in
      let other = other_seat f b.other ron in
      let paid : ℕ → ℤ = λ m. paid_by_others f.winner (owes took f.discarder (whole_of (is_dealers_win l s)) m who true) i in
      let apart = counters_apart took f.winner f.discarder (whole_of (is_dealers_win l s)) n (omega (arith, b.discarder)) other who i in
      rw (ron, apart) (sticks (paid 0) (eqb i f.winner) (of (eqb i f.discarder) (300 * n)))
    where
      sticks : (p : ℤ) (b : Bool) (x : ℤ) → (p +ℤ to b (300 * n) +ℤ x) +ℤ to b (1000 * k) ≡ (p +ℤ to b (1000 * 0)) +ℤ to b (300 * n + 1000 * k) +ℤ x
      sticks p b x =
          let t : ℤ = to b (300 * n) in
          let u : ℤ = to b (1000 * k) in
          let v : ℤ = to b (1000 * 0) in
          let y : ℤ = to b (300 * n + 1000 * k) in
          let z : v ≡ pos 0 = nothing_to b in
          rw (to_both b (300 * n) (1000 * k), z) (eq_parts _ _ (omega (
            arith,
            add_law p t,
            add_law (p +ℤ t) x,
            add_law (p +ℤ t +ℤ x) u,
            add_law p (pos 0),
            add_law t u,
            add_law (p +ℤ pos 0) (t +ℤ u),
            add_law ((p +ℤ pos 0) +ℤ (t +ℤ u)) x,
          )))

-- ---- all records

module _ (l : Position) (x i : ℕ) where
  abbrev n : ℕ
  n = 300 * l.counter

  abbrev all : ℕ
  all = n + 1000 * l.sticks

  -- what the records of seat x take
  abbrev Apart : List (List ℕ) → ℕ → Type 0
  Apart ss d = multi_ron_gives l x ss i ≡ each_alone l ss i +ℤ to (eqb i x) (taken x all ss) +ℤ of (eqb i d) (taken x n ss)

  none_apart : (d : ℕ) → Apart [] d
  unfolding multi_ron_gives taken
  none_apart d = rw (nothing_to (eqb i x), nothing_of (eqb i d))

  same_discarder : (f : Fields) (ss : List (List ℕ)) → conflicts f ss ≡ false → Apart ss (discarder_of ss) → Apart ss f.discarder
  same_discarder f [] c p = none_apart f.discarder
  same_discarder f (s ∷ ss) c p = rw (next_discarder f s ss c) p

  all_apart : (ss : List (List ℕ)) → AllRead ss → not_on_one_tile ss ≡ false → Apart ss (discarder_of ss)
  unfolding multi_ron_gives taken
  all_apart [] r e = none_apart 0
  all_apart (s ∷ ss) r e =
      let p = rons_first s ss e in
      step (eqb (winner_of s) x) refl (same_discarder (hand_for s).fields ss p.1 (all_apart ss r.1 p.2))
    where
      d : ℕ
      d = (hand_for s).fields.discarder

      step : (t : Bool) → eqb (winner_of s) x ≡ t → Apart ss d
          → win_gives l s (cond t l.counter 0) (cond t l.sticks 0) i +ℤ multi_ron_gives l x ss i
          ≡ (win_gives l s 0 0 i +ℤ each_alone l ss i) +ℤ to (eqb i x) (cond t all 0 + taken x all ss) +ℤ of (eqb i d) (cond t n 0 + taken x n ss)
      step true q p =
          let w : winner_of s ≡ x = eqb-true (winner_of s) x q in
          let a : win_gives l s l.counter l.sticks i ≡ win_gives l s 0 0 i +ℤ to (eqb i x) all +ℤ of (eqb i d) n
          = alone_and_more l s r.0 (rons_first s ss e).0 l.counter l.sticks i
          ∙ ap (λ (j : ℕ). win_gives l s 0 0 i +ℤ to (eqb i j) all +ℤ of (eqb i d) n) w in
          ap (λ (z : ℤ). z +ℤ multi_ron_gives l x ss i) a
          ∙ ap (λ (z : ℤ). (win_gives l s 0 0 i +ℤ to (eqb i x) all +ℤ of (eqb i d) n) +ℤ z) p
          ∙ regroup (win_gives l s 0 0 i) (to (eqb i x) all) (of (eqb i d) n) (each_alone l ss i) (to (eqb i x) (taken x all ss)) (of (eqb i d) (taken x n ss))
          ∙ ap (λ (z : ℤ). (win_gives l s 0 0 i +ℤ each_alone l ss i) +ℤ z +ℤ (of (eqb i d) n +ℤ of (eqb i d) (taken x n ss)))
          (sym (to_both (eqb i x) all (taken x all ss)))
          ∙ ap (λ (z : ℤ). (win_gives l s 0 0 i +ℤ each_alone l ss i) +ℤ to (eqb i x) (all + taken x all ss) +ℤ z) (sym (of_both (eqb i d) n (taken x n ss)))
      step false q p =
          ap (λ (z : ℤ). win_gives l s 0 0 i +ℤ z) p
          ∙ further (win_gives l s 0 0 i) (each_alone l ss i) (to (eqb i x) (taken x all ss)) (of (eqb i d) (taken x n ss))
          ∙ ap (λ (m : ℕ). (win_gives l s 0 0 i +ℤ each_alone l ss i) +ℤ to (eqb i x) m +ℤ of (eqb i d) (taken x n ss)) (none (taken x all ss))
          ∙ ap (λ (m : ℕ). (win_gives l s 0 0 i +ℤ each_alone l ss i) +ℤ to (eqb i x) (0 + taken x all ss) +ℤ of (eqb i d) m) (none (taken x n ss))
        where
          none : (m : ℕ) → m ≡ 0 + m
          none m = omega arith

module _ (l : Position) (number : ℕ) (s : List ℕ) (e : refusal_for l (result (multi_ron number s)) ≡ 0) where
  abbrev ss : List (List ℕ)
  ss = records_of number s

  abbrev first : ℕ
  first = first_winner ss

  gives : (i : ℕ) → (effect_of l (result (multi_ron number s))).gives i
      ≡ each_alone l ss i +ℤ to (eqb i first) (300 * l.counter + 1000 * l.sticks) +ℤ of (eqb i (discarder_of ss)) (300 * l.counter)
  unfolding effect_of
  gives i =
      let a = multi_ron_accepted l number s e in
      let once : (k : ℕ) → taken first k ss ≡ k = λ k. first_once first k ss a.set ∙ rw (first_winner_lem l number s e).0 in
      all_apart l first i ss a.read a.set
      ∙ ap (λ (m : ℕ). each_alone l ss i +ℤ to (eqb i first) m +ℤ of (eqb i (discarder_of ss)) (taken first (300 * l.counter) ss))
      (once (300 * l.counter + 1000 * l.sticks))
      ∙ ap (λ (m : ℕ). each_alone l ss i +ℤ to (eqb i first) (300 * l.counter + 1000 * l.sticks) +ℤ of (eqb i (discarder_of ss)) m) (once (300 * l.counter))

  pub multi_ron_pays : let d = discarder_of ss in
      (x : ℕ) × (is_winner ss x ≡ true) × ((y : ℕ) → is_winner ss y ≡ true → turns_after d x ≤ turns_after d y)
      × ((i : ℕ) → (effect_of l (result (multi_ron number s))).gives i
      ≡ each_alone l ss i +ℤ to (eqb i x) (300 * l.counter + 1000 * l.sticks) +ℤ of (eqb i d) (300 * l.counter))
  multi_ron_pays = let w = first_winner_lem l number s e in (first, w.0, w.1, gives)
