-- From the nearest tally to the nearest hand, and what two nearest hands have in common.
use Rattle.std.specs.Prelude.{◌≡◌, Bool, ◌||◌, List, ℕ, ◌+◌, ◌-◌, ◌*◌, ◌≤◌, ◌<◌, get_or}
use Rattle.std.proofs.Math.Path.{refl, sym, ap}
use Rattle.std.proofs.Common.{subst, ◌∙◌, arith}
use Rattle.std.proofs.Math.Bool.{true, false, not}
use borrow.Author.Tests.{le-ltb, eq-eqb, ltb-false}
use Rattle.std.proofs.Math.Dec.{ltb, eqb}
use Rattle.tiles.specs.Below.{all, all_below, any_below}
use Rattle.tiles.specs.Tally.{tally_of}
use Rattle.tiles.proofs.laws.Below.{or_both, some_of, every_of}
use Rattle.tiles.proofs.laws.Tally.{tally_ext, get_d_tally}
use Rattle.hand.specs.declared.Held.{Held}
use Rattle.hand.specs.Held.{meld_tile, some_meld, others, in_melds, in_others, in_held, tile_over33, chi_without_run, wrong_held, descends, over_four, unused_not_zero}
use Rattle.unfinished.proofs.laws.Sound.{clean_of, of_clean}
use Rattle.ready_choices.specs.search.Tallies.{HandTally, ReadyTally, MeldsTally, NearestTally}
use Rattle.ready.specs.Ready.{SameMelds, IsReady, IsNearest}
use Rattle.ready.specs.search.Written.{same_melds_with, in_first, Written}
use Rattle.ready.proofs.laws.Tallies.{tally_cong, same_melds, tally_wait, melds_tally, hand_tally_lem, ready_tally, swaps_tally}

-- ---- a hand beside the melds of x

module _ (x : Held) (few : x.m ≤ 4) (b : SameMelds x x) where
  -- a ready hand beside them, as a tally
  same_melds_ready : (z : Held) → SameMelds x z → IsReady z → ReadyTally (tally_of (in_others z)) (tally_of (in_melds x)) x.m
  same_melds_ready z h r =
      let e : tally_of (in_melds z) ≡ tally_of (in_melds x) = tally_cong (in_melds z) (in_melds x) (λ k l. same_melds x z h.number h.melds k) in
      let n : z.m ≡ x.m = h.number in
      subst (λ (m : ℕ). ReadyTally (tally_of (in_others z)) (tally_of (in_melds x)) m) n
      (subst (λ (d : List ℕ). ReadyTally (tally_of (in_others z)) d z.m) e (ready_tally z (omega arith) h.sound r))

  module _ (u r : List ℕ) (h : HandTally u (tally_of (in_melds x)) x.m) (n : ℕ) (w : Written u 34 0 n r) where
    y : Held
    y = same_melds_with x r

    many : n ≡ 13 - 3 * x.m
    many = omega (arith, w.many, h.tiles)

    written_at : (k : ℕ) → k < 34 → in_others y k ≡ get_or u k 0
    unfolding in_others y
    written_at k l = ap (λ (i : ℕ). in_first r i k) (sym many) ∙ w.before k l

    pub written_tally : u ≡ tally_of (in_others (same_melds_with x r))
    unfolding y
    written_tally = tally_ext u (in_others y) h.kinds (λ k l. sym (written_at k l))

    no_wrong : wrong_held y 0 ≡ false
    unfolding wrong_held tile_over33 y
    no_wrong =
        let c = or_both (tile_over33 x) (chi_without_run x) (or_both (tile_over33 x || chi_without_run x) (ltb 0 0) (clean_of x 0 b.sound).held).0 in
        let o = or_both (some_meld x (λ b. ltb 33 (meld_tile b))) (any_below (others x) (λ i. ltb 33 (get_or x.concealed i 0))) c.0 in
        let k = some_of (λ i. ltb 33 (get_or r i 0)) (13 - 3 * x.m) (λ i l. le-ltb 33 (get_or r i 0) (omega (arith, w.kinds i (omega (arith, many))))) in
        join (some_meld x (λ b. ltb 33 (meld_tile b))) (any_below (others x) (λ i. ltb 33 (get_or r i 0))) (chi_without_run x) o.0 k c.1
      where
        join : (p q c : Bool) → p ≡ false → q ≡ false → c ≡ false → (p || q) || c || ltb 0 0 ≡ false
        join p q c e f g = rw (e, f, g) (le-ltb 0 0 (omega arith))

    no_descent : descends y ≡ false
    unfolding descends y
    no_descent =
        some_of (λ i. ltb (get_or r (i + 1) 0) (get_or r i 0)) (13 - 3 * x.m - 1)
        (λ i l. le-ltb (get_or r (i + 1) 0) (get_or r i 0) (w.order i (omega (arith, many))))

    no_five : over_four (in_held y) ≡ false
    unfolding over_four in_held y
    no_five =
        some_of (λ k. ltb 4 (in_others y k + in_melds y k)) 34
        (λ k l. le-ltb 4 (in_others y k + in_melds y k) (omega (arith, h.four k l, written_at k l, same_melds x y refl refl k, get_d_tally (in_melds x) k l)))

    no_unused : unused_not_zero y ≡ false
    unfolding unused_not_zero y
    no_unused =
        let o = or_both (not (all 4 (λ i. ltb i x.m || eqb (get_or x.melds i 0) 0)))
        (not (all_below 13 (λ i. ltb i (others x) || eqb (get_or x.concealed i 0) 0))) b.unused in
        join (not (all 4 (λ i. ltb i x.m || eqb (get_or x.melds i 0) 0))) (all_below 13 (λ i. ltb i (others x) || eqb (get_or r i 0) 0)) o.0
        (every_of (λ i. ltb i (13 - 3 * x.m) || eqb (get_or r i 0) 0) 13 (λ i l. used i (ltb i (13 - 3 * x.m)) refl))
      where
        join : (p q : Bool) → p ≡ false → q ≡ true → p || not q ≡ false
        join p q e f = rw (e, f)

        used : (i : ℕ) (c : Bool) → ltb i (13 - 3 * x.m) ≡ c → c || eqb (get_or r i 0) 0 ≡ true
        used i true e = refl
        used i false e = eq-eqb (get_or r i 0) 0 (w.zeros i (omega (arith, ltb-false i (13 - 3 * x.m) e, many)))

    pub same_melds_written : SameMelds x (same_melds_with x r)
    unfolding y
    same_melds_written = record {
      number = refl;
      melds = refl;
      sound = of_clean (same_melds_with x r) 0 (record { held = no_wrong; order = no_descent; four = no_five });
      long = w.long;
      unused = no_unused;
    }

  -- the nearest tally, written out, is the nearest hand
  pub nearest_written : (u r : List ℕ) (a n : ℕ) → NearestTally (tally_of (in_others x)) (tally_of (in_melds x)) x.m a u → Written u 34 0 n r
      → IsNearest x a (same_melds_with x r)
  nearest_written u r a n q w =
      let h = q.ready.hand in
      let e : u ≡ tally_of (in_others (same_melds_with x r)) = written_tally u r h n w in
      let melds : tally_of (in_melds x) ≡ tally_of (in_melds (same_melds_with x r)) =
      tally_cong (in_melds x) (in_melds (same_melds_with x r)) (λ k l. sym (same_melds x (same_melds_with x r) refl refl k)) in
      record {
        hand = same_melds_written u r h n w;
        ready = (q.ready.kind, tally_wait (same_melds_with x r) q.ready.kind (rw (e, melds) at q.ready.wait));
        away = sym (swaps_tally x (same_melds_with x r)) ∙ (rw e at q.away);
        fewest = λ z g s. rw (← swaps_tally x z) (q.fewest (tally_of (in_others z)) (same_melds_ready z g s));
      }

  -- what the code has: t and d are the tallies
  module _ (t d : List ℕ) (et : t ≡ tally_of (in_others x)) (ed : d ≡ tally_of (in_melds x)) where
    pub tallies_fit : HandTally t d x.m × MeldsTally d x.m
    tallies_fit = rw (et, ed) (hand_tally_lem x few b.sound, melds_tally x few)

    pub nearest_found : (u r : List ℕ) (a n : ℕ) → NearestTally t d x.m a u → Written u 34 0 n r → IsNearest x a (same_melds_with x r)
    nearest_found u r a n q w = nearest_written u r a n (rw (et, ed) at q) w
