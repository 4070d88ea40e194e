-- From the table and the walk to the nearest ready hand.
use Rattle.std.specs.Prelude.{◌≡◌, refl, List, ℕ, ◌-◌, ◌*◌, ◌≤◌, ◌<◌, length, get_or}
use Rattle.std.proofs.Common.{arith}
use Rattle.tiles.specs.Below.{sum_below}
use Rattle.tiles.proofs.laws.Tally.{tally_bound}
use Rattle.ready_choices.specs.search.Tallies.{HandTally, MeldsTally, NearestTally}
use Rattle.ready_choices.specs.search.Moves.{state, best}
use Rattle.ready_nearest.specs.search.Found.{Fours, RowOf, Walked, Topmost, Shorter}
use Rattle.ready_choices.proofs.laws.Sums.{total_le_of}
use Rattle.ready_choices.proofs.laws.Reach.{both, reach_four}
use Rattle.ready_choices.proofs.laws.Near.{groups, Whole, reach_whole, nearest_of}
use Rattle.ready_choices.proofs.laws.Exists.{complete_exists}

module _ (t d : List ℕ) (m : ℕ) (h : HandTally t d m) (ld : length d ≡ 34) where
  pub fours_hand : Fours t
  fours_hand = tally_bound t h.kinds 4 (λ k l. omega (arith, h.four k l))

  pub fours_melds : Fours d
  fours_melds = tally_bound d ld 4 (λ k l. omega (arith, h.four k l))

  module _ (s : ℕ) (p : Topmost t d m s) (g : MeldsTally d m) where
    -- there is a complete hand
    pub some_complete : 1 ≤ best t d 34 0 s
    some_complete = omega (arith, complete_exists t d m fours_melds g, p.top (state 0 0 (4 - m) 1) (groups refl))

    module _ (w : List ℕ) (q : Walked t d s w) where
      whole : Whole w m
      whole = reach_whole m d w s q.end g.few q.long p.from q.reach q.done

      -- a complete hand has a tile more
      pub tile_more : sum_below 34 (λ k. get_or t k 0) < sum_below 34 (λ k. get_or w k 0)
      tile_more = omega (arith, whole.size, h.tiles)

      -- the hand of the best choices, with one tile less
      pub shorter_nearest : (u : List ℕ) → Shorter t w u → NearestTally t d m (14 - 3 * m - best t d 34 0 s) u
      shorter_nearest u r =
          rw r.less_one
          (nearest_of t d w m r.kind (best t d 34 0 s) h q.long whole (λ k l. reach_four s d w 34 q.end q.reach fours_melds k l) q.keeps
          r.low r.lack p.top)

      module _ (row : List ℕ) (f : RowOf t d 0 row) where
        value : get_or row s 0 ≡ best t d 34 0 s
        value = f.values s p.low

        -- one more than the tiles kept, of which there are no more than the hand has
        pub value_low : get_or row s 0 ≤ 14 - 3 * m
        value_low =
            let a = value in
            let b : sum_below 34 (both t w) ≤ sum_below 34 (λ k. get_or t k 0) = total_le_of (both t w) (λ k. get_or t k 0) 34 (λ k l. omega arith) in
            omega (arith, q.keeps, h.tiles)

        pub answer : (u : List ℕ) → Shorter t w u → NearestTally t d m (14 - 3 * m - get_or row s 0) u
        answer u r = rw value (shorter_nearest u r)
