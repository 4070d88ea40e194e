-- What the best choices come to: the nearest ready hand is a complete hand that keeps most tiles, with one tile less.
use Rattle.std.specs.Prelude.{◌≡◌, refl, ◌⊎◌, List, [], ◌∷◌, ℕ, ◌+◌, ◌-◌, ◌*◌, ◌≤◌, ◌<◌, eqb, length, get_or}
use Rattle.std.proofs.Common.{sym, ◌∙◌, inl, inr, ⊎_elim, arith, le-ltb, eqb-true, length-set, ext_get_or}
use mathlib.Core.Bool.{Bool, true, false, ◌||◌}
use Rattle.std.proofs.lemmas.Bool.{eqb-false}
use Rattle.tiles.specs.Below.{sum_below}
use Rattle.tiles.specs.Groups.{is_group, at_kind, uses}
use Rattle.tiles.specs.Tally.{more}
use Rattle.tiles.proofs.laws.Tally.{get_d_more, at_le}
use Rattle.reading.specs.declared.Reading.{Reading}
use Rattle.reading.specs.Reading.{used_by, IsReading, regular, pairs, orphans, of_shape}
use Rattle.reading.specs.search.Readings.{less}
use Rattle.reading.proofs.laws.Groups.{run_or, run_in, triplet_in, at_same, at_other, less_at, less_long}
use Rattle.ready_choices.specs.search.Tallies.{HandTally, ReadyTally, NearestTally, swaps_of}
use Rattle.ready_choices.specs.search.Moves.{state, ended, best, g_of}
use Rattle.ready_choices.proofs.laws.Sums.{total_cong, total_add, total_none, total_le_of, total_at}
use Rattle.ready_choices.proofs.laws.Reach.{Reach, both, reach_kept}
use Rattle.ready_choices.proofs.laws.Regular.{shape_of, shape_reach}
use Rattle.ready_choices.proofs.laws.Built.{AllGroups, built, uses_run}
use Rattle.ready_choices.proofs.laws.Whole.{Reads, reach_reads}
use Rattle.ready_choices.proofs.laws.Special.{seven_reach, reach_seven, orphans_reach, reach_orphans, seven_end, orphans_end, seven_total, orphans_total}

-- ---- the tiles of a complete hand
uses_three : (g k : ℕ) → 34 ≤ g → uses g k ≡ at_kind (g - 34) 3 k
unfolding uses
uses_three g k r = rw (le-ltb g 34 r)

group_total : (g : ℕ) → is_group g ≡ true → sum_below 34 (uses g) ≡ 3
group_total g e =
    run_or g
    (λ r.
    let (a, b) = run_in g e r in
    omega (
      arith,
      total_cong (uses g) (λ k. at_kind g 1 k + at_kind (g + 1) 1 k + at_kind (g + 2) 1 k) 34 (λ k l. uses_run g k r),
      total_add (λ k. at_kind g 1 k + at_kind (g + 1) 1 k) (at_kind (g + 2) 1) 34,
      total_add (at_kind g 1) (at_kind (g + 1) 1) 34,
      total_at g 1 34 (omega arith),
      total_at (g + 1) 1 34 (omega arith),
      total_at (g + 2) 1 34 (omega arith),
    ))
    (λ r. total_cong (uses g) (at_kind (g - 34) 3) 34 (λ k l. uses_three g k r) ∙ total_at (g - 34) 3 34 (omega (arith, triplet_in g e r)))

groups_total : (gs : List ℕ) → AllGroups gs → sum_below 34 (used_by gs) ≡ 3 * length gs
unfolding used_by
groups_total [] a = total_none (λ k. 0) 34 (λ k l. refl)
groups_total (g ∷ gs) a = omega (arith, total_add (uses g) (used_by gs) 34, group_total g a.0, groups_total gs a.1)

-- ---- complete hands
pub record Whole (w : List ℕ) (m : ℕ) : Type 0 where
  pub size : sum_below 34 (λ k. get_or w k 0) + 3 * m ≡ 14
  pub reads : (win : ℕ) → 1 ≤ get_or w win 0 → Reads w m win

-- where the choices for a complete hand begin
pub data Start (m : ℕ) : ℕ → Type 0 where
  groups : {s : ℕ} → s ≡ state 0 0 (4 - m) 1 → Start m s
  seven : {s : ℕ} → m ≡ 0 → s ≡ 77 → Start m s
  thirteen : {s : ℕ} → m ≡ 0 → s ≡ 79 → Start m s

ended_in : (s : ℕ) → ended s ≡ true → (s ≡ 0) ⊎ ((s ≡ 70) ⊎ (s ≡ 78))
unfolding ended
ended_in s e = go (eqb s 0) (eqb s 70) (eqb s 78) refl refl refl e
  where
    go : (a b c : Bool) → eqb s 0 ≡ a → eqb s 70 ≡ b → eqb s 78 ≡ c → (a || b) || c ≡ true → (s ≡ 0) ⊎ ((s ≡ 70) ⊎ (s ≡ 78))
    go true b c x y z o = inl (eqb-true s 0 x)
    go false true c x y z o = inr (inl (eqb-true s 70 y))
    go false false true x y z o = inr (inr (eqb-true s 78 z))
    go false false false x y z o = absurd (mathlib.Core.Bool.false≢true o)

regular_whole : (m : ℕ) (d w : List ℕ) → m ≤ 4 → length w ≡ 34 → Reach (state 0 0 (4 - m) 1) d w 34 0 → Whole w m
unfolding g_of
regular_whole m d w h l r =
    let b = built (4 - m) d w 34 0 (omega arith) (omega arith) r in
    let q : b.q ≡ 1 = omega (arith, b.one) in
    let c : sum_below 34 (λ k. get_or w k 0) ≡ sum_below 34 (λ k. at_kind b.pair 2 k + used_by b.codes k) =
    total_cong (λ k. get_or w k 0) (λ k. at_kind b.pair 2 k + used_by b.codes k) 34 (λ k i. rw q at (b.tiles k i)) in
    let n : length b.codes ≡ 4 - m = omega (arith, b.size) in
    record {
      size = omega (arith, c, total_add (at_kind b.pair 2) (used_by b.codes) 34, total_at b.pair 2 34 b.kind, groups_total b.codes b.groups);
      reads = λ win i. reach_reads d w m win l r i;
    }

regular_end : (m : ℕ) (d w : List ℕ) (s : ℕ) → Reach (state 0 0 (4 - m) 1) d w 34 s → s < 70
regular_end m d w s r = (built (4 - m) d w 34 s (omega arith) (omega arith) r).low

-- choices to the end make a complete hand
pub reach_whole : (m : ℕ) (d w : List ℕ) (s0 s : ℕ) → m ≤ 4 → length w ≡ 34 → Start m s0 → Reach s0 d w 34 s → ended s ≡ true → Whole w m
reach_whole m d w s0 s h l (groups q) r e =
    let r' : Reach (state 0 0 (4 - m) 1) d w 34 s = rw q at r in
    let z : s ≡ 0 = ⊎_elim (λ i. i) (⊎_elim (λ i. absurd (omega (arith, regular_end m d w s r'))) (λ i. absurd (omega (arith, regular_end m d w s r'))))
    (ended_in s e) in
    regular_whole m d w h l (rw z at r')
reach_whole m d w s0 s h l (seven z q) r e =
    let r' : Reach 77 d w 34 s = rw q at r in
    let i : s ≡ 70 = ⊎_elim (λ i. absurd (omega (arith, seven_end d w s r'))) (⊎_elim (λ i. i) (λ i. absurd (omega (arith, seven_end d w s r'))))
    (ended_in s e) in
    let k = reach_seven d w (rw i at r') in
    record {
      size = omega (arith, seven_total w k);
      reads = λ win g. record { reading = of_shape 1; reads = pairs (record { meldless = z; kinds = k; reading = refl }) };
    }
reach_whole m d w s0 s h l (thirteen z q) r e =
    let r' : Reach 79 d w 34 s = rw q at r in
    let i : s ≡ 78 = ⊎_elim (λ i. absurd (omega (arith, orphans_end d w s r'))) (⊎_elim (λ i. absurd (omega (arith, orphans_end d w s r'))) (λ i. i))
    (ended_in s e) in
    let k = reach_orphans d w (rw i at r') in
    record {
      size = omega (arith, orphans_total w k);
      reads = λ win g. record { reading = of_shape 2; reads = orphans (record { meldless = z; kinds = k; reading = refl }) };
    }

-- a hand with a reading comes of choices
pub record Came (m : ℕ) (d w : List ℕ) : Type 0 where
  pub start : ℕ
  pub from : Start m start
  pub end : ℕ
  pub reach : Reach start d w 34 end
  pub done : ended end ≡ true

pub reading_came : (m win : ℕ) (d w : List ℕ) (r : Reading) → ((k : ℕ) → k < 34 → get_or w k 0 + get_or d k 0 ≤ 4) → IsReading w m win r → Came m d w
unfolding ended
reading_came m win d w r four (regular p) =
    let h = shape_of p.codes w 0 r.pair p.order p.pair (λ k l. p.tiles k) in
    let g : length p.codes ≡ 4 - m = p.size in
    record {
      start = state 0 0 (4 - m) 1;
      from = groups refl;
      end = 0;
      reach = rw (← g)
          (shape_reach (length p.codes) d w (omega arith) four h);
      done = refl;
    }
reading_came m win d w r four (pairs p) = record { start = 77; from = seven p.meldless refl; end = 70; reach = seven_reach d w four p.kinds; done = refl }
reading_came m win d w r four (orphans p) =
    record { start = 79; from = thirteen p.meldless refl; end = 78; reach = orphans_reach d w four p.kinds; done = refl }

-- ---- swaps and tiles kept
swaps_kept : (t u : List ℕ) → swaps_of t u + sum_below 34 (both t u) ≡ sum_below 34 (λ k. get_or t k 0)
unfolding swaps_of
swaps_kept t u =
    sym (total_add (λ k. get_or t k 0 - get_or u k 0) (both t u) 34)
    ∙ total_cong (λ k. (get_or t k 0 - get_or u k 0) + both t u k) (λ k. get_or t k 0) 34 (λ k l. omega arith)

-- a ready hand, with the tile it waits for, comes of choices: it needs as many swaps as the best of their start says
pub record Needs (t d : List ℕ) (m n : ℕ) : Type 0 where
  pub start : ℕ
  pub from : Start m start
  pub swapped : 14 ≤ n + 3 * m + best t d 34 0 start

pub ready_needs : (t d v : List ℕ) (m : ℕ) → HandTally t d m → ReadyTally v d m → Needs t d m (swaps_of t v)
ready_needs t d v m h r =
    let k = r.kind in
    let w = more v k 1 in
    let lv : length v ≡ 34 = r.hand.kinds in
    let at-w : (j : ℕ) → j < 34 → get_or w j 0 ≡ get_or v j 0 + at_kind k 1 j = λ j l. get_d_more v k 1 j (omega arith) in
    let four : (j : ℕ) → j < 34 → get_or w j 0 + get_or d j 0 ≤ 4 = λ j l. go k r.wait.below r.hand.four j l (at-w j l) (eqb k j) refl in
    let c = reading_came m k d w r.wait.reading four r.wait.reads in
    let kw = reach_kept c.start t d w c.end c.reach c.done in
    let le : sum_below 34 (both t v) ≤ sum_below 34 (both t w) = total_le_of (both t v) (both t w) 34 (λ j l. omega (arith, at-w j l)) in
    record { start = c.start; from = c.from; swapped = omega (arith, swaps_kept t v, h.tiles, kw, le) }
  where
    go : (k : ℕ) → get_or v k 0 + get_or d k 0 < 4 → ((j : ℕ) → j < 34 → get_or v j 0 + get_or d j 0 ≤ 4) → (j : ℕ) → j < 34
        → get_or (more v k 1) j 0 ≡ get_or v j 0 + at_kind k 1 j → (b : Bool) → eqb k j ≡ b →
        get_or (more v k 1) j 0 + get_or d j 0 ≤ 4
    go k b f j l e true q = let i : k ≡ j = eqb-true k j q in let c : get_or v j 0 + get_or d j 0 < 4 = rw (← i) b in omega (arith, e, at_le k 1 j)
    go k b f j l e false q = omega (arith, e, f j l, at_other k 1 j (eqb-false k j q))

-- ---- a tile less
more_long : (t : List ℕ) (k n : ℕ) → length (more t k n) ≡ length t
unfolding more
more_long t k n = rw length-set

module _ (t d w : List ℕ) (m j x : ℕ) (ht : HandTally t d m) (lw : length w ≡ 34) (h : Whole w m) (four : (k : ℕ) → k < 34 → get_or w k 0 + get_or d k 0 ≤ 4)
    (v : sum_below 34 (both t w) + 1 ≡ x) (lj : j < 34) (lack : get_or t j 0 < get_or w j 0) where
  u : List ℕ
  u = less w j 1

  begun : (k : ℕ) → get_or w k 0 ≡ at_kind j 1 k + get_or u k 0
  unfolding u
  begun k = less_at w j 1 (omega arith) (omega arith) k

  long : length u ≡ 34
  unfolding u
  long = less_long w j 1 lw

  one_less : sum_below 34 (λ k. get_or w k 0) ≡ 1 + sum_below 34 (λ k. get_or u k 0)
  one_less =
      total_cong (λ k. get_or w k 0) (λ k. at_kind j 1 k + get_or u k 0) 34 (λ k l. begun k)
      ∙ omega (arith, total_add (at_kind j 1) (λ k. get_or u k 0) 34, total_at j 1 34 lj)

  again : more u j 1 ≡ w
  again = ext_get_or 0 (more u j 1) w (more_long u j 1 ∙ long ∙ sym lw) (λ k l. get_d_more u j 1 k (omega (arith, more_long u j 1)) ∙ omega (arith, begun k))

  same_kept : (k : ℕ) → both t u k ≡ both t w k
  same_kept k = go (eqb j k) refl
    where
      go : (b : Bool) → eqb j k ≡ b → both t u k ≡ both t w k
      go true e =
          let i : j ≡ k = eqb-true j k e in
          let o : at_kind j 1 k ≡ 1 = rw (← i) (at_same j 1) in
          let a : get_or t k 0 < get_or w k 0 = rw (← i) lack in
          omega (arith, begun k)
      go false e = omega (arith, begun k, at_other j 1 k (eqb-false j k e))

  ready : ReadyTally u d m
  ready =
      let b : get_or w j 0 ≡ 1 + get_or u j 0 = omega (arith, begun j, at_same j 1) in
      let rd = h.reads j (omega arith) in
      record {
        hand = record { kinds = long; tiles = omega (arith, h.size, one_less); four = λ k l. omega (arith, four k l, begun k) };
        kind = j;
        wait = record { kind = lj; below = omega (arith, four j lj); reading = rd.reading; reads = rw again rd.reads };
      }

  away : swaps_of t u + 3 * m + x ≡ 14
  away = omega (arith, swaps_kept t u, ht.tiles, total_cong (both t u) (both t w) 34 (λ k l. same_kept k))

  -- the hand without a tile that t lacks is ready, and no ready hand is nearer than the best start says
  pub nearest_of : ((s : ℕ) → Start m s → best t d 34 0 s ≤ x) → NearestTally t d m (14 - 3 * m - x) (less w j 1)
  unfolding u
  nearest_of top = record {
    ready = ready;
    away = let e : swaps_of t (less w j 1) + 3 * m + x ≡ 14 = away in omega arith;
    fewest = λ z r. let n = ready_needs t d z m ht r in omega (arith, n.swapped, top n.start n.from);
  }
