-- The kinds that are left and then the shapes without groups give what is left; where the search is done, that is what they give.
use Rattle.std.proofs.Common.{◌≡◌, [], ◌∷◌, List, ℕ, ◌+◌, ◌-◌, ◌≤◌, ◌<◌, length, refl, sym, ◌∙◌, arith, rules}
use Rattle.reading.specs.declared.Reading.{Reading}
use Rattle.reading.specs.search.Pairs.{Among, OnlyPairs}
use Rattle.reading.specs.search.Readings.{paired}
use Rattle.reading.proofs.laws.Fold.{folded_still, ranged, ranged_turn, ranged_done, ranged_still, ranged_skip, paired_with, paired_none, paired_out, readings_with}
use Rattle.reading.proofs.laws.Found.{behind_three}
use Rattle.points_value.specs.declared.Value.{Value}
use Rattle.score_best.specs.declared.Best.{Best}
use Rattle.score_best.specs.search.Best.{keep_better, search_for}
use Rattle.score_best.proofs.laws.Keep.{none_going}
use Rattle.score_best.proofs.laws.Tried.{done_still}
use Rattle.score_search.proofs.search_for.Goals as goal

-- the kinds from i to j are none that can be the pair
skipped : (worth : Reading → Value) (t : List ℕ) (m win first last i j : ℕ) (b : Best) → length t ≡ 34 → OnlyPairs t first last → i ≤ j
    → ((k : ℕ) → i ≤ k → k < j → Among first last k → ⊥) → ranged (keep_better worth) (paired t m win) 34 j b ≡ ranged (keep_better worth) (paired t m win) 34 i b
skipped worth t m win first last i j b long only l out =
    ranged_skip (keep_better worth) _ 34 i j b l (λ k u v. paired_out (keep_better worth) _ _ _ k _ _ b long only (out k u v))

pub loop-k-init : goal.loop-k-init
loop-k-init c =
    let long : length c.args.t ≡ 34 = search rules in
    let p = c.into_iter-k-iterator in
    let z : p.result.last < 34 = rw p.ensures.into_iter_gives c.pairs_in-k-items.ensures.0 in
    let only : OnlyPairs c.args.t p.result.first p.result.last = rw p.ensures.into_iter_gives c.pairs_in-k-items.ensures.1 in (
      refl,
      z,
      omega arith,
      refl,
      none_going _ _ c.none-b.ensures,
      skipped _ _ _ _ _ _ 0 p.result.first _ long only (omega arith) (λ k u v a. omega (arith, a)),
    )

pub split-requires : goal.split-requires
split-requires c =
    let long : length c.without_pair-rest.result ≡ 34 = search rules in
    let m = c.args.m in
    let few = behind_three (4 - m) (68 ∷ 68 ∷ 68 ∷ 68 ∷ []) (4 - m) 0 c.without_pair-rest.result (omega arith) long in
    (omega arith, omega arith, rw c.none-found.ensures (omega (arith, few)))

pub returns-then-b : goal.returns-then-b
unfolding search_for
returns-then-b c =
    let long : length c.args.t ≡ 34 = search rules in
    let s = c.in-Some.ensures.steps in
    let still = done_still _ _ c.if-b.true in
    let found = c.all.ensures ∙ rw c.none-found.ensures at c.split.ensures in
    rw (← c.none-b.ensures)
    (readings_with (keep_better _) _ _ _ _ _ _
    (ranged_still (keep_better _) _ _ _ _ still
    ∙ ranged_turn (keep_better _) _ _ _ _ _ (omega (arith, s, c.loop-k.iterator))
    (paired_with (keep_better _) _ _ _ _ _ _ _ _ long c.requires.1 c.if-held.true c.without_pair-rest.ensures found c.each-b.ensures)
    ∙ rw (sym s.0) at c.loop-k.invariant.5)
    (folded_still (keep_better _) _ still _))

pub loop-k-preserved-else-b : goal.loop-k-preserved-else-b
loop-k-preserved-else-b c =
    let long : length c.args.t ≡ 34 = search rules in
    let p = c.into_iter-k-iterator in
    let only : OnlyPairs c.args.t p.result.first p.result.last = rw p.ensures.into_iter_gives c.pairs_in-k-items.ensures.1 in
    let s = c.in-Some.ensures.steps in
    let v = c.loop-k.invariant in
    let k = c.in-Some.k in
    let found = c.all.ensures ∙ rw c.none-found.ensures at c.split.ensures in (
      s.3 ∙ v.0,
      v.1,
      omega (arith, s, v),
      omega (arith, s, v),
      c.if-b.false,
      rw s.2
          (skipped _ _ _ _ _ _ (k + 1) (k + 3) _ long only (omega arith) (λ j u w a. omega (arith, s, v, a))
          ∙ ranged_turn (keep_better _) _ _ _ _ _ (omega (arith, s, c.loop-k.iterator))
          (paired_with (keep_better _) _ _ _ _ _ _ _ _ long c.requires.1 c.if-held.true c.without_pair-rest.ensures found c.each-b.ensures)
          ∙ rw (sym s.0) at v.5),
    )

pub loop-k-preserved : goal.loop-k-preserved
loop-k-preserved c =
    let long : length c.args.t ≡ 34 = search rules in
    let p = c.into_iter-k-iterator in
    let only : OnlyPairs c.args.t p.result.first p.result.last = rw p.ensures.into_iter_gives c.pairs_in-k-items.ensures.1 in
    let s = c.in-Some.ensures.steps in
    let v = c.loop-k.invariant in
    let k = c.in-Some.k in (
      s.3 ∙ v.0,
      v.1,
      omega (arith, s, v),
      omega (arith, s, v),
      v.4,
      rw s.2
          (skipped _ _ _ _ _ _ (k + 1) (k + 3) _ long only (omega arith) (λ j u w a. omega (arith, s, v, a))
          ∙ ranged_turn (keep_better _) _ _ _ _ _ (omega (arith, s, c.loop-k.iterator)) (paired_none (keep_better _) _ _ _ _ _ c.if-held.false)
          ∙ rw (sym s.0) at v.5),
    )

pub returns : goal.returns
unfolding search_for
returns c =
    let long : length c.args.t ≡ 34 = search rules in
    let p = c.into_iter-k-iterator in
    let only : OnlyPairs c.args.t p.result.first p.result.last = rw p.ensures.into_iter_gives c.pairs_in-k-items.ensures.1 in
    let v = c.loop-k.invariant in
    let i = c.loop-k.k-iterator.first in
    rw (← c.none-b.ensures)
    (readings_with (keep_better _) _ _ _ _ _ _
    (ranged_done (keep_better _) _ 34 (i + 34) _ (omega arith)
    ∙ skipped _ _ _ _ _ _ i (i + 34) _ long only (omega arith) (λ j u w a. omega (arith, c.in-None.ensures.steps, v, a))
    ∙ v.5) c.shapes.ensures)
