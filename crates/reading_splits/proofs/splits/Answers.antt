-- Of the kinds gone over that can be the pair none leaves groups, and no other kind can be the pair.
use Rattle.std.proofs.Common.{◌≡◌, true, false, ◌≤◌, ◌<◌, length, get_or, refl, sym, ◌∙◌, ⊎_elim, eq-or-lt_of_le, arith, rules}
use Rattle.reading.specs.search.Readings.{less}
use Rattle.reading.specs.search.Pairs.{OnlyPairs}
use Rattle.reading_splits.specs.search.SplitsInto.{splits_into}
use Rattle.reading_splits.proofs.laws.SplitsInto.{splits_test}
use Rattle.reading_splits.proofs.laws.Groups.{pair_found, pair_none}
use Rattle.reading_splits.proofs.splits.Goals as goal
use Rattle.reading_splits.proofs.splits.Goals.{Joined-else-held, else-held-via-then-held+else-is_groups, else-held-via-else-held}

pub loop-k-init : goal.loop-k-init
loop-k-init c =
    let z : c.into_iter-k-iterator.result.last < 34 = rw c.into_iter-k-iterator.ensures.into_iter_gives c.pairs_in-k-items.ensures.0 in
    (refl, z, omega arith, refl, λ j a l two. absurd (omega (arith, a.0)))

pub loop-k-smaller : goal.loop-k-smaller
loop-k-smaller c = let s = c.in-Some.ensures.steps in omega (arith, s, c.loop-k.iterator)

-- the kind of this turn leaves no groups
none_here : (c : Joined-else-held) → 2 ≤ get_or c.args.t c.in-Some.k 0 → splits_into c.args.n false (less c.args.t c.in-Some.k 2) ≡ false
none_here c two =
    elim c.else-held.branch [
      | else-held-via-then-held+else-is_groups w ↦ rw (← w.without_pair.ensures) (sym w.is_groups.ensures ∙ w.if-is_groups.false)
      | else-held-via-else-held w ↦ absurd (omega (arith, w.if-held.false))
    ]

pub loop-k-preserved : goal.loop-k-preserved
loop-k-preserved c =
    let s = c.in-Some.ensures.steps in
    let v = c.loop-k.invariant in (
      s.3 ∙ v.0,
      v.1,
      omega (arith, s, v),
      omega (arith, s, v),
      λ j a l two.
          ⊎_elim (λ (e : j ≡ c.in-Some.k). rw e (none_here c (rw e at two))) (λ (h : j < c.in-Some.k). v.4 j a (omega (arith, s)) two)
          (eq-or-lt_of_le (omega (arith, s, v, a))),
    )

pub returns-then-is_groups : goal.returns-then-is_groups
returns-then-is_groups c =
    let long : length c.args.t ≡ 34 = search rules in
    let e : splits_into c.args.n false (less c.args.t c.in-Some.k 2) ≡ true = rw (← c.without_pair.ensures) (sym c.is_groups.ensures ∙ c.if-is_groups.true) in
    let z = splits_test c.args.n _ c.args.t true long refl (sym (pair_found _ c.in-Some.k _ long c.if-held.true e)) in
    record { variant = z.0; value = z.1 }

pub returns : goal.returns
returns c =
    let long : length c.args.t ≡ 34 = search rules in
    let only : OnlyPairs c.args.t c.into_iter-k-iterator.result.first c.into_iter-k-iterator.result.last =
    rw c.into_iter-k-iterator.ensures.into_iter_gives c.pairs_in-k-items.ensures.1 in
    let z = splits_test c.args.n _ c.args.t false long refl (sym (pair_none _ _ _ _ long only (λ k a g. c.loop-k.invariant.4 k a (omega (arith, a, c.loop-k.invariant.0, c.in-None.ensures.steps)) g))) in
    record { variant = z.0; value = z.1 }
