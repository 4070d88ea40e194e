-- The lowest tile is in a triplet where there are three of it, else in a run.
use Rattle.std.proofs.Common.{◌≡◌, ℕ, length, sym, ◌∙◌, arith, rules}
use Rattle.reading_splits.specs.search.SplitsInto.{lowest}
use Rattle.reading_splits.proofs.laws.SplitsInto.{splits_into_none, splits_into_over, without_from, lowest_past, lowest_none, lowest_is}
use Rattle.reading_splits.proofs.laws.Groups.{fits_three, groups_three, groups_run, groups_none}
use Rattle.reading_splits.proofs.+is_groups.Goals as goal
use Rattle.reading_splits.proofs.+is_groups.Goals.{In-Some}

-- the kind that is found is the lowest
found : (t : ℕ) (c : In-Some t) → c.in-Some.k ≡ lowest 34 0 c.args.t
found t c = let n = c.in-Some.ensures in lowest_is c.args.t c.args.from c.in-Some.k n.0 n.1 n.2 n.3 c.requires.1

pub returns-then-pieces-eq0 : goal.returns-then-pieces-eq0
returns-then-pieces-eq0 t c = c.is_empty.ensures ∙ splits_into_none _ _ _ c.if-pieces-eq0.true

pub returns-in_default : goal.returns-in_default
returns-in_default t c =
    let e : 34 ≡ lowest 34 0 c.args.t =
    lowest_none c.args.t 34 (omega arith) ∙ lowest_past c.args.t c.args.from 34 c.requires.0 (omega arith) c.in_default.ensures ∙ c.requires.1 in
    splits_into_over _ _ c.args.t c.if-pieces-eq0.false (omega arith)

pub without-requires : goal.without-requires
without-requires t c = fits_three _ _ c.in-Some.ensures.1 c.if-three.true

pub is_groups-requires : goal.is_groups-requires
is_groups-requires t c =
    let n = c.in-Some.ensures in
    (omega arith, (omega (arith, n.1), without_from c.args.t _ _ (found t c.before.before) (omega (arith, n.1)) _ c.without.ensures (fits_three _ _ n.1 c.if-three.true)))

pub returns-then-three : goal.returns-then-three
returns-then-three t c =
    let n = c.in-Some.ensures in
    let long : length c.args.t ≡ 34 = search rules in
    groups_three c.args.pieces c.args.t c.in-Some.k c.if-pieces-eq0.false long (found t c.before.before.before) n.1 _ c.if-three.true (rw (← c.without.ensures) c.is_groups.ensures)

pub is_groups-requires-then-fits : goal.is_groups-requires-then-fits
is_groups-requires-then-fits t c =
    let n = c.in-Some.ensures in
    (omega arith, (omega (arith, n.1), without_from c.args.t _ _ (found t c.before.before.before.before) (omega (arith, n.1)) _ c.without-then-fits.ensures (sym c.fits.ensures ∙ c.if-fits.true)))

pub returns-then-fits : goal.returns-then-fits
returns-then-fits t c =
    let n = c.in-Some.ensures in
    let long : length c.args.t ≡ 34 = search rules in
    groups_run c.args.pieces c.args.t c.in-Some.k c.if-pieces-eq0.false long (found t c.before.before.before.before.before) n.1 _ c.if-three.false (sym c.fits.ensures ∙ c.if-fits.true)
    (rw (← c.without-then-fits.ensures) c.is_groups-then-fits.ensures)

pub returns : goal.returns
returns t c =
    let n = c.in-Some.ensures in
    let long : length c.args.t ≡ 34 = search rules in
    groups_none c.args.pieces c.args.t c.in-Some.k c.if-pieces-eq0.false long (found t c.before.before.before) n.1 c.if-three.false (sym c.fits.ensures ∙ c.if-fits.false)
