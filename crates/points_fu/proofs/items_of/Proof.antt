-- `points_fu::items_of` meets its contract.
use mathlib.Core.Path.{◌≡◌}
use Prim.Native.Nat.{ℕ, ◌-◌, ◌≤◌}
use native.Mathlib.Omega.{arith}
use borrow.Author.Rules.{rules}
use borrow.Author.Tests.{eq-eqb, ne_eqb}
use Rattle.yaku.specs.Yaku.{yakuman}
use Rattle.yaku.proofs.laws.Common.{yakuman_placed}
use Rattle.points_fu.specs.Fu.{fu, items_of, added}
use Rattle.points_fu.specs.search.Items.{earned}
use Rattle.points_fu.specs.declared.Items.{Items}
use Rattle.points_fu.proofs.laws.Items.{added_alone, regular_rounded}
use Rattle.points_fu.proofs.items_of.Statement.{statement}
use Rattle.points_fu.proofs.items_of.Tie as tie

-- the items that were rounded up to r, at most 170
within : (i : Items) (n r : ℕ) → n ≡ added i → n ≤ r → r ≤ 170 → added (record {
  base = i.base;
  ron = i.ron;
  pair = i.pair;
  group = i.group;
  wait = i.wait;
  tsumo = i.tsumo;
  rounding = fu (r - n);
}) ≤ 170
unfolding added
within i n r e h l = omega arith

-- a yakuman is listed where the place says so
listed : (c : tie.Start) → c.args.q.yakuman ≡ yakuman c.args.w c.args.p
listed c = yakuman_placed c.args.w c.args.p c.args.q c.requires.1.0

returns_3 : tie.Need-returns
unfolding items_of earned
returns_3 c =
    let at-rounded = c.before.before in
    let at_Added = at-rounded.before in
    let at-earned = at_Added.before in
    let else2 = at-earned.before in
    let start = else2.before.before in (
      rw (
        regular_rounded start.args.w start.args.p,
        ← listed start,
        else2.before.if-q.false,
        ne_eqb _ _ else2.if-shape-eq1.false,
        at-rounded.rounded-r.ensures.0,
        at_Added.added-n.ensures,
        at-earned.earned-i.ensures.0,
      ),
      within _ _ _ at_Added.added-n.ensures at-rounded.rounded-r.ensures.1.0 at-rounded.rounded-r.ensures.1.1,
    )

pub items_of_spec : {M : Type 1} → statement M
unfolding items_of
items_of_spec =
    tie.close
    (tie.spec
    (λ c κs. search rules)
    (λ c. (rw (← listed c.before.before, c.before.if-q.true) c.base_alone.ensures, rw c.base_alone.ensures (omega (arith, added_alone 0))))
    (λ c κs. search rules)
    (λ c.
    let else1 = c.before.before in (
      rw (← listed else1.before, else1.if-q.false, eq-eqb _ _ c.before.if-shape-eq1.true) c.base_alone-then-shape-eq1.ensures,
      rw c.base_alone-then-shape-eq1.ensures (omega (arith, added_alone 25)),
    ))
    (λ c κs. search rules) (λ c κs. search rules) (λ c κs. search rules) (λ c. search rules)
    returns_3)
