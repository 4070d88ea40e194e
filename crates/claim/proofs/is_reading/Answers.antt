-- By the shape.
use Rattle.std.proofs.Common.{◌≡◌, ◌-◌, ℕ, Bool, ◌&&◌, List, eqb, ne_eqb}
use Rattle.reading.specs.declared.Reading.{Reading}
use Rattle.reading.specs.Reading.{is_seven_pairs, is_orphans}
use Rattle.claim.specs.search.Verdict.{regularly, reads}
use Rattle.claim.proofs.is_reading.Goals as goal

module _ (t : List ℕ) (m win : ℕ) (r : Reading) where
  shape_0 : r.shape ≡ 0 → (x : Bool) → x ≡ regularly t (4 - m) win r.pair r.groups r.place → x ≡ reads t m win r
  unfolding reads
  shape_0 e x ex = rw (e, ex)

  shape_1 : r.shape ≡ 1 → (x : Bool) → x ≡ is_seven_pairs t → eqb m 0 && x ≡ reads t m win r
  unfolding reads
  shape_1 e x ex = rw (e, ex)

  shape_2 : (r.shape ≡ 0 → ⊥) → (r.shape ≡ 1 → ⊥) → (x : Bool) → x ≡ is_orphans t → eqb m 0 && x ≡ reads t m win r
  unfolding reads
  shape_2 e f x ex = rw (ne_eqb r.shape 0 e, ne_eqb r.shape 1 f, ex)

pub returns-then-r-eq0 : goal.returns-then-r-eq0
returns-then-r-eq0 c =
    let a = c.args in
    shape_0 a.t a.m a.win a.r c.if-r-eq0.true c.is_regular.result c.is_regular.ensures

pub returns-then-r-eq1 : goal.returns-then-r-eq1
returns-then-r-eq1 c =
    let a = c.args in
    shape_1 a.t a.m a.win a.r c.if-r-eq1.true c.is_seven_pairs.result c.is_seven_pairs.ensures

pub returns : goal.returns
returns c =
    let a = c.args in
    shape_2 a.t a.m a.win a.r c.if-r-eq0.false c.if-r-eq1.false c.is_orphans.result c.is_orphans.ensures
