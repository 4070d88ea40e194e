-- `score_best::worth_at` meets its contract: the parts of the reading are valued.
use Prim.Native.Nat.{◌≤◌}
use mathlib.Core.Path.{◌≡◌, refl}
use Rattle.reading.specs.declared.Reading.{Reading}
use Rattle.yaku_basics.specs.search.Ways.{ways_at}
use Rattle.yaku.specs.declared.FullReading.{FullReading}
use Rattle.yaku.specs.Yaku.{is_yakuman, yaku_of, has_yaku}
use Rattle.points_value.specs.declared.Common.{Common}
use Rattle.points_value.specs.declared.Worth.{Worth}
use Rattle.points_value.specs.Value.{value_of}
use Rattle.points_value.specs.search.Common.{IsCommon}
use Rattle.score_best.specs.declared.HandCommon.{HandCommon}
use Rattle.score_best.specs.search.HandCommon.{full_reading_in, worth_in, IsCommonIn}
use Rattle.score_best.proofs.worth_at.Statement.{statement}
use Rattle.score_best.proofs.worth_at.Tie as tie

-- the parts have the reading's pair, groups and place
kept : (t : HandCommon) (r : Reading) (k : Common) (p : FullReading) → p ≡ full_reading_in t r → IsCommonIn t r.shape r.pair r.groups k → r.place ≤ 4
    → IsCommon t.won t.dora p.shape p.pair p.groups t.ways k × ((p.ways ≡ ways_at t.ways t.won.ron p.place) × (p.place ≤ 4))
unfolding full_reading_in
kept t r k p e i h = rw e (i, (refl, h))

worthy : (t : HandCommon) (r : Reading) (p : FullReading) (v : Worth) → p ≡ full_reading_in t r → v.value ≡ value_of t.won p t.dora t.seats
    → (v.yakuman ≡ is_yakuman (yaku_of t.won p)) × (v.any ≡ has_yaku (yaku_of t.won p))
    → (v.value ≡ worth_in t r) × ((v.yakuman ≡ is_yakuman (worth_in t r).yaku) × (v.any ≡ has_yaku (worth_in t r).yaku))
unfolding worth_in value_of
worthy t r p v ep ev (em, ea) = rw (← ep) (ev, (em, ea))

-- the start, from where the parts are copied
abbrev start : tie.After-mw-1 → tie.Start
start c = let seats = c.before in seats.before.before

pub worth_at_spec : {M : Type 1} → statement M
worth_at_spec =
    tie.close
    (tie.spec (λ c κs. let s = start c in (s.requires.0.groups, s.requires.1))
    (λ c κs.
    let s = start c.before in
    kept s.args.t s.args.r s.args.k c.full_reading.result c.full_reading.ensures s.requires.0 s.requires.1)
    (λ c.
    let s = start c.before.before in
    worthy s.args.t s.args.r c.before.full_reading.result c.value_of.result
    c.before.full_reading.ensures c.value_of.ensures.0 c.value_of.ensures.1))
