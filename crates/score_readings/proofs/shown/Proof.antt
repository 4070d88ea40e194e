-- `score_readings::shown` meets its contract: figure by figure.
use borrow.Author.Rules.{rules}
use Prim.Native.Nat.{ℕ}
use mathlib.Core.Bool.{Bool, cond}
use mathlib.Core.List.{List}
use mathlib.Core.Path.{◌≡◌, ap, ◌∙◌}
use lib.ListN.{get_or}
use Rattle.units.specs.declared.Han.{Han}
use Rattle.yaku.specs.declared.GroupTests.{GroupTests}
use Rattle.yaku.specs.Yaku.{value_han_of, is_yakuman}
use Rattle.yaku.specs.search.Common.{group_tests_of}
use Rattle.points_value.specs.declared.Common.{Common}
use Rattle.points_value.specs.Han.{han, han_each}
use Rattle.score_best.specs.declared.HandCommon.{HandCommon}
use Rattle.score_best.specs.declared.Best.{Best}
use Rattle.score_best.specs.search.HandCommon.{full_reading_in, IsCommonIn}
use Rattle.score_readings.specs.declared.Paid.{Paid}
use Rattle.score_readings.specs.declared.NthReading.{NthReading}
use Rattle.score_readings.specs.Shown.{paid_of}
use Rattle.score_readings.specs.search.Found.{shown_by}
use Rattle.score_readings.proofs.shown.Statement.{statement}
use Rattle.score_readings.proofs.shown.Tie as tie

module _ (t : HandCommon) (b : Best) where
  -- what yaku 3 counts
  values_are : (k : Common) → IsCommonIn t b.reading.shape b.reading.pair b.reading.groups k
      → k.tests.values.0 ≡ value_han_of t.won (full_reading_in t b.reading)
  unfolding group_tests_of full_reading_in
  values_are k i = ap (λ (g : GroupTests). g.values.0) i.tests

  -- what the calls gave, put together
  abbrev given : List Han → Han → Paid → Bool → NthReading
  given each dora p x = record {
    count = b.tried;
    basic = p.basic;
    gain = p.gain;
    changes = p.changes;
    h = b.value.han;
    dora = dora;
    han = each;
    refusal = 0;
    shape = b.reading.shape;
    pair = b.reading.pair;
    groups = b.reading.groups;
    place = b.reading.place;
    reported = x;
    fu = b.value.fu;
    items = b.value.items;
    yaku = b.value.yaku;
  }

  put_together : (x : Bool) (each : List Han) (values : ℕ) (yakuman : Bool) (dora : Han) (p : Paid)
      → values ≡ value_han_of t.won (full_reading_in t b.reading) → each ≡ han_each b.value.yaku t.won.closed values
      → yakuman ≡ is_yakuman b.value.yaku → dora ≡ han (cond yakuman 0 (get_or t.won.tally t.dora 0)) → p ≡ paid_of b.value t.seats t.won.ron
      → given each dora p x ≡ shown_by t b x
  put_together x each values yakuman dora p ev ee ey ed ep =
      let e : each ≡ han_each b.value.yaku t.won.closed (value_han_of t.won (full_reading_in t b.reading)) =
      ee ∙ ap (han_each b.value.yaku t.won.closed) ev in
      let d : dora ≡ han (cond (is_yakuman b.value.yaku) 0 (get_or t.won.tally t.dora 0)) =
      ed ∙ ap (λ (y : Bool). han (cond y 0 (get_or t.won.tally t.dora 0))) ey in
      ap (λ (l : List Han). given l dora p x) e
      ∙ ap (λ (z : Han). given (han_each b.value.yaku t.won.closed (value_han_of t.won (full_reading_in t b.reading))) z p x) d
      ∙ ap (λ (z : Paid). given (han_each b.value.yaku t.won.closed (value_han_of t.won (full_reading_in t b.reading)))
      (han (cond (is_yakuman b.value.yaku) 0 (get_or t.won.tally t.dora 0))) z x) ep

-- the start, from where the items are copied, and from after han_each
abbrev from_items : tie.After-items-1 → tie.Start
from_items c = let s = c.before.before in let v = s.before.before in v.before.before

abbrev start : tie.After-han_each-han → tie.Start
start c = let common = c.before.before in from_items common.before

pub shown_spec : {M : Type 1} → statement M
shown_spec =
    tie.close
    (tie.spec
    (λ c κs. (from_items c).requires.0)
    (λ c κs. search rules)
    (λ c κs. search rules)
    (λ c κs. (start c.before).requires.0.dora)
    (λ c κs. (start c.before.before).requires.1)
    (λ c.
    let changes = c.before.before in
    let basic = changes.before.before in
    let p = basic.before in
    let dora = p.before in
    let yakuman = dora.before in
    let each = yakuman.before in
    let common = each.before.before in
    let a = (start each).args in
    put_together a.t a.b a.reported each.han_each-han.result common.common_of-k.result.tests.values.0 yakuman.is_yakuman.result
    dora.dora_in-dora.result p.paid_of-p.result (values_are a.t a.b common.common_of-k.result common.common_of-k.ensures) each.han_each-han.ensures
    yakuman.is_yakuman.ensures dora.dora_in-dora.ensures p.paid_of-p.ensures))
