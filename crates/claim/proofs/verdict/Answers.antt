-- Where it is a reading, by what it pays.
use Rattle.std.proofs.Common.{◌≡◌, ◌≤◌, ℕ, Bool, true, false, List, length, refl, rules, ap, sym, ◌∙◌}
use Rattle.hand.specs.declared.Hand.{Hand}
use Rattle.hand.specs.Hand.{concealed_tally}
use Rattle.reading.specs.declared.Reading.{Reading}
use Rattle.yaku.specs.Yaku.{has_yaku}
use Rattle.points_value.specs.declared.Value.{Value}
use Rattle.score_best.specs.declared.HandCommon.{HandCommon}
use Rattle.score_best.specs.declared.Best.{Best}
use Rattle.score_best.specs.search.HandCommon.{worth_in}
use Rattle.score_best.specs.search.Best.{none_of, keep_better_by, keep_better, search_for}
use Rattle.score_best.proofs.laws.Keep.{none_going}
use Rattle.score.specs.Readings.{all_kinds}
use Rattle.score.specs.Named.{worth}
use Rattle.score.specs.search.HandCommon.{hand_common_of}
use Rattle.score.proofs.laws.FullReading.{worth_in_lem, kept_in}
use Rattle.claim.specs.search.Verdict.{IsFormed, reads, weighed_as, verdict_of}
use Rattle.claim.proofs.laws.Reads.{decides, formed_bounds}
use Rattle.claim.proofs.verdict.Goals as goal

-- the first reading that is judged is kept where it has a yaku
weighed_first : (worth : Reading → Value) (r : Reading) (gain most : ℕ) (y : Bool) → has_yaku (worth r).yaku ≡ y
    → weighed_as (keep_better worth (none_of 0) r).valued (keep_better worth (none_of 0) r).value.gain.0 gain most
    ≡ weighed_as (has_yaku (worth r).yaku) (worth r).gain.0 gain most
unfolding keep_better_by keep_better none_of weighed_as
weighed_first worth r gain most true e = rw e
weighed_first worth r gain most false e = rw e

module _ (h : Hand) (dealer wind : ℕ) (r : Reading) (gain : ℕ) (f : IsFormed h.held.m r)
    (c : List ℕ) (x : Bool) (ec : c ≡ concealed_tally h) (ex : x ≡ reads c h.held.m h.fields.winning r) where
  reading_is : reads (concealed_tally h) h.held.m h.fields.winning r ≡ x
  reading_is = sym (ex ∙ ap (λ (l : List ℕ). reads l h.held.m h.fields.winning r) ec)

  none : x ≡ false → 1 ≡ verdict_of h dealer wind r gain
  unfolding verdict_of
  none e = rw (reading_is ∙ e)

  weighs : x ≡ true → h.held.m ≤ 4 → length h.held.melds ≡ 4
      → (t : HandCommon) (n v b : Best) (w : ℕ) → t ≡ hand_common_of h dealer wind → n ≡ none_of 0 → v ≡ keep_better (worth_in t) n r
      → b ≡ search_for (worth_in t) 0 c h.held.m h.fields.winning
      → w ≡ weighed_as v.valued v.value.gain.0 gain b.value.gain.0 → w ≡ verdict_of h dealer wind r gain
  unfolding verdict_of
  weighs x-is few long t n v b w et en ev eb ew =
      let read : reads (concealed_tally h) h.held.m h.fields.winning r ≡ true = reading_is ∙ x-is in
      let i = (decides (concealed_tally h) h.held.m h.fields.winning (all_kinds h) r f).0 read in
      let worth-is : worth_in t r ≡ worth h dealer wind r = ap (λ (z : HandCommon). worth_in z r) et ∙ worth_in_lem h few long dealer wind r i in
      ew
      ∙ ap (λ (z : Best). weighed_as z.valued z.value.gain.0 gain b.value.gain.0) (ev ∙ ap (λ (z : Best). keep_better (worth_in t) z r) en)
      ∙ weighed_first (worth_in t) r gain b.value.gain.0 (has_yaku (worth_in t r).yaku) refl
      ∙ rw (read, worth-is, kept_in h few long dealer wind t c b et ec eb)

-- ---- the calls

pub is_reading-requires : goal.is_reading-requires
is_reading-requires c =
    let b = formed_bounds c.args.h.held.m c.args.r c.requires.4 in
    (c.requires.0, b.0, b.1)

pub returns-then-not-is_reading : goal.returns-then-not-is_reading
returns-then-not-is_reading c =
    let a = c.args in
    none a.h a.dealer a.wind a.r a.gain.0 c.requires.4 c.concealed_tally-c.result c.is_reading.result c.concealed_tally-c.ensures c.is_reading.ensures
    c.if-not-is_reading.true

pub keep_better-v-requires : goal.keep_better-v-requires
keep_better-v-requires c =
    (c.hand_common_of-t.ensures.1, (formed_bounds c.args.h.held.m c.args.r c.requires.4).0, none_going 0 c.none.result c.none.ensures)

pub returns : goal.returns
returns c =
    let a = c.args in
    let long : length a.h.held.melds ≡ 4 = search rules in
    weighs a.h a.dealer a.wind a.r a.gain.0 c.requires.4 c.concealed_tally-c.result c.is_reading.result c.concealed_tally-c.ensures c.is_reading.ensures
    c.if-not-is_reading.false c.requires.0 long c.hand_common_of-t.result c.none.result c.keep_better-v.result c.search_for-b.result c.weighed.result
    c.hand_common_of-t.ensures.0 c.none.ensures c.keep_better-v.ensures c.search_for-b.ensures c.weighed.ensures
