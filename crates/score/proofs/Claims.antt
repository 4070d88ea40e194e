-- The theorems of Score (01, Readings and Score; 02, S-3 and S-4), over every reading of a hand; `Score` has the theorem that there is exactly one score.
use Rattle.std.specs.Prelude.{ℕ, ◌≤◌, ◌<◌, ◌≡◌, true, false, List, ◌⊎◌, ◌↔◌, pos, length, get_or}
use Rattle.hand.specs.declared.Hand.{Hand}
use Rattle.hand_record.specs.Record.{hand_of, read_of, IsSound}
use Rattle.reading.specs.declared.Reading.{Reading}
use Rattle.reading.specs.Order.{Before}
use Rattle.yaku.specs.Yaku.{yakuman}
use Rattle.points.specs.Points.{sum_of_four}
use Rattle.points_fu.specs.Fu.{fu, group_fu, added}
use Rattle.score_best.specs.Best.{with_yakuman, up_to}
use Rattle.score.specs.declared.Scored.{Scored}
use Rattle.score.specs.Readings.{AreReadingsOf}
use Rattle.score.specs.Named.{won_of, groups_of, ways_of, full_reading_of, worth, IsReadingOf, ReadsWithYaku, IsReported, gain_in, refused_with, scored_as, Named}
use Rattle.score.specs.Score.{score_of}
use Rattle.score.proofs.laws.One.{is_score}
use Rattle.score.proofs.laws.Named as laws
use Rattle.score.proofs.laws.Items as items
use Rattle.score.proofs.laws.HandScore as hand_score
use Rattle.score.proofs.laws.Tried as tries
use Rattle.score.proofs.laws.Changes as changes

-- ---- of a sound hand

module _ (h : Hand) (dealer wind : ℕ) where
  -- the papers name an answer
  pub named : (a : Scored) × Named h dealer wind a
  named = laws.named h dealer wind

  -- and only one
  pub only_one : {x y : Scored} → Named h dealer wind x → Named h dealer wind y → x ≡ y
  only_one = laws.only_one h dealer wind

  -- no reading with a yaku gives the winner more than the reported one
  pub most : (r q : Reading) → IsReported h dealer wind r → ReadsWithYaku h dealer wind q → gain_in h dealer wind q ≤ gain_in h dealer wind r
  most = laws.most h dealer wind

  -- "each of the four groups (the reading's in its order, then the melds in the record's)" (02, S-3): the item of a regular reading's i-th group
  pub group_item : (r : Reading) → r.shape ≡ 0 → yakuman (won_of h dealer wind) (full_reading_of h r) ≡ false →
      (i : ℕ) → i < 4 → get_or (worth h dealer wind r).items.group i (fu 0) ≡ fu (group_fu (get_or (groups_of h r) i 0) (get_or (ways_of h r) i 0))
  group_item = items.group_item h dealer wind

  -- of the answer a that is named
  module _ {a : Scored} (n : Named h dealer wind a) where
    -- accepted exactly when a reading has a yaku
    pub accepted : (a.refusal ≡ 0) ↔ ((r : Reading) × ReadsWithYaku h dealer wind r)
    accepted = laws.accepted h dealer wind n

    -- an accepted hand scores as its reported reading, item by item in its fu (02, S-3)
    pub best : a.refusal ≡ 0 → (r : Reading) × IsReported h dealer wind r × (a ≡ scored_as h dealer wind r)
    best = laws.best h dealer wind n

    -- "6, no reading"
    pub refused_6 : (a.refusal ≡ 6) ↔ ((q : Reading) → IsReadingOf h q → ⊥)
    refused_6 = laws.refused_6 h dealer wind n

    -- "7, readings but none with a yaku"
    pub refused_7 : (a.refusal ≡ 7) ↔ (((q : Reading) × IsReadingOf h q) × ((r : Reading) → ReadsWithYaku h dealer wind r → ⊥))
    refused_7 = laws.refused_7 h dealer wind n

-- ---- of a record

module _ (s : List ℕ) (dealer wind : ℕ) where
  -- the score of a sound record is what the papers name for its hand
  pub scored : dealer ≤ 3 → wind ≤ 1 → IsSound s → Named (hand_of (read_of s)) dealer wind (score_of s dealer wind)
  scored = hand_score.scored s dealer wind

  -- "The items add up to the fu reported" (02, S-3)
  pub items_total : added (score_of s dealer wind).items ≡ (score_of s dealer wind).fu.0
  items_total = items.total (is_score s dealer wind)

  -- "how many readings it tried, those with no yaku and each place in equal groups counted: up to that one, it included, or all where there is none"
  -- (02, S-4): of any list that has all readings in order, those up to "the first yakuman reading"
  pub tried : dealer ≤ 3 → wind ≤ 1 → IsSound s → (score_of s dealer wind).refusal ≡ 0 →
      let h = hand_of (read_of s) in
      (rs : List Reading) → AreReadingsOf h rs → (score_of s dealer wind).tried ≡ length (up_to (with_yakuman (worth h dealer wind)) rs)
  tried = tries.tried s dealer wind

  -- "a refused call returns its number with all else zero" (01): the ten items and how many readings were tried too
  pub refused_zero : ((score_of s dealer wind).refusal ≡ 0 → ⊥) → score_of s dealer wind ≡ refused_with (score_of s dealer wind).refusal
  refused_zero = tries.refused_zero s dealer wind

  -- "A yakuman can't be beaten, and among readings with one the first in document 01's order is reported" (02, S-4)
  pub first_yakuman : dealer ≤ 3 → IsSound s →
      let h = hand_of (read_of s) in
      (r : Reading) → IsReadingOf h r → with_yakuman (worth h dealer wind) r ≡ true
      → ((q : Reading) → IsReadingOf h q → with_yakuman (worth h dealer wind) q ≡ true → (r ≡ q) ⊎ Before r q)
      → IsReported h dealer wind r
  first_yakuman = tries.first_yakuman s dealer wind

  -- "four changes summing to 0"
  pub zero_sum : sum_of_four (score_of s dealer wind).changes ≡ pos 0
  zero_sum = changes.zero_sum s dealer wind
