-- The theorems of every reading: all of them are shown, in order; the one that Score reports is marked, with Score's figures, and none pays more.
use Rattle.std.specs.Prelude.{true, false, List, ◌≡◌, ℕ, ◌+◌, ◌≤◌, ◌<◌, length, get_or}
use Rattle.tiles.specs.Below.{sum_below}
use Rattle.hand_record.specs.Record.{hand_of, read_of, IsSound}
use Rattle.reading.specs.declared.Reading.{Reading}
use Rattle.yaku.specs.Yaku.{is_yakuman}
use Rattle.points_value.specs.Han.{han}
use Rattle.score.specs.Readings.{AreReadingsOf}
use Rattle.score.specs.Score.{score_of}
use Rattle.score_readings.specs.Shown.{nth_in, reading_in, HasFigures}
use Rattle.score_readings.specs.Count.{count_of}
use Rattle.score_readings.specs.NthOf.{nth_of}
use Rattle.score_readings.proofs.laws.Claims as laws

module _ (s : List ℕ) (dealer wind : ℕ) where
  module _ (d : dealer ≤ 3) (w : wind ≤ 1) (i : IsSound s) where
    -- there are as many as any list has that has all readings in "document 01's order"
    pub counts_all : (rs : List Reading) → AreReadingsOf (hand_of (read_of s)) rs → (count_of s dealer wind).count ≡ length rs
    counts_all = laws.counts_all s dealer wind d w i

    -- and the n-th that is shown is the n-th of that list
    pub shows_nth : (rs : List Reading) → AreReadingsOf (hand_of (read_of s)) rs → (n : ℕ) → 1 ≤ n → n ≤ length rs
        → ((nth_of s dealer wind n).refusal ≡ 0) × (reading_in (nth_of s dealer wind n) ≡ nth_in rs n)
    shows_nth = laws.shows_nth s dealer wind d w i

    -- Score may try fewer ("a search in that order ends at the first yakuman reading", 02, S-4): then the last that it tried has a yakuman
    pub ends_at_yakuman : (score_of s dealer wind).refusal ≡ 0 → (score_of s dealer wind).tried < (count_of s dealer wind).count
        → is_yakuman (nth_of s dealer wind (score_of s dealer wind).tried).yaku ≡ true
    ends_at_yakuman = laws.ends_at_yakuman s dealer wind d w i

    -- where Score accepts, one reading is marked, and its figures are Score's
    pub marks_one : (score_of s dealer wind).refusal ≡ 0
        → (n : ℕ) × ((nth_of s dealer wind n).reported ≡ true) × HasFigures (nth_of s dealer wind n) (score_of s dealer wind)
        × ((k : ℕ) → (nth_of s dealer wind k).reported ≡ true → k ≡ n)
    marks_one = laws.marks_one s dealer wind d w i

  -- where it refuses, none is
  pub marks_none : ((score_of s dealer wind).refusal ≡ 0 → ⊥) → (n : ℕ) → (nth_of s dealer wind n).reported ≡ false
  marks_none = laws.marks_none s dealer wind

  -- none that is shown gives the winner more than the one that is marked
  pub none_above : (n k : ℕ) → (nth_of s dealer wind n).reported ≡ true → (nth_of s dealer wind k).gain.0 ≤ (nth_of s dealer wind n).gain.0
  none_above = laws.none_above s dealer wind

  -- "h = yaku han plus dora": without a yakuman the han listed and the dora add up to h
  pub han_add_up : (n : ℕ) → is_yakuman (nth_of s dealer wind n).yaku ≡ false
      → sum_below 37 (λ i. (get_or (nth_of s dealer wind n).han i (han 0)).0) + (nth_of s dealer wind n).dora.0 ≡ (nth_of s dealer wind n).h.0
  han_add_up = laws.han_add_up s dealer wind
