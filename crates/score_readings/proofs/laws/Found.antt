-- What the searches find for a sound hand and for a record, case by case.
use Rattle.std.specs.Prelude.{Bool, true, false, ◌&&◌, ◌||◌, ◌≡◌, refl, ℕ, zero, suc, ◌-◌, ◌≤◌, ◌<◌, ltb, get_or}
use Rattle.std.proofs.lemmas.Bool.{false≢true}
use mathlib.Core.List.{List, [], ◌∷◌, Memᴰ as Member}
use Rattle.std.proofs.Common.{sym, ◌∙◌, subst, arith}
use Rattle.std.proofs.Math.Path.{ap}
use borrow.Author.Tests.{lt-ltb, le-ltb, ltb-true, ltb-false, eq-eqb, ne_eqb}
use Rattle.std.proofs.Math.ListN.{length}
use Rattle.tiles.specs.Kinds.{dora_of}
use Rattle.hand.specs.declared.Fields.{Fields}
use Rattle.hand.specs.declared.Hand.{Hand}
use Rattle.hand.specs.Held.{is_closed}
use Rattle.hand.specs.Hand.{is_ron, concealed_tally, hand_tally}
use Rattle.hand_record.specs.Record.{Answer, Sound, Refused, HandRead}
use Rattle.hand_record.specs.Record.{refusal_in, hand_of, read_of}
use Rattle.hand_record.proofs.laws.Bounds.{answer_is, hand_is}
use Rattle.reading.specs.declared.Reading.{Reading}
use Rattle.reading.specs.Reading.{of_shape}
use Rattle.reading.specs.search.Readings.{readings}
use Rattle.reading.proofs.laws.Only.{readings_all}
use Rattle.yaku.specs.Yaku.{value_han_of}
use Rattle.score_best.specs.declared.HandCommon.{HandCommon}
use Rattle.score_best.specs.declared.Best.{Best}
use Rattle.score_best.specs.search.Best.{search_for}
use Rattle.score_best.proofs.laws.Nth.{over, reached}
use Rattle.score.specs.Readings.{all_kinds, readings_of}
use Rattle.score.proofs.laws.Readings.{are_readings, only_readings}
use Rattle.score.specs.Named.{won_of, seats_of, full_reading_of, worth, IsReadingOf}
use Rattle.score.specs.search.HandCommon.{hand_common_of}
use Rattle.score.specs.search.HandScore.{kept_of}
use Rattle.score.proofs.laws.Found.{worth_le}
use Rattle.score.proofs.laws.FullReading.{full_reading_in_lem}
use Rattle.score_readings.specs.declared.NthReading.{NthReading}
use Rattle.score_readings.specs.Shown.{nth_in, shown_with, shown_as}
use Rattle.score_readings.specs.IsNth.{refused_with}
use Rattle.score_readings.specs.Count.{count_by, count_of}
use Rattle.score_readings.specs.search.Found.{same_reading, shown_by, is_kept, hand_nth_of, found_by, found_of}

-- what stands at a place below a list's length is a member of it
pub member_at : (d : Reading) (rs : List Reading) (i : ℕ) → i < length rs → Member (get_or rs i d) rs
member_at d [] i h = absurd (omega arith)
member_at d (r ∷ rs) zero h = Member.head refl
member_at d (r ∷ rs) (suc i) h = Member.tail (member_at d rs i (omega arith))

-- ---- a sound hand

module _ (h : Hand) (dealer wind : ℕ) where
  -- all readings, as they are found
  all_are : readings (concealed_tally h) h.held.m h.fields.winning ≡ readings_of h
  all_are = only_readings h _ (readings_all (concealed_tally h) h.held.m h.fields.winning (all_kinds h))

  -- the n-th is a reading
  pub nth_reads : (n : ℕ) → 1 ≤ n → n ≤ length (readings_of h) → IsReadingOf h (nth_in (readings_of h) n)
  nth_reads n a l = (are_readings h).readings _ (member_at (of_shape 0) (readings_of h) (n - 1) (omega arith))

  -- what is found where the n-th is wanted
  module _ (n : ℕ) (some : 0 < n) (b : Best) (e : b ≡ search_for (worth h dealer wind) n (concealed_tally h) h.held.m h.fields.winning) where
    -- r is found with its worth, of so many
    abbrev pub Finds : Reading → ℕ → Type 0
    Finds r k = (b.valued ≡ true) × (b.value ≡ worth h dealer wind r) × (b.reading ≡ r) × (b.tried ≡ k)

    pub finds : n ≤ length (readings_of h) → Finds (nth_in (readings_of h) n) (length (readings_of h))
    finds =
        subst (λ (rs : List Reading). n ≤ length rs → Finds (nth_in rs n) (length rs)) all_are
        (λ l. rw e (reached (worth h dealer wind) n some (concealed_tally h) h.held.m h.fields.winning (of_shape 0) l))

    finds_none : length (readings_of h) < n → (b.valued ≡ false) × (b.tried ≡ length (readings_of h))
    finds_none =
        subst (λ (rs : List Reading). length rs < n → (b.valued ≡ false) × (b.tried ≡ length rs)) all_are
        (λ l. rw e (over (worth h dealer wind) n some (concealed_tally h) h.held.m h.fields.winning l))

    pub found_in : b.valued ≡ true → n ≤ length (readings_of h)
    found_in v = go (ltb (length (readings_of h)) n) refl
      where
        go : (c : Bool) → ltb (length (readings_of h)) n ≡ c → n ≤ length (readings_of h)
        go true q = absurd (false≢true (sym (finds_none (ltb-true _ _ q)).0 ∙ v))
        go false q = ltb-false _ _ q

    found_out : b.valued ≡ false → length (readings_of h) < n
    found_out v = go (ltb (length (readings_of h)) n) refl
      where
        go : (c : Bool) → ltb (length (readings_of h)) n ≡ c → length (readings_of h) < n
        go true q = ltb-true _ _ q
        go false q = absurd (false≢true (sym v ∙ (finds (ltb-false _ _ q)).0))

    pub counts_all : b.tried ≡ length (readings_of h)
    counts_all = go (ltb (length (readings_of h)) n) refl
      where
        go : (c : Bool) → ltb (length (readings_of h)) n ≡ c → b.tried ≡ length (readings_of h)
        go true q = (finds_none (ltb-true _ _ q)).1
        go false q = (finds (ltb-false _ _ q)).3

    pub found_le : b.valued ≡ true → b.value.basic.0 ≤ 8000
    found_le v = rw (finds (found_in v)).1 (worth_le h dealer wind _)

    -- there is none
    pub nth_none : b.valued ≡ false → refused_with 8 ≡ hand_nth_of h dealer wind n
    unfolding hand_nth_of
    nth_none v = rw (lt-ltb _ _ (found_out v), ne_eqb n 0 (λ z. omega arith))

    -- it is shown
    module _ (few : h.held.m ≤ 4) (four : length h.held.melds ≡ 4) (t : HandCommon) (et : t ≡ hand_common_of h dealer wind) where
      shown_is : (r : Reading) → IsReadingOf h r → (k : ℕ) → Finds r k → (x : Bool)
          → shown_by t b x
          ≡ shown_with k r (worth h dealer wind r) (value_han_of (won_of h dealer wind) (full_reading_of h r)) (get_or (hand_tally h) (dora_of h.fields.indicator) 0)
          (is_closed h.held) (seats_of h dealer) (is_ron h.fields) x
      unfolding hand_common_of won_of
      shown_is r i k (v, ev, er, ek) x = rw (et, ev, er, ek, full_reading_in_lem h few four dealer wind r i)

      pub nth_shown : b.valued ≡ true → (x : Best) → x ≡ kept_of h dealer wind → (y : Bool) → y ≡ same_reading x.reading b.reading → (a : NthReading)
          → a ≡ shown_by t b (x.valued && y) → a ≡ hand_nth_of h dealer wind n
      unfolding hand_nth_of is_kept
      nth_shown v x ex y ey a ea =
          let l = found_in v in
          let f = finds l in
          let r = nth_in (readings_of h) n in
          let mark : x.valued && y ≡ (kept_of h dealer wind).valued && same_reading (kept_of h dealer wind).reading r =
          rw (ey, ex, f.2) in
          rw (le-ltb _ _ l, ne_eqb n 0 (λ z. omega arith))
          (ea ∙ shown_is r (nth_reads n some l) (length (readings_of h)) f (x.valued && y) ∙ ap (shown_as h dealer wind r) mark)

  pub nth_zero : (n : ℕ) → n ≡ 0 → refused_with 8 ≡ hand_nth_of h dealer wind n
  unfolding hand_nth_of
  nth_zero n e = rw (eq-eqb n 0 e)

-- ---- a record

pub found_eight : (s : List ℕ) (dealer wind n : ℕ) → ltb 3 dealer || ltb 1 wind ≡ true → refused_with 8 ≡ found_of s dealer wind n
unfolding found_of
found_eight s dealer wind n e = rw e

pub count_eight : (s : List ℕ) (dealer wind : ℕ) → ltb 3 dealer || ltb 1 wind ≡ true → record { count = 0; refusal = 8 } ≡ count_of s dealer wind
unfolding count_of
count_eight s dealer wind e = rw e

module _ (s : List ℕ) (dealer wind : ℕ) (r : HandRead) (q : ltb 3 dealer || ltb 1 wind ≡ false) (e : r ≡ read_of s) where
  module _ (n : ℕ) where
    by_answer : (a : Answer) → r.answer ≡ a → found_by a (hand_of (read_of s)) dealer wind n ≡ found_of s dealer wind n
    unfolding found_of
    by_answer a told = rw q (ap (λ (x : Answer). found_by x (hand_of (read_of s)) dealer wind n) (sym (answer_is s r e told)))

    pub found_refused : (k w : ℕ) (x : NthReading) → r.answer ≡ Refused k → w ≡ refusal_in r.answer → x ≡ refused_with w → x ≡ found_of s dealer wind n
    unfolding found_by
    found_refused k w x told why ex = ex ∙ ap refused_with (why ∙ ap refusal_in told) ∙ by_answer (Refused k) told

    pub found_sound : (f : Fields) (x : NthReading) → r.answer ≡ Sound f → x ≡ hand_nth_of (record { fields = f; held = r.held }) dealer wind n
        → x ≡ found_of s dealer wind n
    unfolding found_by
    found_sound f x told ex = ex ∙ ap (λ (y : Hand). hand_nth_of y dealer wind n) (hand_is s r e f told) ∙ by_answer (Sound f) told

  count_answer : (a : Answer) → r.answer ≡ a → count_by a s ≡ count_of s dealer wind
  unfolding count_of
  count_answer a told = rw q (ap (λ (x : Answer). count_by x s) (sym (answer_is s r e told)))

  pub count_refused : (k w : ℕ) → r.answer ≡ Refused k → w ≡ refusal_in r.answer → record { count = 0; refusal = w } ≡ count_of s dealer wind
  unfolding count_by
  count_refused k w told why =
      ap (λ (x : ℕ). record { count = 0; refusal = x }) (why ∙ ap refusal_in told) ∙ count_answer (Refused k) told

  pub count_sound : (f : Fields) (k : ℕ) → r.answer ≡ Sound f → k ≡ length (readings_of (record { fields = f; held = r.held }))
      → record { count = k; refusal = 0 } ≡ count_of s dealer wind
  unfolding count_by
  count_sound f k told ek =
      ap (λ (x : ℕ). record { count = x; refusal = 0 }) (ek ∙ ap (λ (y : Hand). length (readings_of y)) (hand_is s r e f told))
      ∙ count_answer (Sound f) told
