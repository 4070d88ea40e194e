-- The proofs of the claims.
use Rattle.std.specs.Prelude.{Bool, true, false, cond, List, ◌≡◌, ℕ, suc, ◌+◌, ◌-◌, ◌≤◌, ◌<◌, length, get_or}
use Rattle.std.proofs.lemmas.Bool.{false≢true}
use Rattle.std.proofs.Math.Path.{refl}
use Rattle.std.proofs.Common.{sym, ap, ◌∙◌, subst, arith}
use borrow.Author.Tests.{le-ltb}
use Rattle.tiles.specs.Kinds.{dora_of}
use Rattle.tiles.specs.Below.{sum_below}
use Rattle.hand.specs.declared.Fields.{Fields}
use Rattle.hand.specs.declared.Hand.{Hand}
use Rattle.hand.specs.Held.{is_closed}
use Rattle.hand.specs.Hand.{is_ron, hand_tally}
use Rattle.hand_record.specs.Record.{Answer, Sound, Refused}
use Rattle.hand_record.specs.Record.{refusal_in, hand_of, read_of, IsSound}
use Rattle.hand_record.proofs.Claims.{sound}
use Rattle.hand_record.proofs.laws.Bounds.{read_bounds, refused_number}
use Rattle.reading.specs.declared.Reading.{Reading}
use Rattle.reading.specs.Reading.{of_shape}
use Rattle.yaku.specs.Yaku.{value_han_of, is_yakuman, has_yaku}
use Rattle.points.specs.declared.Seats.{Seats}
use Rattle.points_value.specs.declared.Value.{Value}
use Rattle.points_value.specs.Han.{han, han_each, yaku_han, han_of}
use Rattle.points_value.specs.Value.{value_of}
use Rattle.score_best.specs.Best.{with_yaku, with_yakuman, up_to}
use Rattle.score.specs.declared.Scored.{Scored}
use Rattle.score.specs.Readings.{AreReadingsOf, readings_of}
use Rattle.score.proofs.laws.Readings.{are_readings, only_readings}
use Rattle.score.specs.Named.{won_of, seats_of, full_reading_of, worth, IsReadingOf, IsReported, scored_as}
use Rattle.score.specs.Score.{score_of}
use Rattle.score.proofs.Claims as score
use Rattle.score.proofs.laws.Paid.{read_paid}
use Rattle.score_readings.specs.declared.NthReading.{NthReading}
use Rattle.score_readings.specs.declared.ReadingCount.{ReadingCount}
use Rattle.score_readings.specs.Shown.{nth_in, paid_of, shown_as, reading_in, HasFigures}
use Rattle.score_readings.specs.IsNth.{IsNth, eight, unreadable, no_such, shown}
use Rattle.score_readings.specs.Count.{count_by, count_of}
use Rattle.score_readings.specs.NthOf.{nth_of}
use Rattle.score_readings.proofs.laws.One.{is_nth, one_nth}
use Rattle.score_readings.specs.search.Found.{is_kept, found_of}
use Rattle.score_readings.proofs.laws.Same.{kept_iff, one_reported}
use Rattle.score_readings.proofs.laws.Found.{nth_reads}
use Rattle.score_readings.proofs.laws.Exact.{shown_at, found_nth}
use Rattle.score_readings.proofs.laws.Listed.{place_of, one_place, last_marked}

-- ---- the figures of a reading

-- the han and the dora add up
module _ (h : Hand) (dealer wind : ℕ) (r : Reading) where
  reading_adds : is_yakuman (worth h dealer wind r).yaku ≡ false
      → sum_below 37 (λ i. (get_or (han_each (worth h dealer wind r).yaku (is_closed h.held) (value_han_of (won_of h dealer wind) (full_reading_of h r))) i (han 0)).0)
      + cond (is_yakuman (worth h dealer wind r).yaku) 0 (get_or (hand_tally h) (dora_of h.fields.indicator) 0)
      ≡ (worth h dealer wind r).han.0
  unfolding worth value_of han_of won_of han_each yaku_han sum_below
  reading_adds e = rw e refl

-- what one with a yaku pays is its gain, and what one without pays is nothing
paid_gain : (v : Value) (s : Seats) (ron : Bool) → has_yaku v.yaku ≡ true → (paid_of v s ron).gain.0 ≡ v.gain.0
unfolding paid_of
paid_gain v s ron e = rw e

unpaid : (v : Value) (s : Seats) (ron : Bool) → has_yaku v.yaku ≡ false → (paid_of v s ron).gain.0 ≡ 0
unfolding paid_of
unpaid v s ron e = rw e

-- a reading with a yaku has the figures of the score that it gives
figures : (h : Hand) (dealer wind : ℕ) (r : Reading) → with_yaku (worth h dealer wind) r ≡ true
    → HasFigures (shown_as h dealer wind r true) (scored_as h dealer wind r)
unfolding paid_of
figures h dealer wind r e = record { h = refl; fu = refl; items = refl; yaku = refl; changes = rw e }

-- ---- of a record

module _ (s : List ℕ) (dealer wind : ℕ) where
  abbrev h : Hand
  h = hand_of (read_of s)

  abbrev rs : List Reading
  rs = readings_of h

  -- a sound record reads as a hand
  fields_of_lem : IsSound s → (f : Fields) × ((read_of s).answer ≡ Sound f)
  fields_of_lem i = go (read_of s).answer refl
    where
      go : (a : Answer) → (read_of s).answer ≡ a → (f : Fields) × ((read_of s).answer ≡ Sound f)
      go (Refused n) e = let z : n ≡ 0 = ap refusal_in (sym e) ∙ (sound s).0 i in absurd (omega (arith, refused_number s n e))
      go (Sound f) e = (f, e)

  -- ---- all of them, in order

  module _ (d : dealer ≤ 3) (w : wind ≤ 1) (i : IsSound s) where
    counted : count_of s dealer wind ≡ record { count = length rs; refusal = 0 }
    unfolding count_of count_by
    counted = rw (le-ltb 3 dealer d, le-ltb 1 wind w) (ap (λ (x : Answer). count_by x s) (fields_of_lem i).1)

    nth_is : (n : ℕ) → 1 ≤ n → n ≤ length rs → nth_of s dealer wind n ≡ shown_as h dealer wind (nth_in rs n) (is_kept h dealer wind (nth_in rs n))
    nth_is n a l = let y = fields_of_lem i in sym (one_nth s dealer wind n _ (shown_at s dealer wind n d w y.0 y.1 a l))

    pub counts_all : (xs : List Reading) → AreReadingsOf h xs → (count_of s dealer wind).count ≡ length xs
    counts_all xs a = ap (λ (x : ReadingCount). x.count) counted ∙ ap length (sym (only_readings h xs a))

    pub shows_nth : (xs : List Reading) → AreReadingsOf h xs → (n : ℕ) → 1 ≤ n → n ≤ length xs
        → ((nth_of s dealer wind n).refusal ≡ 0) × (reading_in (nth_of s dealer wind n) ≡ nth_in xs n)
    shows_nth xs a n p l =
        let e = only_readings h xs a in
        let q = nth_is n p (subst (λ (ys : List Reading). n ≤ length ys) e l) in
        (ap (λ (x : NthReading). x.refusal) q, ap reading_in q ∙ ap (λ (ys : List Reading). nth_in ys n) (sym e))

    -- the mark of a reading that is reported
    marks : (n : ℕ) → 1 ≤ n → n ≤ length rs → IsReported h dealer wind (nth_in rs n) → nth_of s dealer wind n ≡ shown_as h dealer wind (nth_in rs n) true
    marks n a l j =
        let z = (sound s).0 i in
        let k = kept_iff h (read_bounds s z).few dealer wind (read_paid s dealer d z) (nth_in rs n) (nth_reads h dealer wind n a l) in
        nth_is n a l ∙ ap (shown_as h dealer wind (nth_in rs n)) (k.1 j)

    -- where the search ended before the last one, it ended at a yakuman
    pub ends_at_yakuman : (score_of s dealer wind).refusal ≡ 0 → (score_of s dealer wind).tried < (count_of s dealer wind).count
        → is_yakuman (nth_of s dealer wind (score_of s dealer wind).tried).yaku ≡ true
    ends_at_yakuman e l =
        let k = (score_of s dealer wind).tried in
        let t : k ≡ length (up_to (with_yakuman (worth h dealer wind)) rs) = score.tried s dealer wind d w i e rs (are_readings h) in
        let c : (count_of s dealer wind).count ≡ length rs = ap (λ (x : ReadingCount). x.count) counted in
        let m = last_marked (of_shape 0) (with_yakuman (worth h dealer wind)) rs (omega (arith, t, c, l)) in
        let q : with_yakuman (worth h dealer wind) (nth_in rs k) ≡ true =
        subst (λ (n : ℕ). with_yakuman (worth h dealer wind) (nth_in rs n) ≡ true) (sym t) m.1 in
        ap (λ (x : NthReading). is_yakuman x.yaku) (nth_is k (omega (arith, t, m.0)) (omega (arith, c, l))) ∙ q

    -- the number of the reported one
    reported_at : (r : Reading) → IsReported h dealer wind r → (n : ℕ) × (1 ≤ n) × (n ≤ length rs) × (nth_in rs n ≡ r)
    reported_at r j =
        let y = place_of (of_shape 0) ((are_readings h).every r j.yaku.0) in
        let z : suc y.0 - 1 ≡ y.0 = omega arith in
        (suc y.0, omega arith, y.1, ap (λ (n : ℕ). get_or rs n (of_shape 0)) z ∙ y.2)

    reported_shown : (r : Reading) → IsReported h dealer wind r → (n : ℕ) × (nth_of s dealer wind n ≡ shown_as h dealer wind r true)
    reported_shown r j =
        let y = reported_at r j in
        let n = y.0 in
        let e : nth_in rs n ≡ r = y.3 in
        let k : IsReported h dealer wind (nth_in rs n) = subst (λ (q : Reading). IsReported h dealer wind q) (sym e) j in
        (n, marks n y.1 y.2 k ∙ ap (λ (q : Reading). shown_as h dealer wind q true) e)

  -- ---- the mark

  -- what a mark says
  abbrev Marked : ℕ → Type 0
  Marked n = (dealer ≤ 3) × (wind ≤ 1) × IsSound s × (1 ≤ n) × (n ≤ length rs) × IsReported h dealer wind (nth_in rs n)

  marked : (n : ℕ) {a : NthReading} → IsNth s dealer wind n a → a.reported ≡ true → Marked n
  marked n (eight o) e = absurd (false≢true e)
  marked n (unreadable d w k q) e = absurd (false≢true e)
  marked n (no_such d w f q z) e = absurd (false≢true e)
  marked n (shown d w f q a l b i) e = (d, w, (sound s).1 (ap refusal_in q), a, l, i.0 e)

  -- it stands at one number
  one_mark : (n k : ℕ) → (nth_of s dealer wind n).reported ≡ true → (nth_of s dealer wind k).reported ≡ true → k ≡ n
  one_mark n k en ek =
      let x = marked n (is_nth s dealer wind n) en in
      let y = marked k (is_nth s dealer wind k) ek in
      let z = (sound s).0 x.2 in
      let e = one_reported h (read_bounds s z).few dealer wind (read_paid s dealer x.0 z) (nth_in rs k) (nth_in rs n) y.5 x.5 in
      let p = one_place (of_shape 0) rs (are_readings h).order (k - 1) (n - 1) (omega (arith, y.3, y.4)) (omega (arith, x.3, x.4)) e in
      omega (arith, p, x.3, y.3)

  pub marks_one : dealer ≤ 3 → wind ≤ 1 → IsSound s → (score_of s dealer wind).refusal ≡ 0
      → (n : ℕ) × ((nth_of s dealer wind n).reported ≡ true) × HasFigures (nth_of s dealer wind n) (score_of s dealer wind)
      × ((k : ℕ) → (nth_of s dealer wind k).reported ≡ true → k ≡ n)
  marks_one d w i e =
      let b = score.best h dealer wind (score.scored s dealer wind d w i) e in
      let r = b.0 in
      let y = reported_shown d w i r b.1 in
      let n = y.0 in
      let m : (nth_of s dealer wind n).reported ≡ true = ap (λ (x : NthReading). x.reported) y.1 in
      let f : HasFigures (nth_of s dealer wind n) (score_of s dealer wind) =
      subst (λ (x : NthReading). HasFigures x (score_of s dealer wind)) (sym y.1)
      (subst (λ (x : Scored). HasFigures (shown_as h dealer wind r true) x) (sym b.2) (figures h dealer wind r b.1.yaku.1)) in
      (n, m, f, λ k z. one_mark n k m z)

  pub marks_none : ((score_of s dealer wind).refusal ≡ 0 → ⊥) → (n : ℕ) → (nth_of s dealer wind n).reported ≡ false
  marks_none z n = go (nth_of s dealer wind n).reported refl
    where
      go : (c : Bool) → (nth_of s dealer wind n).reported ≡ c → c ≡ false
      go false e = refl
      go true e =
          let x = marked n (is_nth s dealer wind n) e in
          absurd (z ((score.accepted h dealer wind (score.scored s dealer wind x.0 x.1 x.2)).1 (nth_in rs n, x.5.yaku)))

  -- ---- none has a higher gain

  gain_of_lem : (n : ℕ) {a : NthReading} → IsNth s dealer wind n a → a.reported ≡ true → (q : Reading) → IsReadingOf h q
      → with_yaku (worth h dealer wind) q ≡ true → (worth h dealer wind q).gain.0 ≤ a.gain.0
  gain_of_lem n (eight o) e = absurd (false≢true e)
  gain_of_lem n (unreadable d w k x) e = absurd (false≢true e)
  gain_of_lem n (no_such d w f x z) e = absurd (false≢true e)
  gain_of_lem n (shown d w f x a l b i) e =
      let r = i.0 e in λ q j y.
      rw (paid_gain (worth h dealer wind (nth_in rs n)) (seats_of h dealer) (is_ron h.fields) r.yaku.1)
      (score.most h dealer wind (nth_in rs n) q r (j, y))

  below : (n k : ℕ) {a : NthReading} → IsNth s dealer wind k a → (nth_of s dealer wind n).reported ≡ true → a.gain.0 ≤ (nth_of s dealer wind n).gain.0
  below n k (eight o) e = omega arith
  below n k (unreadable d w j x) e = omega arith
  below n k (no_such d w f x z) e = omega arith
  below n k (shown d w f x a l b i) e = go (has_yaku (worth h dealer wind (nth_in rs k)).yaku) refl
    where
      go : (c : Bool) → has_yaku (worth h dealer wind (nth_in rs k)).yaku ≡ c
          → (paid_of (worth h dealer wind (nth_in rs k)) (seats_of h dealer) (is_ron h.fields)).gain.0 ≤ (nth_of s dealer wind n).gain.0
      go true q =
          rw (paid_gain (worth h dealer wind (nth_in rs k)) (seats_of h dealer) (is_ron h.fields) q)
          (gain_of_lem n (is_nth s dealer wind n) e (nth_in rs k) (nth_reads h dealer wind k a l) q)
      go false q = rw (unpaid (worth h dealer wind (nth_in rs k)) (seats_of h dealer) (is_ron h.fields) q) (omega arith)

  pub none_above : (n k : ℕ) → (nth_of s dealer wind n).reported ≡ true → (nth_of s dealer wind k).gain.0 ≤ (nth_of s dealer wind n).gain.0
  none_above n k e = below n k (is_nth s dealer wind k) e

  -- ---- the sum of the han

  adds : (n : ℕ) {a : NthReading} → IsNth s dealer wind n a → is_yakuman a.yaku ≡ false
      → sum_below 37 (λ i. (get_or a.han i (han 0)).0) + a.dora.0 ≡ a.h.0
  unfolding sum_below
  adds n (eight o) e = refl
  adds n (unreadable d w k q) e = refl
  adds n (no_such d w f q z) e = refl
  adds n (shown d w f q a l b i) e = reading_adds h dealer wind (nth_in rs n) e

  pub han_add_up : (n : ℕ) → is_yakuman (nth_of s dealer wind n).yaku ≡ false
      → sum_below 37 (λ i. (get_or (nth_of s dealer wind n).han i (han 0)).0) + (nth_of s dealer wind n).dora.0 ≡ (nth_of s dealer wind n).h.0
  han_add_up n = adds n (is_nth s dealer wind n)

-- ---- what the code finds is the answer

pub both : (s : List ℕ) (dealer wind n : ℕ) (x : NthReading) → x ≡ found_of s dealer wind n → IsNth s dealer wind n x × (x ≡ nth_of s dealer wind n)
both s dealer wind n x e = let i = found_nth s dealer wind n e in (i, one_nth s dealer wind n x i)
