-- Where a ron is from another seat a yakuman is paid, so that none beats it and the first in the order is reported.
use Rattle.std.specs.Prelude.{ℕ, ◌+◌, ◌*◌, ◌≤◌, ◌<◌, ◌≡◌, refl, Bool, true, false, cond, List, ◌⊎◌, eqb}
use Rattle.std.proofs.Common.{arith}
use Rattle.std.proofs.Math.Logic.{inl, inr, ⊎_elim}
use Rattle.tiles.specs.Kinds.{dora_of}
use Rattle.hand.specs.declared.Hand.{Hand}
use Rattle.hand.specs.Hand.{is_ron}
use Rattle.hand.specs.Refusals.{wrong_discarder}
use Rattle.hand_record.specs.Record.{refusal_in, hand_of, read_of}
use Rattle.hand_record.proofs.laws.Bounds.{other_seat, read_bounds}
use Rattle.reading.specs.declared.Reading.{Reading}
use Rattle.reading.specs.Order.{Before}
use Rattle.points.specs.declared.Seats.{Seats}
use Rattle.points.specs.Points.{hundreds, gain}
use Rattle.points.proofs.Claims.{gain_by_ron, gain_by_tsumo}
use Rattle.score_best.specs.Best.{with_yakuman, Over}
use Rattle.score_best.proofs.laws.Top.{top, over_plain, yakuman_yaku}
use Rattle.score_best.proofs.laws.First.{MayEnd}
use Rattle.score.specs.Named.{won_of, seats_of, full_reading_of, worth, IsReadingOf, ReadsWithYaku, IsReported}

-- ---- 8,000 basic points are paid: by the discarder, or by the three others

by_ron : (b : Bool) → 0 < hundreds (cond b 6 4 * 8000)
unfolding hundreds
by_ron true = omega arith
by_ron false = omega arith

by_tsumo : (b : Bool) → 0 < cond b (3 * hundreds (2 * 8000)) (2 * hundreds 8000 + hundreds (2 * 8000))
unfolding hundreds
by_tsumo true = omega arith
by_tsumo false = omega arith

paid_by : (s : Seats) (ron : Bool) → s.winner ≤ 3 → s.dealer ≤ 3 → s.discarder ≤ 3 → (ron ≡ true → s.winner ≡ s.discarder → ⊥) → 0 < gain s ron 8000
paid_by s true w d x n = rw (gain_by_ron s 8000 (omega arith) (n refl)) (by_ron (eqb s.winner s.dealer))
paid_by s false w d x n = rw (gain_by_tsumo s 8000 (omega arith) (omega arith)) (by_tsumo (eqb s.winner s.dealer))

-- ---- of a hand

module _ (h : Hand) (dealer : ℕ) where
  -- a yakuman is paid
  abbrev pub Paid : Type 0
  Paid = 0 < gain (seats_of h dealer) (is_ron h.fields) 8000

  pub paid_of_lem : h.fields.winner ≤ 3 → dealer ≤ 3 → h.fields.discarder ≤ 3 → wrong_discarder h.fields ≡ false → Paid
  paid_of_lem w d x o = paid_by (seats_of h dealer) (is_ron h.fields) w d x (other_seat h.fields o)

module _ (h : Hand) (dealer wind : ℕ) (paid : Paid h dealer) where
  -- "A yakuman can't be beaten": the search may end at one
  pub may_end : MayEnd (worth h dealer wind) (with_yakuman (worth h dealer wind))
  unfolding worth won_of
  may_end = record {
    yaku = yakuman_yaku (worth h dealer wind);
    top = λ x q e. top (won_of h dealer wind) (dora_of h.fields.indicator) (seats_of h dealer) paid (full_reading_of h) x q e;
  }

  -- "among readings with one the first in document 01's order is reported"
  pub first_yakuman : (r : Reading) → IsReadingOf h r → with_yakuman (worth h dealer wind) r ≡ true
      → ((q : Reading) → IsReadingOf h q → with_yakuman (worth h dealer wind) q ≡ true → (r ≡ q) ⊎ Before r q) → IsReported h dealer wind r
  unfolding worth won_of
  first_yakuman r i e f = record {
    yaku = (i, yakuman_yaku (worth h dealer wind) r e);
    first = λ q y. go q y (with_yakuman (worth h dealer wind) q) refl;
  }
    where
      over : (q : Reading) → (r ≡ q) ⊎ Before r q → Over (worth h dealer wind) r q
      over q o = ⊎_elim (λ l. inl l) (λ s. inr (s, o)) (may_end.top r q e)

      go : (q : Reading) → ReadsWithYaku h dealer wind q → (c : Bool) → with_yakuman (worth h dealer wind) q ≡ c → Over (worth h dealer wind) r q
      go q y true z = over q (f q y.0 z)
      go q y false z = inl (over_plain (won_of h dealer wind) (dora_of h.fields.indicator) (seats_of h dealer) paid (full_reading_of h) r q e z)

-- ---- of a record that reads

pub read_paid : (s : List ℕ) (dealer : ℕ) → dealer ≤ 3 → refusal_in (read_of s).answer ≡ 0 → Paid (hand_of (read_of s)) dealer
read_paid s dealer d e = let b = read_bounds s e in paid_of_lem (hand_of (read_of s)) dealer b.winner d b.discarder b.other
