-- What is written, what is read of it, and what is refused.
use Rattle.std.specs.Prelude.{ℕ, ◌≤◌, ◌<◌, ◌≡◌, refl, Bool, true, false, List, ◌++◌, length, take, drop}
use Rattle.std.proofs.Common.{arith, sym, ap, subst}
use mathlib.Core.Logic.{◌↔◌}
use Rattle.std.proofs.Math.Seq.{take-append_seam}
use Rattle.bits.specs.Bits.{EachBelow}
use Rattle.hand.specs.declared.Hand.{Hand}
use Rattle.hand.specs.Hand.{is_ron, concealed_tally}
use Rattle.hand_record.specs.declared.Written.{Written}
use Rattle.hand_record.specs.Record.{refusal_in, hand_of, read_of, IsSound}
use Rattle.hand_record.proofs.Claims.{sound}
use Rattle.hand_record.proofs.laws.Bounds.{read_bounds, refused_number}
use Rattle.reading.specs.declared.Reading.{Reading}
use Rattle.reading.specs.Reading.{IsReading, regular, pairs, orphans}
use Rattle.points.specs.declared.Seats.{Seats}
use Rattle.points_value.specs.declared.Value.{Value}
use Rattle.yaku.specs.Yaku.{has_yaku}
use Rattle.score.specs.Named.{IsReadingOf, seats_of, worth}
use Rattle.score.specs.Readings.{readings_of}
use Rattle.score_readings.specs.declared.NthReading.{NthReading}
use Rattle.score_readings.specs.Shown.{nth_in, paid_of, shown_as}
use Rattle.score_readings.specs.IsNth.{IsNth, no_such, shown}
use Rattle.score_readings.specs.NthOf.{nth_of}
use Rattle.score_readings.proofs.laws.One.{is_nth}
use Rattle.score_readings.proofs.laws.Found.{nth_reads}
use Rattle.claim.specs.declared.Judged.{Judged}
use Rattle.claim.specs.Claim.{Names}
use Rattle.claim.specs.Verdict.{IsVerdict}
use Rattle.claim.specs.IsJudged.{judged_as, IsNamed, IsJudged, eight, unreadable, faulty, passed}
use Rattle.claim.specs.Judge.{judged_of, HasVerdict}
use Rattle.claim.proofs.laws.One.{is_judged, one_answer}
use Rattle.claim.specs.search.Verdict.{IsFormed, formed, without_groups}
use Rattle.claim.proofs.laws.Exact.{one_claim}
use Rattle.claim.proofs.laws.Judged.{gain_fits}
use Rattle.claim_writer.specs.declared.Claim.{Claim}
use Rattle.claim_writer.specs.Writes.{reading_of, claim_of, IsClaimOf, Writes, unnamed, short, written, refused_with}
use Rattle.claim_writer.specs.Write.{written_of, buffer_of}
use Rattle.claim_writer.proofs.ExactlyOne.{is_written}
use Rattle.claim_writer.proofs.ExactlyOne as Write
use Rattle.claim_writer.specs.search.Bytes.{bytes_for}
use Rattle.claim_writer.proofs.laws.Named.{formed_passes, made}

module _ (c : Claim) (buf : List ℕ) where
  abbrev bytes : List ℕ
  bytes = take (written_of c buf).len (buffer_of c buf)

  -- ---- what is written

  of_written : {w : Written} {out : List ℕ} → Writes c buf w out → w.refusal ≡ 0 → IsClaimOf c (take w.len out)
  of_written (unnamed n) e = absurd (omega arith)
  of_written (short s i h) e = absurd (omega arith)
  of_written (written s i h) e = subst (λ (l : List ℕ). IsClaimOf c l) (sym (take-append_seam s (drop (length s) buf))) i

  pub write_names : (written_of c buf).refusal ≡ 0 → IsClaimOf c bytes
  write_names e = of_written (is_written c buf) e

  pub only_bytes : (s : List ℕ) → IsClaimOf c s → length s ≤ length buf
      → (written_of c buf ≡ record { refusal = 0; len = length s }) × (buffer_of c buf ≡ s ++ drop (length s) buf)
  only_bytes s i h =
      let e = Write.one_answer c buf (record { refusal = 0; len = length s }) (s ++ drop (length s) buf) (written s i h) in
      (sym e.0, sym e.1)

  -- ---- what is refused

  of_22 : {w : Written} {out : List ℕ} → Writes c buf w out → w.refusal ≡ 22 → (s : List ℕ) → IsClaimOf c s → ⊥
  of_22 (unnamed n) e = n
  of_22 (short s i h) e = absurd (omega arith)
  of_22 (written s i h) e = absurd (omega arith)

  pub twenty_two_exactly : ((written_of c buf).refusal ≡ 22) ↔ ((s : List ℕ) → IsClaimOf c s → ⊥)
  twenty_two_exactly = (
    of_22 (is_written c buf),
    λ n. ap (λ (w : Written). w.refusal) (sym (Write.one_answer c buf (refused_with 22) buf (unnamed n)).0),
  )

  of_13 : {w : Written} {out : List ℕ} → Writes c buf w out → w.refusal ≡ 13 → (s : List ℕ) × IsClaimOf c s × (length buf < length s)
  of_13 (unnamed n) e = absurd (omega arith)
  of_13 (short s i h) e = (s, i, h)
  of_13 (written s i h) e = absurd (omega arith)

  pub thirteen_exactly : ((written_of c buf).refusal ≡ 13) ↔ ((s : List ℕ) × IsClaimOf c s × (length buf < length s))
  thirteen_exactly = (
    of_13 (is_written c buf),
    λ (s, i, h). ap (λ (w : Written). w.refusal) (sym (Write.one_answer c buf (refused_with 13) buf (short s i h)).0),
  )

-- ---- what Judge reads

module _ (s claim : List ℕ) (dealer wind : ℕ) where
  abbrev hand : Hand
  hand = hand_of (read_of s)

  -- a claim that is not refused is named with its verdict
  passed_of : {a : Judged} → IsJudged s claim dealer wind a → a.refusal ≡ 0
      → (r : Reading) × (g : ℕ) × IsNamed s claim dealer wind r g × IsVerdict hand dealer wind r g a.verdict
  passed_of (eight o) e = absurd (omega arith)
  passed_of (unreadable d w n q) e = absurd (omega (arith, refused_number s n q))
  passed_of (faulty d w y n) e = absurd (omega arith)
  passed_of (passed {r} {g} x v) e = (r, g, x, v)

  judged_named : (r : Reading) (g : ℕ) → IsNamed s claim dealer wind r g → (v : ℕ) → HasVerdict s claim dealer wind v ↔ IsVerdict hand dealer wind r g v
  judged_named r g x v = (
    λ e.
        let (q, k, y, i) = passed_of (subst (λ (a : Judged). IsJudged s claim dealer wind a) e (is_judged s claim dealer wind)) refl in
        let o = one_claim s claim dealer wind x.sound y.names x.names in
        subst (λ (z : Reading). IsVerdict hand dealer wind z g v) o.0 (subst (λ (z : ℕ). IsVerdict hand dealer wind q z v) o.1 i),
    λ i. sym (one_answer s claim dealer wind (judged_as v) (passed x i)),
  )

  pub judge_write : EachBelow 256 claim → (judged_of s claim dealer wind).refusal ≡ 0
      → (c : Claim) × (c.m ≡ hand.held.m) × IsClaimOf c claim
      × ((buf : List ℕ) → length claim ≤ length buf → buffer_of c buf ≡ claim ++ drop (length claim) buf)
  judge_write b e =
      let (r, g, x, v) = passed_of (is_judged s claim dealer wind) e in
      let c : Claim = record {
        gain = record { 0 = g };
        shape = r.shape;
        pair = r.pair;
        groups = r.groups;
        place = r.place;
        m = hand.held.m;
      } in
      let i : IsClaimOf c claim = record { few = (read_bounds s ((sound s).0 x.sound)).few; bytes = b; names = x.names } in
      (c, refl, i, λ buf h. (only_bytes c buf claim i h).1)

pub write_judge : (c : Claim) (buf : List ℕ) → (written_of c buf).refusal ≡ 0 → (s : List ℕ) (dealer wind : ℕ) → dealer ≤ 3 → wind ≤ 1 → IsSound s
    → c.m ≡ (hand_of (read_of s)).held.m → (v : ℕ)
    → HasVerdict s (take (written_of c buf).len (buffer_of c buf)) dealer wind v ↔ IsVerdict (hand_of (read_of s)) dealer wind (reading_of c) c.gain.0 v
write_judge c buf e s dealer wind d w y q v =
    let claim : List ℕ = take (written_of c buf).len (buffer_of c buf) in
    let n : Names (hand_of (read_of s)).held.m claim (reading_of c) c.gain.0 =
    subst (λ (k : ℕ). Names k claim (reading_of c) c.gain.0) q (write_names c buf e).names in
    judged_named s claim dealer wind (reading_of c) c.gain.0 (record { seat = d; round = w; sound = y; names = n }) v

-- ---- each reading, and what is shown of it

formed_by : (t : List ℕ) (m win : ℕ) (r : Reading) → IsReading t m win r → IsFormed m r
formed_by t m win r (regular i) =
    subst (λ (k : ℕ). IsFormed m (record { shape = k; pair = r.pair; groups = r.groups; place = r.place })) (sym i.shape)
    (subst (λ (l : List ℕ). IsFormed m (record { shape = 0; pair = r.pair; groups = l; place = r.place })) (sym i.groups)
    (formed r.pair r.place i.codes i.size i.order i.pair i.place))
formed_by t m win r (pairs i) = subst (IsFormed m) (sym i.reading) (without_groups 1 (mathlib.Core.Logic.inl refl))
formed_by t m win r (orphans i) = subst (IsFormed m) (sym i.reading) (without_groups 2 (mathlib.Core.Logic.inr refl))

pub each_reading : (s : List ℕ) → IsSound s → (c : Claim) → c.m ≡ (hand_of (read_of s)).held.m → IsReadingOf (hand_of (read_of s)) (reading_of c)
    → c.gain.0 < 131072 → (claim : List ℕ) × IsClaimOf c claim
each_reading s y c e i l =
    let h = hand_of (read_of s) in
    let few : c.m ≤ 4 = omega (arith, (read_bounds s ((sound s).0 y)).few, e) in
    let f = formed_by (concealed_tally h) h.held.m h.fields.winning (reading_of c) i in
    (bytes_for c, made c (formed_passes c few l (subst (λ (k : ℕ). IsFormed k (reading_of c)) (sym e) f)))

-- what is shown that it pays is its gain or nothing
paid_below : (v : Value) (s : Seats) (ron : Bool) → v.gain.0 < 131072 → (paid_of v s ron).gain.0 < 131072
unfolding paid_of
paid_below v s ron l = go (has_yaku v.yaku) refl
  where
    go : (b : Bool) → has_yaku v.yaku ≡ b → (paid_of v s ron).gain.0 < 131072
    go true e = rw e l
    go false e = rw e (omega arith)

module _ (s : List ℕ) (dealer wind n : ℕ) where
  of_shown : {a : NthReading} → IsNth s dealer wind n a → a.refusal ≡ 0 → (claim : List ℕ) × IsClaimOf (claim_of (hand_of (read_of s)).held.m a) claim
  of_shown (IsNth.eight o) e = absurd (omega arith)
  of_shown (IsNth.unreadable d w k q) e = absurd (omega (arith, refused_number s k q))
  of_shown (no_such d w f q o) e = absurd (omega arith)
  of_shown (shown d w f q lo hi b i) e =
      let h = hand_of (read_of s) in
      let r = nth_in (readings_of h) n in
      let y : IsSound s = (sound s).1 (ap refusal_in q) in
      let g = gain_fits h dealer wind r (read_bounds s ((sound s).0 y)).winner in
      each_reading s y (claim_of h.held.m (shown_as h dealer wind r b)) refl (nth_reads h dealer wind n lo hi)
      (paid_below (worth h dealer wind r) (seats_of h dealer) (is_ron h.fields) g)

  pub shown_reading : (nth_of s dealer wind n).refusal ≡ 0 → (claim : List ℕ) × IsClaimOf (claim_of (hand_of (read_of s)).held.m (nth_of s dealer wind n)) claim
  shown_reading = of_shown (is_nth s dealer wind n)
