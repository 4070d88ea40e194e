-- Next entry gives exactly one thing at an offset: what the code finds is it, and there is no other.
use Rattle.std.specs.Prelude.{◌≡◌, refl, Bool, true, false, List, [], ◌∷◌, ◌++◌, ℕ, zero, suc, ◌+◌, ◌*◌, ◌-◌, ◌/◌, ◌%◌, ◌≤◌, ◌<◌, leb, eqb, get_or, take, drop}
use Rattle.std.proofs.Common.{sym, ap, ◌∙◌, subst, arith, add-one, take-append-drop}
use borrow.Author.Tests.{eqb-true, eqb-false, leb-true, leb-false, le-leb, lt-leb, ne_eqb}
use Rattle.std.proofs.Math.ListN.{length, length-drop}
use Rattle.hand_record.specs.Record.{count_in, length_of}
use Rattle.hand_record.specs.Lengths.{record_length}
use Rattle.hand_record.proofs.laws.Lengths.{record_length_lem}
use Rattle.position.specs.Booking.{Result}
use Rattle.position.specs.Booking as Booking
use Rattle.game.specs.Game as Game
use Rattle.log_entry.specs.Entry.{IsResult, IsEntry}
use Rattle.log_entry.specs.Entry as Entry
use Rattle.log_entry.specs.Next.{LogEntry, Starts, Next, end, entry, bad, IsNext, at_end, starts, none}
use Rattle.log_entry.specs.search.Lengths.{kind_in, span_of, records_length, length_by, entry_length}
use Rattle.log_entry.specs.search.Found.{entry_of, found_by, found_at}
use Rattle.log_entry.proofs.laws.Records.{records_their_length, record_before, span_before}
use Rattle.log_entry.proofs.laws.Lengths as lengths
use Rattle.log_entry.proofs.laws.Lengths.{Told}
use Rattle.log_entry.proofs.laws.Parts.{first_part, none_empty, length_inside, part_length}
use Rattle.log_entry.proofs.laws.Kinds.{entry_is}

-- ---- what the code finds is an entry

-- a part of a header and n bytes after it
part_of : (x y n : ℕ) (l : List ℕ) → entry_length (x ∷ l) ≡ n + 1 → x ≡ y → first_part (x ∷ l) ≡ y ∷ take n l
part_of x y n l e h = ap (λ (k : ℕ). take k (x ∷ l)) (e ∙ add-one n) ∙ ap (λ (k : ℕ). k ∷ take n l) h

as_result : (s part : List ℕ) (r : Result) → s ≡ part → IsResult part r → (r : Result) × IsResult s r
as_result s part r e i = (r, subst (λ (p : List ℕ). IsResult p r) (sym e) i)

as_entry : (s part : List ℕ) (e : Game.Entry) → s ≡ part → IsEntry part e → (e : Game.Entry) × IsEntry s e
as_entry s part e q i = (e, subst (λ (p : List ℕ). IsEntry p e) (sym q) i)

result_found : (s : List ℕ) → 1 ≤ kind_in s → kind_in s ≤ 4 → 0 < entry_length s → (r : Result) × IsResult (first_part s) r
result_found [] low high p = absurd (omega (arith, p, none_empty [] refl))
result_found (x ∷ l) low high p = go (lengths.told (x ∷ l) (omega arith))
  where
    single : entry_length (x ∷ l) ≡ 1 → (x / 16 ≡ 1 → ⊥) → x / 16 ≤ 3 → (b : Bool) → eqb (x / 16) 2 ≡ b → (r : Result) × IsResult (first_part (x ∷ l)) r
    single e k h true q =
        let k = eqb-true (x / 16) 2 q in
        as_result _ _ _ (part_of x (32 + x % 16) 0 l e (omega (arith, k))) (Entry.draw (x % 16) (omega arith))
    single e k h false q =
        let n = eqb-false (x / 16) 2 q in
        as_result _ _ _ (part_of x (48 + x % 16) 0 l e (omega (arith, k, h, n, low))) (Entry.chombo (x % 16) (omega arith))

    go : Told (x / 16) (x % 16) l (entry_length (x ∷ l)) → (r : Result) × IsResult (first_part (x ∷ l)) r
    go (lengths.bad e) = absurd (omega (arith, e, p))
    go (lengths.won k a u e) = as_result _ _ _ (part_of x 16 (length_of (count_in l)) l e (omega (arith, k, a))) (Entry.win _ (record_length_lem l u))
    go (lengths.multi_ron k q o u e) =
        as_result _ _ _ (part_of x (64 + x % 16) (span_of (x % 16) l) l e (omega (arith, k))) (Entry.multi_ron (x % 16) _ q o (records_their_length (x % 16) l u))
    go (lengths.pao k a u e) = absurd (omega (arith, k, high))
    go (lengths.plain k h e) = single e k h (eqb (x / 16) 2) refl
    go (lengths.corrected k a lo hi q e) = absurd (omega (arith, k, high))

-- a pao's byte
one_byte : (l : List ℕ) → 1 ≤ length l → take 1 l ≡ get_or l 0 0 ∷ []
one_byte [] h = absurd (omega arith)
one_byte (b ∷ l) h = refl

byte_is : (b : ℕ) → b % 8 ≤ 0 → b ≡ 64 * (b / 64) + 16 * (b / 16 % 4) + 8 * ((28 + b / 8 % 2) - 28)
byte_is b h = omega arith

any_found : (s : List ℕ) → 0 < entry_length s → (e : Game.Entry) × IsEntry (first_part s) e
any_found [] p = absurd (omega (arith, p, none_empty [] refl))
any_found (x ∷ l) p = go (lengths.told (x ∷ l) (omega arith))
  where
    of_result : (s : List ℕ) → (r : Result) × IsResult s r → (e : Game.Entry) × IsEntry s e
    of_result s (r, i) = (Game.booking (Booking.result r), Entry.result s r i)

    corrects : entry_length (x ∷ l) ≡ entry_length l + 1 → x ≡ 96 → (r : Result) × IsResult (first_part l) r → (e : Game.Entry) × IsEntry (first_part (x ∷ l)) e
    corrects e h (r, i) = as_entry _ _ _ (part_of x 96 (entry_length l) l e h) (Entry.correction (first_part l) r i)

    single : entry_length (x ∷ l) ≡ 1 → x / 16 ≤ 3 → (b : Bool) → eqb (x / 16) 0 ≡ b → (e : Game.Entry) × IsEntry (first_part (x ∷ l)) e
    single e h true q =
        let k = eqb-true (x / 16) 0 q in
        as_entry _ _ _ (part_of x x 0 l e refl) (Entry.riichi x (omega (arith, k)))
    single e h false q = let n = eqb-false (x / 16) 0 q in of_result _ (result_found (x ∷ l) (omega (arith, n)) (omega (arith, h)) p)

    go : Told (x / 16) (x % 16) l (entry_length (x ∷ l)) → (e : Game.Entry) × IsEntry (first_part (x ∷ l)) e
    go (lengths.bad e) = absurd (omega (arith, e, p))
    go (lengths.won k a u e) = of_result _ (result_found (x ∷ l) (omega (arith, k)) (omega (arith, k)) p)
    go (lengths.multi_ron k q o u e) = of_result _ (result_found (x ∷ l) (omega (arith, k)) (omega (arith, k)) p)
    go (lengths.pao k a u e) =
        let f = lengths.pao_form l u in
        let b = get_or l 0 0 in
        as_entry _ _ _
        (part_of x 80 1 l e (omega (arith, k, a)) ∙ ap (λ (t : List ℕ). 80 ∷ t) (one_byte l f.0) ∙ ap (λ (c : ℕ). 80 ∷ c ∷ []) (byte_is b f.1))
        (Entry.pao (b / 64) (b / 16 % 4) (28 + b / 8 % 2) (omega arith) (omega arith) (omega arith))
    go (lengths.plain k h e) = single e h (eqb (x / 16) 0) refl
    go (lengths.corrected k a lo hi q e) = corrects e (omega (arith, k, a)) (result_found l lo hi q)

pub part_entry : (s : List ℕ) → 0 < entry_length s → IsEntry (first_part s) (entry_of (first_part s))
part_entry s p = let f = any_found s p in subst (IsEntry (first_part s)) (sym (entry_is f.1)) f.1

-- ---- an entry is what the code finds, whatever follows it

-- by its header
module _ (header k a : ℕ) (s : List ℕ) (ek : header / 16 ≡ k) (ea : header % 16 ≡ a) where
  header_length : (k ≡ 6 → ⊥) → entry_length (header ∷ s) ≡ length_by k a s
  unfolding entry_length
  header_length h = rw (ek, ea, ne_eqb k 6 h)

  plain_length : (k ≡ 1 → ⊥) → k ≤ 3 → entry_length (header ∷ s) ≡ 1
  plain_length h l = header_length (λ e. omega (arith, e, l)) ∙ lengths.length_plain a s k h l

-- and the kind of a result is one of four
module _ (rest : List ℕ) where
  pub result_length : {s : List ℕ} {r : Result} → IsResult s r
      → (entry_length (s ++ rest) ≡ length s) × (0 < length s) × (1 ≤ kind_in (s ++ rest)) × (kind_in (s ++ rest) ≤ 4)
  result_length (Entry.win s w) =
      let b = record_before s rest w in
      let h = header_length 16 1 0 (s ++ rest) refl refl (λ e. omega (arith, e)) ∙ lengths.length_win 0 (s ++ rest) 1 refl
      ∙ lengths.win_record 0 (s ++ rest) refl ∙ lengths.with_header_some (record_length (s ++ rest)) (λ z. omega (arith, z, b.0, b.1)) in
      (omega (arith, h, b.0), omega arith, omega arith, omega arith)
  result_length (Entry.draw bits h) =
      let e = plain_length (32 + bits) 2 bits rest (omega (arith, h)) (omega (arith, h)) (λ e. omega (arith, e)) (omega arith) in
      (e, omega arith, omega (arith, h), omega (arith, h))
  result_length (Entry.chombo seat h) =
      let e = plain_length (48 + seat) 3 seat rest (omega (arith, h)) (omega (arith, h)) (λ e. omega (arith, e)) (omega arith) in
      (e, omega arith, omega (arith, h), omega (arith, h))
  result_length (Entry.multi_ron n s p h w) =
      let b = span_before n s rest p w in
      let e = header_length (64 + n) 4 n (s ++ rest) (omega (arith, h)) (omega (arith, h)) (λ e. omega (arith, e))
      ∙ lengths.length_multi_ron n (s ++ rest) 4 refl ∙ lengths.multi_ron_records n (s ++ rest) (λ z. omega (arith, z, p)) h
      ∙ lengths.with_header_some (records_length n (s ++ rest)) (λ z. omega (arith, z, b.0, b.1)) in
      (omega (arith, e, b.0), omega arith, omega (arith, h), omega (arith, h))

  pub entry_length_lem : {s : List ℕ} {e : Game.Entry} → IsEntry s e → (entry_length (s ++ rest) ≡ length s) × (0 < length s)
  entry_length_lem (Entry.riichi seat h) = (plain_length seat 0 seat rest (omega (arith, h)) (omega (arith, h)) (λ e. omega (arith, e)) (omega arith), omega arith)
  entry_length_lem (Entry.pao holder feeder yaku f low high) =
      let byte = 64 * holder + 16 * feeder + 8 * (yaku - 28) in (
        header_length 80 5 0 (byte ∷ rest) refl refl (λ e. omega (arith, e)) ∙ lengths.length_pao 0 (byte ∷ rest) 5 refl
            ∙ lengths.pao_whole 0 (byte ∷ rest) refl (omega arith) (omega (arith, low, high)),
        omega arith,
      )
  entry_length_lem (Entry.result s r i) = let l = result_length i in (l.0, l.1)
  entry_length_lem (Entry.correction s r i) =
      let l = result_length i in
      let e = lengths.length_correction (96 ∷ (s ++ rest)) (omega arith) refl ∙ lengths.correction_inside 0 (s ++ rest) refl l.2 l.3
      ∙ lengths.with_header_some (entry_length (s ++ rest)) (λ z. omega (arith, z, l.0, l.1)) in
      (omega (arith, e, l.0), omega arith)

-- of bytes that start with an entry
starts_length : (s : List ℕ) (x : LogEntry) → Starts s x → (entry_length s ≡ length x.part) × (0 < length x.part)
starts_length s x (i, e) =
    let l = entry_length_lem (drop (length x.part) s) i in
    let t : x.part ++ drop (length x.part) s ≡ s = ap (λ (p : List ℕ). p ++ drop (length x.part) s) (sym e) ∙ take-append-drop (length x.part) s in
    (ap entry_length (sym t) ∙ l.0, l.1)

-- of a correction the entry that replaces follows the header
result_kind : {s : List ℕ} {r : Result} → IsResult s r → (kind_in s ≤ 4) × (0 < length s)
result_kind (Entry.win s w) = (omega arith, omega arith)
result_kind (Entry.draw bits h) = (omega (arith, h), omega arith)
result_kind (Entry.chombo seat h) = (omega (arith, h), omega arith)
result_kind (Entry.multi_ron n s p h w) = (omega (arith, h), omega arith)

pub correction_some : {s : List ℕ} {e : Game.Entry} → IsEntry s e → kind_in s ≡ 6 → 0 < length (drop 1 s)
correction_some (Entry.riichi seat h) k = absurd (omega (arith, h, k))
correction_some (Entry.pao holder feeder yaku f low high) k = omega arith
correction_some (Entry.result s r i) k = absurd (omega (arith, k, (result_kind i).0))
correction_some (Entry.correction s r i) k = (result_kind i).1

-- its kind is no more than a result's
pub correction_result : {s : List ℕ} {e : Game.Entry} → IsEntry s e → kind_in s ≡ 6 → kind_in (drop 1 s) ≤ 4
correction_result (Entry.riichi seat h) k = absurd (omega (arith, h, k))
correction_result (Entry.pao holder feeder yaku f low high) k = omega arith
correction_result (Entry.result s r i) k = absurd (omega (arith, k, (result_kind i).0))
correction_result (Entry.correction s r i) k = (result_kind i).0

-- every entry has a header, which names one of seven kinds
pub entry_kind : {s : List ℕ} {e : Game.Entry} → IsEntry s e → (kind_in s ≤ 6) × (0 < length s)
entry_kind (Entry.riichi seat h) = (omega (arith, h), omega arith)
entry_kind (Entry.pao holder feeder yaku f low high) = (omega arith, omega arith)
entry_kind (Entry.result s r i) = let k = result_kind i in (omega (arith, k.0), k.1)
entry_kind (Entry.correction s r i) = (omega arith, omega arith)

-- ---- exactly one

by_some : (n : ℕ) (s : List ℕ) → 0 < n → found_by n s ≡ entry (record { part = take n s; entry = entry_of (take n s) })
by_some zero s h = absurd (omega arith)
by_some (suc n) s h = refl

module _ (log : List ℕ) (at : ℕ) where
  abbrev left : List ℕ
  left = drop at log

  pub found_end : length log ≤ at → found_at log at ≡ end
  unfolding found_at
  found_end h = rw (le-leb (length log) at h)

  pub found_bad : at < length log → entry_length left ≡ 0 → found_at log at ≡ bad
  unfolding found_at
  found_bad h e = rw (lt-leb (length log) at h, e)

  pub found_entry : 0 < entry_length left → found_at log at ≡ entry (record { part = first_part left; entry = entry_of (first_part left) })
  unfolding found_at
  found_entry h =
      let l : at < length log = omega (arith, h, length_inside left, length-drop at log) in
      rw (lt-leb (length log) at l) (by_some (entry_length left) left h)

  -- the three apart
  pub by_place : {P : Type 0} → (length log ≤ at → P) → (at < length log → entry_length left ≡ 0 → P) → (0 < entry_length left → P) → P
  by_place {P} ends fails stands = go (leb (length log) at) refl (eqb (entry_length left) 0) refl
    where
      go : (b : Bool) → leb (length log) at ≡ b → (d : Bool) → eqb (entry_length left) 0 ≡ d → P
      go true e d f = ends (leb-true (length log) at e)
      go false e true f = fails (leb-false (length log) at e) (eqb-true (entry_length left) 0 f)
      go false e false f = let n = eqb-false (entry_length left) 0 f in stands (omega (arith, n))

  first_starts : 0 < entry_length left → Starts left (record { part = first_part left; entry = entry_of (first_part left) })
  first_starts h = (part_entry left h, ap (λ (n : ℕ). take n left) (part_length left))

  pub found_is : IsNext log at (found_at log at)
  found_is =
      by_place (λ h. rw (found_end h) (at_end h))
      (λ h e. rw (found_bad h e) (none h (λ x s. let l = starts_length left x s in omega (arith, e, l.0, l.1))))
      (λ h. rw (found_entry h) (starts _ (first_starts h)))

  pub only_found : (y : Next) → IsNext log at y → y ≡ found_at log at
  only_found y (at_end h) = sym (found_end h)
  only_found y (none h n) =
      by_place (λ g. absurd (omega (arith, g, h))) (λ g e. sym (found_bad g e)) (λ g. absurd (n _ (first_starts g)))
  only_found y (starts x s) =
      let l = starts_length left x s in
      let p : first_part left ≡ x.part = ap (λ (n : ℕ). take n left) l.0 ∙ s.1 in
      sym (found_entry (omega (arith, l.0, l.1))
      ∙ ap (λ (q : List ℕ). entry (record { part = q; entry = entry_of q })) p
      ∙ ap (λ (e : Game.Entry). entry (record { part = x.part; entry = e })) (entry_is s.0))

abbrev pub exactly_one : (log : List ℕ) (at : ℕ) → (n : Next) × IsNext log at n × ((m : Next) → IsNext log at m → m ≡ n)
exactly_one log at = (found_at log at, found_is log at, only_found log at)
