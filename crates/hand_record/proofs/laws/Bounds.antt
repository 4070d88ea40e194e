-- The fields of a hand that was read are within their ranges, and a ron is from another seat; Read's refusals are 5 at most.
use Rattle.std.specs.Prelude.{ℕ, zero, suc, ◌≤◌, ◌<◌, ◌≡◌, refl, Bool, true, false, ◌||◌, cond, Result, Ok, Err, List, ltb, eqb, length}
use Rattle.std.proofs.Common.{arith, sym, ◌∙◌, subst, ltb-false}
use Rattle.std.proofs.Math.Path.{ap}
use Rattle.std.proofs.lemmas.Bool.{eqb-false}
use Rattle.tiles.proofs.laws.Below.{or_both, cond_le}
use Rattle.bits.specs.Bits.{bits_of}
use Rattle.hand.specs.declared.Fields.{Fields}
use Rattle.hand.specs.declared.Hand.{Hand}
use Rattle.hand.specs.Held.{wrong_held, descends, over_four}
use Rattle.hand.specs.Hand.{is_ron}
use Rattle.hand.specs.Refusals.{field_over33, field_over, wrong_discarder, wrong_fields, in_record, wrong_situation, refusal_of}
use Rattle.hand_record.specs.Record.{Answer, Sound, Refused, HandRead}
use Rattle.hand_record.specs.declared.HandRead.{HandRead as HandReadInCode}
use Rattle.hand_record.specs.declared.ReadHand.{ReadHand}
use Rattle.refusals.specs.declared.Refusal.{Refusal}
use Rattle.refusals.specs.Refusal.{refusal_in as number_in}
use Rattle.hand_record.specs.Record.{answer_of, numbered, refusal_in, fields_of, hand_of, wrong_length, count_in, padding_of, hand_in, refused_with, sound_as}
use Rattle.hand_record.specs.Record.{answer_by, answer_in, read_of, read_hand_of}
use Rattle.hand_record.proofs.laws.Clean.{kinds_of, Accepted, accepted_of}
use Rattle.hand_record.proofs.laws.Round.{as_read, accepted_back}
use Rattle.hand_record.proofs.laws.Claims.{is_read}
pub use Rattle.hand_record.specs.search.Bounds.{Bounds}

-- "ron with discarder equal to winner" is refused
pub other_seat : (f : Fields) → wrong_discarder f ≡ false → is_ron f ≡ true → f.winner ≡ f.discarder → ⊥
other_seat f o r e = let q : eqb f.discarder f.winner ≡ false = rw r at o in eqb-false _ _ q (sym e)

-- what a hand that Write accepts has
pub bounds_of : (h : Hand) → Accepted h → Bounds h
unfolding wrong_fields
bounds_of h y =
    let f = h.fields in
    let p = four (ltb 4 h.held.m) (ltb 1 f.how) (ltb 3 f.winner) (ltb 3 f.discarder) (ltb 3 f.riichi) (ltb 7 f.situation) y.large in
    let k = kinds_of h 0 y.clean.fields in
    record {
      few = ltb-false 4 h.held.m p.0;
      winner = ltb-false 3 f.winner p.1;
      discarder = ltb-false 3 f.discarder p.2;
      winning = k.winning;
      indicator = k.indicator;
      other = (or_both (wrong_held h.held 0 || field_over33 f || field_over f) (wrong_discarder f) y.clean.fields).1;
    }
  where
    four : (a b c d u v : Bool) → a || b || c || d || u || v ≡ false → (a ≡ false) × (c ≡ false) × (d ≡ false)
    four a b c d u v q =
        let q3 = or_both (a || b || c) d (or_both (a || b || c || d) u (or_both (a || b || c || d || u) v q).0).0 in
        let q2 = or_both (a || b) c q3.0 in
        ((or_both a b q2.0).0, q2.1, q3.1)

-- what is read as sound
pub read_bounds : (s : List ℕ) → refusal_in (read_of s).answer ≡ 0 → Bounds (hand_of (read_of s))
read_bounds s e =
    let y = is_read s e in
    let h : Hand = hand_in (count_in s) (bits_of s) in
    subst (λ (x : Hand). Bounds x) (sym (ap hand_of (as_read s h y))) (bounds_of h (accepted_of h (accepted_back s h y)))

-- what a reader's answer says of the record: r is what Read gave
module _ (s : List ℕ) (r : HandRead) (e : r ≡ read_of s) where
  pub answer_is : {a : Answer} → r.answer ≡ a → (read_of s).answer ≡ a
  answer_is told = ap (λ (x : HandRead). x.answer) (sym e) ∙ told

  pub hand_is : (f : Fields) → r.answer ≡ Sound f → record { fields = f; held = r.held } ≡ hand_of (read_of s)
  hand_is f told = ap (λ (x : Answer). record { fields = fields_of x; held = r.held }) (sym told) ∙ ap hand_of e

  pub hand_bounds : (f : Fields) → r.answer ≡ Sound f → Bounds (record { fields = f; held = r.held })
  hand_bounds f told = subst (λ (x : Hand). Bounds x) (sym (hand_is f told)) (read_bounds s (ap refusal_in (answer_is told)))

-- the number of the code's answer
pub number_is : (a : Result Fields Refusal) → number_in a ≡ refusal_in (answer_of a)
number_is (Ok f) = refl
number_is (Err r) = refl

-- the same of the hand that it gives: r is what the code's Read gave
module _ (s : List ℕ) (r : HandReadInCode) (e : numbered r ≡ read_of s) where
  pub given_read : 0 ≡ refusal_in (numbered r).answer → refusal_in (read_of s).answer ≡ 0
  given_read z = ap (λ (x : HandRead). refusal_in x.answer) (sym e) ∙ sym z

  pub given_hand : {h : Hand} → h ≡ hand_of (numbered r) → h ≡ hand_of (read_of s)
  given_hand q = q ∙ ap hand_of e

  pub given_bounds : {h : Hand} → 0 ≡ refusal_in (numbered r).answer → h ≡ hand_of (numbered r) → Bounds h
  given_bounds z q = subst (λ (x : Hand). Bounds x) (sym (given_hand q)) (read_bounds s (given_read z))

-- the same of what it gave flat
module _ (s : List ℕ) (r : ReadHand) (e : r ≡ read_hand_of s) where
  pub flat_refusal : refusal_in (read_of s).answer ≡ r.refusal
  unfolding read_hand_of
  flat_refusal = ap (λ (x : ReadHand). x.refusal) (sym e)

  pub flat_hand : r.hand ≡ hand_of (read_of s)
  unfolding read_hand_of
  flat_hand = ap (λ (x : ReadHand). x.hand) e

  pub flat_bounds : r.refusal ≡ 0 → Bounds r.hand
  flat_bounds z = subst (λ (x : Hand). Bounds x) (sym flat_hand) (read_bounds s (flat_refusal ∙ z))

-- a refused record's hand is all zero
pub refused_hand : (s : List ℕ) → 0 < refusal_in (read_of s).answer → hand_of (read_of s) ≡ hand_of (refused_with 0)
unfolding read_of answer_in answer_by
refused_hand s h = go (wrong_length (length s) (count_in s)) h
  where
    x : Hand
    x = hand_in (count_in s) (bits_of s)

    j : ℕ
    j = refusal_of x (padding_of (count_in s) (bits_of s))

    by : (b : Bool) → 0 < refusal_in (cond b (refused_with j) (sound_as x)).answer
        → hand_of (cond b (refused_with j) (sound_as x)) ≡ hand_of (refused_with 0)
    by true h = refl
    by false h = absurd (omega arith)

    go : (b : Bool) → 0 < refusal_in (cond b (refused_with 1) (cond (ltb 0 j) (refused_with j) (sound_as x))).answer
        → hand_of (cond b (refused_with 1) (cond (ltb 0 j) (refused_with j) (sound_as x))) ≡ hand_of (refused_with 0)
    go true h = refl
    go false h = by (ltb 0 j) h

-- a refusal has a number
pub refused_number : (s : List ℕ) (n : ℕ) → (read_of s).answer ≡ Refused n → 0 < n
refused_number s zero e =
    let x : Hand = hand_in (count_in s) (bits_of s) in
    let a : (read_of s).answer ≡ Sound x.fields = ap (λ (r : HandRead). r.answer) (as_read s x (is_read s (ap refusal_in e))) in
    let z : ◌≡◌ {A = ℕ} 0 1 = cc in
    absurd (omega arith)
refused_number s (suc n) e = omega arith

-- ---- Read's refusals are 5 at most

refusal_le : (h : Hand) (padding : ℕ) → refusal_of h padding ≤ 5
unfolding refusal_of
refusal_le h padding =
    cond_le (wrong_fields h padding) 2 _ 5 (omega arith)
    (cond_le (descends h.held) 3 _ 5 (omega arith)
    (cond_le (over_four (in_record h)) 4 _ 5 (omega arith) (cond_le (wrong_situation h) 5 0 5 (omega arith) (omega arith))))

answer_le : (h : Hand) (j : ℕ) → j ≤ 5 → refusal_in (answer_by h j).answer ≤ 5
unfolding answer_by
answer_le h j l = go (ltb 0 j)
  where
    go : (b : Bool) → refusal_in (cond b (refused_with j) (sound_as h)).answer ≤ 5
    go true = l
    go false = omega arith

pub read_le : (s : List ℕ) → refusal_in (read_of s).answer ≤ 5
unfolding read_of answer_in
read_le s = go (wrong_length (length s) (count_in s))
  where
    go : (b : Bool) → refusal_in (cond b (refused_with 1) (answer_in (count_in s) (bits_of s))).answer ≤ 5
    go true = omega arith
    go false = answer_le (hand_in (count_in s) (bits_of s)) _ (refusal_le (hand_in (count_in s) (bits_of s)) (padding_of (count_in s) (bits_of s)))
