-- A sound record read and written back gives the same bytes; an accepted hand written and read gives the same hand.
use Prim.Native.Nat.{ℕ, ◌*◌, ◌-◌, ◌<◌, ◌≤◌}
use Rattle.std.specs.Prelude.{◌≡◌, Bool, true, ◌||◌, cond, ltb, get_or, take}
use Rattle.std.proofs.Math.Path.{refl, sym, ap, subst}
use Rattle.std.proofs.Common.{◌∙◌, arith, length-take, length-take-le, get_or-take, pow_pos}
use Rattle.std.proofs.Math.Bool.{false}
use mathlib.Core.List.{List, [], ◌∷◌, ◌++◌}
use borrow.Author.Tests.{ltb-true, ltb-false, le-ltb}
use Rattle.std.proofs.Math.ListN.{length, length-replicate, get_or-eq_default}
use Rattle.tiles.proofs.laws.Below.{or_both}
use Rattle.bits.specs.Bits.{pack, unpack, eights, bits_of, fill, EachBelow}
use Rattle.bits.proofs.laws.Pack.{FitIn, fields_of, unpack_fit, below_pack, below_take, length_unpack, bytes_fields, fields_bytes}
use Rattle.bits.proofs.laws.Pack.{length_bits_of, fit_cons, fit_nil, fit_all, fit_run, fit_append, app_inj}
use Rattle.hand.specs.declared.Fields.{Fields}
use Rattle.hand.specs.declared.Held.{Held}
use Rattle.hand.specs.declared.Hand.{Hand}
use Rattle.hand.specs.Held.{unused_not_zero}
use Rattle.hand.specs.Refusals.{too_large, refusal_of, unwritable}
use Rattle.hand_record.specs.declared.Head.{Head}
use Rattle.hand_record.specs.Record.{HandRead}
use Rattle.hand_record.specs.Record.{Sound, Refused}
use Rattle.hand_record.specs.Record.{head, head_by, head_list, head_for, sixes, length_of, pad_of, held_widths, held_values, head_of, padding_of}
use Rattle.hand_record.specs.Record.{hand_in, refused_with, sound_as, wrong_length, count_in, answer_by, answer_in, read_of, widths, values_of, record_of}
use Rattle.hand_record.specs.search.Offsets.{melds_of, tiles_of, held_in, hand_at}
use Rattle.hand_record.proofs.laws.Offsets.{melds_length, tiles_length, hand_at_lem, unpack_widths}
use Rattle.hand_record.proofs.laws.Clean.{clean_of, of_clean, kinds_of, Accepted, accepted_of}
use Rattle.hand_record.proofs.laws.Fill.{take_fill, fill_past, fill_take, unused_of, zeros_of}
use Rattle.hand_record.proofs.laws.Read.{whole, RightLength, length_of_lem, length_right}
use Rattle.hand_record.proofs.laws.Write.{sum_widths, length_widths, few_melds}

-- ---- the fields of a record's bits, part by part

head_list_lem : (b : List ℕ) → head_list (head_of b) ≡ unpack head b
unfolding head_of
head_list_lem b = refl

head_back : (x : Head) (b : List ℕ) → unpack head b ≡ head_list x → head_of b ≡ x
unfolding head_of
head_back x b e = ap head_by e

-- ---- the tiles held of bits

-- the values of the tiles held that bits from `at` on are
pub held_values_lem : (x : Held) (at : ℕ) (b : List ℕ) → x ≡ held_in at x.m b
    → held_values x ≡ melds_of at x.m b ++ (tiles_of at x.m b ++ (0 ∷ []))
unfolding held_in
held_values_lem x at b e =
    let m : ℕ = x.m in
    let k : ℕ = 13 - 3 * m in
    let em : take m x.melds ≡ melds_of at m b =
    ap (λ (y : Held). take m y.melds) e ∙ take_fill 4 m (melds_of at m b) (melds_length at m b) in
    let et : take k x.concealed ≡ tiles_of at m b =
    ap (λ (y : Held). take k y.concealed) e ∙ take_fill 13 k (tiles_of at m b) (tiles_length at m b) in
    ap (λ (l : List ℕ). l ++ (take k x.concealed ++ (0 ∷ []))) em ∙ ap (λ (l : List ℕ). melds_of at m b ++ (l ++ (0 ∷ []))) et

-- their unused places are zero
pub held_unused : (x : Held) (at : ℕ) (b : List ℕ) → x ≡ held_in at x.m b → unused_not_zero x ≡ false
unfolding held_in
held_unused x at b e =
    let m : ℕ = x.m in
    unused_of x
    (λ i g. ap (λ (y : Held). get_or y.melds i 0) e ∙ fill_past 4 (melds_of at m b) i (omega (arith, melds_length at m b)))
    (λ i g. ap (λ (y : Held). get_or y.concealed i 0) e ∙ fill_past 13 (tiles_of at m b) i (omega (arith, tiles_length at m b)))

-- bits with the values of tiles held, and p after them, are those tiles held
pub held_again : (x : Held) (at p : ℕ) (b : List ℕ) → x.m ≤ 4 → length x.melds ≡ 4 → length x.concealed ≡ 13 → unused_not_zero x ≡ false
    → melds_of at x.m b ++ (tiles_of at x.m b ++ (p ∷ [])) ≡ held_values x → (held_in at x.m b ≡ x) × (p ≡ 0)
unfolding held_in
held_again x at p b few lm lc u q =
    let m : ℕ = x.m in
    let k : ℕ = 13 - 3 * m in
    let q1 = app_inj (melds_of at m b) (take m x.melds) _ _ (melds_length at m b ∙ sym (length-take-le m x.melds (omega arith))) q in
    let q2 = app_inj (tiles_of at m b) (take k x.concealed) _ _ (tiles_length at m b ∙ sym (length-take-le k x.concealed (omega arith))) q1.1 in
    let z = zeros_of x u in
    let em : fill 4 (melds_of at m b) ≡ x.melds = ap (fill 4) q1.0 ∙ fill_take 4 m x.melds lm few z.0 in
    let et : fill 13 (tiles_of at m b) ≡ x.concealed = ap (fill 13) q2.0 ∙ fill_take 13 k x.concealed lc (omega arith) z.1 in (
      ap (λ (l : List ℕ). record { m = m; melds = l; concealed = fill 13 (tiles_of at m b) }) em
          ∙ ap (λ (l : List ℕ). record { m = m; melds = x.melds; concealed = l }) et,
      ap (λ (l : List ℕ). get_or l 0 0) q2.1,
    )

-- ---- what a sound answer says

pub record ReadAs (s : List ℕ) (h : Hand) : Type 0 where
  pub right_length : RightLength (length s) (count_in s)
  pub is_hand : h ≡ hand_in (count_in s) (bits_of s)
  pub unrefused : refusal_of h (padding_of (count_in s) (bits_of s)) ≡ 0

never : (n : ℕ) (h : Hand) → refused_with n ≡ sound_as h → ⊥
never n h e =
    let a : Refused n ≡ Sound h.fields = ap (λ (r : HandRead). r.answer) e in
    let z : ◌≡◌ {A = ℕ} 0 1 = cc in
    omega arith

cond_sound : (b : Bool) (n : ℕ) (x : HandRead) (h : Hand) → cond b (refused_with n) x ≡ sound_as h → (b ≡ false) × (x ≡ sound_as h)
cond_sound true n x h e = absurd (never n h e)
cond_sound false n x h e = (refl, e)

hand_eq : (x h : Hand) → x.fields ≡ h.fields → x.held ≡ h.held → x ≡ h
hand_eq x h ef eh = ap (λ (f : Fields). record { fields = f; held = x.held }) ef ∙ ap (λ (y : Held). record { fields = h.fields; held = y }) eh

sound_inj : (x h : Hand) → sound_as x ≡ sound_as h → x ≡ h
sound_inj x h e =
    let a : Sound x.fields ≡ Sound h.fields = ap (λ (r : HandRead). r.answer) e in
    let ef : x.fields ≡ h.fields = cc in
    hand_eq x h ef (ap (λ (r : HandRead). r.held) e)

pub read_as : (s : List ℕ) (h : Hand) → read_of s ≡ sound_as h → ReadAs s h
unfolding read_of answer_in answer_by
read_as s h e =
    let b : List ℕ = bits_of s in
    let m : ℕ = count_in s in
    let x : Hand = hand_in m b in
    let j : ℕ = refusal_of x (padding_of m b) in
    let p = cond_sound (wrong_length (length s) m) 1 (answer_by x j) h e in
    let q = cond_sound (ltb 0 j) j (sound_as x) h p.1 in
    let i : h ≡ x = sym (sound_inj x h q.1) in
    let z : j ≡ 0 = omega (arith, ltb-false 0 j q.0) in
    record { right_length = length_of_lem (length s) m p.0; is_hand = i; unrefused = rw i z }

pub as_read : (s : List ℕ) (h : Hand) → ReadAs s h → read_of s ≡ sound_as h
unfolding read_of answer_in answer_by
as_read s h y =
    let z : refusal_of (hand_in (count_in s) (bits_of s)) (padding_of (count_in s) (bits_of s)) ≡ 0 = rw y.is_hand at y.unrefused in
    rw (length_right (length s) (count_in s) y.right_length, z) (ap sound_as (sym y.is_hand))

-- the parts of the hand that was read
module _ (s : List ℕ) (h : Hand) (y : ReadAs s h) where
  is_at : h ≡ hand_at (count_in s) (bits_of s)
  is_at = y.is_hand ∙ hand_at_lem (count_in s) (bits_of s)

  count_is : h.held.m ≡ count_in s
  unfolding held_in
  count_is = ap (λ (x : Hand). x.held.m) is_at

  fields_are : head_list (head_for h) ≡ unpack head (bits_of s)
  unfolding held_in
  fields_are = ap (λ (x : Hand). head_list (head_for x)) is_at ∙ head_list_lem (bits_of s)

  held_are : h.held ≡ held_in 25 h.held.m (bits_of s)
  held_are = ap (λ (x : Hand). x.held) is_at ∙ ap (λ (m : ℕ). held_in 25 m (bits_of s)) (sym count_is)

  pub length_is : RightLength (length s) h.held.m
  length_is = rw count_is y.right_length

  unrefused_is : refusal_of h (padding_of h.held.m (bits_of s)) ≡ 0
  unrefused_is = ap (λ (m : ℕ). refusal_of h (padding_of m (bits_of s))) count_is ∙ y.unrefused

  no_padding : padding_of h.held.m (bits_of s) ≡ 0
  no_padding = (kinds_of h _ (clean_of h _ unrefused_is).fields).padding

  -- the values that are written are the record's own
  values_are : values_of h ≡ fields_of (widths h.held.m) s
  unfolding values_of
  values_are =
      let m : ℕ = h.held.m in
      let b : List ℕ = bits_of s in
      ap (λ (l : List ℕ). l ++ held_values h.held) fields_are
      ∙ ap (λ (l : List ℕ). unpack head b ++ l) (held_values_lem h.held 25 b held_are)
      ∙ ap (λ (k : ℕ). unpack head b ++ (melds_of 25 m b ++ (tiles_of 25 m b ++ (k ∷ [])))) (sym no_padding)
      ∙ sym (unpack_widths m b)

  pub same_bytes : EachBelow 256 s → record_of h ≡ s
  unfolding record_of
  same_bytes bs =
      let m : ℕ = h.held.m in
      let n : length_of m ≡ length s = sym length_is.right in
      rw (values_are, n) (bytes_fields (widths m) s bs (sum_widths m length_is.few ∙ ap (λ (k : ℕ). 8 * k) n))

  -- and the hand is accepted for writing
  pub accepted_back : unwritable h ≡ 0
  unfolding unwritable
  accepted_back =
      let z : refusal_of h 0 ≡ 0 = rw no_padding at unrefused_is in
      rw (not_large, not_unused) z
    where
      not_large : too_large h ≡ false
      not_large =
          let b : List ℕ = bits_of s in
          let l = length_bits_of s in
          let f = length_is in
          let g : FitIn head (head_list (head_for h)) =
          subst (λ (x : List ℕ). FitIn head x) (sym fields_are) (unpack_fit head b (below_pack (eights (length s)) s) (omega (arith, f.four))) in
          rw (
            le-ltb 4 h.held.m f.few,
            le-ltb 1 h.fields.how (omega (arith, g 0)),
            le-ltb 3 h.fields.winner (omega (arith, g 1)),
            le-ltb 3 h.fields.discarder (omega (arith, g 2)),
            le-ltb 3 h.fields.riichi (omega (arith, g 3)),
            le-ltb 7 h.fields.situation (omega (arith, g 4)),
          )

      not_unused : unused_not_zero h.held ≡ false
      not_unused = held_unused h.held 25 (bits_of s) held_are

-- ---- the other way: what is written fits its bits

-- the first k tiles fit six bits
tiles_below : (k : ℕ) (l : List ℕ) → ((i : ℕ) → i < k → get_or l i 0 ≤ 33) → EachBelow 64 (take k l)
tiles_below k l h i = go (ltb i k) refl
  where
    go : (b : Bool) → ltb i k ≡ b → get_or (take k l) i 0 < 64
    go true e = rw (get_or-take k l i 0 (ltb-true i k e)) (omega (arith, h i (ltb-true i k e)))
    go false e = rw (get_or-eq_default (take k l) 0 {n = i} (omega (arith, ltb-false i k e, length-take k l))) (omega arith)

-- the values of tiles held fit their widths
pub held_fit : (x : Held) (n : ℕ) → x.m ≤ 4 → length x.melds ≡ 4 → length x.concealed ≡ 13 → EachBelow 256 x.melds
    → ((i : ℕ) → i < 13 - 3 * x.m → get_or x.concealed i 0 ≤ 33) → FitIn (held_widths x.m n) (held_values x)
held_fit x n few lm lc bm t =
    let m : ℕ = x.m in
    let k : ℕ = 13 - 3 * m in
    let em : length (take m x.melds) ≡ m = length-take-le m x.melds (omega arith) in
    let et : length (take k x.concealed) ≡ k = length-take-le k x.concealed (omega arith) in
    fit_append (eights m) (take m x.melds) (sixes k ++ (n ∷ [])) (take k x.concealed ++ (0 ∷ [])) (length-replicate m 8 ∙ sym em)
    (fit_run m 8 (take m x.melds) (omega arith) (below_take 256 m x.melds bm))
    (fit_append (sixes k) (take k x.concealed) (n ∷ []) (0 ∷ []) (length-replicate k 6 ∙ sym et)
    (fit_run k 6 (take k x.concealed) (omega arith) (tiles_below k x.concealed t))
    (fit_cons n 0 [] [] (pow_pos n) fit_nil))

fit_head : (h : Hand) → Accepted h → FitIn head (head_list (head_for h))
fit_head h y =
    let f = h.fields in
    let p = six (ltb 4 h.held.m) (ltb 1 f.how) (ltb 3 f.winner) (ltb 3 f.discarder) (ltb 3 f.riichi) (ltb 7 f.situation) y.large in
    let k = kinds_of h 0 y.clean.fields in
    fit_all head (head_list (head_for h))
    (omega (
      arith,
      ltb-false 4 h.held.m p.0,
      ltb-false 1 f.how p.1,
      ltb-false 3 f.winner p.2,
      ltb-false 3 f.discarder p.3,
      ltb-false 3 f.riichi p.4,
      ltb-false 7 f.situation p.5,
      k.indicator,
      k.winning,
    ))
  where
    six : (a b c d u v : Bool) → a || b || c || d || u || v ≡ false → (a ≡ false) × (b ≡ false) × (c ≡ false) × (d ≡ false) × (u ≡ false) × (v ≡ false)
    six a b c d u v q =
        let q5 = or_both (a || b || c || d || u) v q in
        let q4 = or_both (a || b || c || d) u q5.0 in
        let q3 = or_both (a || b || c) d q4.0 in
        let q2 = or_both (a || b) c q3.0 in
        let q1 = or_both a b q2.0 in
        (q1.0, q1.1, q2.1, q3.1, q4.1, q5.1)

module _ (h : Hand) (e : unwritable h ≡ 0) (lm : length h.held.melds ≡ 4) (lc : length h.held.concealed ≡ 13)
    (bm : EachBelow 256 h.held.melds) where
  y : Accepted h
  y = accepted_of h e

  few : h.held.m ≤ 4
  few = few_melds h e

  values_fit : FitIn (widths h.held.m) (values_of h)
  unfolding widths values_of
  values_fit =
      fit_append head (head_list (head_for h)) (held_widths h.held.m (pad_of h.held.m)) (held_values h.held) refl (fit_head h y)
      (held_fit h.held (pad_of h.held.m) few lm lc bm (kinds_of h 0 y.clean.fields).tiles)

  same_fields : fields_of (widths h.held.m) (record_of h) ≡ values_of h
  unfolding record_of
  same_fields =
      fields_bytes (widths h.held.m) (values_of h) (length_of h.held.m)
      (length_widths h few (omega arith) (omega arith)) values_fit (sum_widths h.held.m few)

  pub length_record : length (record_of h) ≡ length_of h.held.m
  unfolding record_of
  length_record = length_unpack (eights (length_of h.held.m)) (pack (widths h.held.m) (values_of h)) ∙ length-replicate (length_of h.held.m) 8

  -- the parts of what is written
  parts_back : (b : List ℕ) → b ≡ bits_of (record_of h)
      → (unpack head b ≡ head_list (head_for h)) × (held_in 25 h.held.m b ≡ h.held) × (padding_of h.held.m b ≡ 0)
  unfolding values_of
  parts_back b eb =
      let m : ℕ = h.held.m in
      let q : unpack head b ++ (melds_of 25 m b ++ (tiles_of 25 m b ++ (padding_of m b ∷ []))) ≡ head_list (head_for h) ++ held_values h.held =
      sym (unpack_widths m b) ∙ ap (unpack (widths m)) eb ∙ same_fields in
      let q1 = app_inj (unpack head b) (head_list (head_for h)) _ _ refl q in
      let q2 = held_again h.held 25 (padding_of m b) b few lm lc y.unused q1.1 in
      (q1.0, q2.0, q2.1)

  hand_back : h ≡ hand_in h.held.m (bits_of (record_of h))
  hand_back =
      let m : ℕ = h.held.m in
      let b : List ℕ = bits_of (record_of h) in
      let p = parts_back b refl in
      sym (hand_eq (hand_at m b) h (ap (λ (x : Head). x.fields) (head_back (head_for h) b p.0)) p.1) ∙ sym (hand_at_lem m b)

  pub same_hand : read_of (record_of h) ≡ sound_as h
  same_hand =
      let m : ℕ = h.held.m in
      let b : List ℕ = bits_of (record_of h) in
      let p = parts_back b refl in
      let ec : count_in (record_of h) ≡ m = ap (λ (x : Head). x.m) (head_back (head_for h) b p.0) in
      let w = whole m few in
      let l = length_record in
      let fo : RightLength (length (record_of h)) m = record { four = omega (arith, w); few = few; right = l } in
      as_read (record_of h) h (record {
        right_length = rw ec fo;
        is_hand = hand_back ∙ ap (λ (n : ℕ). hand_in n b) (sym ec);
        unrefused = ap (λ (n : ℕ). refusal_of h (padding_of n b)) ec ∙ ap (refusal_of h) p.2 ∙ of_clean h 0 y.clean;
      })
