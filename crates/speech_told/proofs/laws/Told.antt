-- Two messages of scores that are the same.
use Rattle.std.specs.Prelude.{◌≡◌, Bool, true, false, cond, List, ◌++◌, ℕ, zero, suc, ◌+◌, ◌-◌, ◌≤◌, ◌<◌, ℤ, pos, negsuc, nat_abs, get_or, replicate}
use Rattle.std.proofs.Math.Path.{refl, ap}
use Rattle.std.proofs.Common.{sym, ◌∙◌}
use Rattle.std.proofs.lemmas.Bool.{false≢true}
use native.Mathlib.Omega.{arith}
use Rattle.tiles.specs.Below.{any}
use Rattle.tiles.specs.Kinds.{dora_of}
use Rattle.hand.specs.declared.Hand.{Hand}
use Rattle.hand.specs.Hand.{is_ron}
use Rattle.hand_record.specs.Record.{Answer, Sound, Refused}
use Rattle.hand_record.specs.Record.{hand_of, read_of, fields_of, refusal_in}
use Rattle.hand_record.proofs.laws.Bounds.{read_bounds}
use Rattle.yaku.specs.Yaku.{is_yakuman}
use Rattle.points_value.specs.Value.{value_of}
use Rattle.points_value.proofs.Claims.{yakuman_pays_as_one}
use Rattle.score.specs.declared.Scored.{Scored}
use Rattle.score.specs.Named.{won_of, seats_of, full_reading_of, worth, Named, reported, six, seven}
use Rattle.score.specs.IsScore.{IsScore, eight, unreadable, read}
use Rattle.score.specs.Score.{score_of}
use Rattle.score.proofs.laws.One.{is_score}
use Rattle.speech_told.specs.Phrases.{player, worth_clips, amount_clips, payments_clips}
use Rattle.speech_told.specs.Messages.{score_message, score_said}
use Rattle.speech_told.specs.Told.{Agree}
use Rattle.score.proofs.laws.Z.{Within}
use Rattle.score.proofs.laws.Changes.{score_within}
use Rattle.score.proofs.laws.Small.{Small, small}
use Rattle.speech_told.proofs.laws.Apart.{head_eq, tail_eq, player_same, yaku_same, worth_same, worth_front, payments_same}

-- the winner that Read gives, 0 where it refuses
pub read_winner : (s : List ℕ) → (hand_of (read_of s)).fields.winner ≤ 3
read_winner s = go (read_of s).answer refl
  where
    go : (a : Answer) → (read_of s).answer ≡ a → (fields_of a).winner ≤ 3
    go (Refused n) e = omega arith
    go (Sound f) e =
        let z : refusal_in (read_of s).answer ≡ 0 = rw e in
        rw e at (read_bounds s z).winner

-- the changes of a score have 32 bits
abs_within : (z : ℤ) → Within z 48000 → nat_abs z < 4294967296
abs_within (pos n) w = omega (arith, w.0)
abs_within (negsuc n) w = omega (arith, w.1)

pub changes_fit : (s : List ℕ) (dealer wind k : ℕ) → nat_abs (get_or (score_of s dealer wind).changes k (pos 0)) < 4294967296
changes_fit s dealer wind k = abs_within (get_or (score_of s dealer wind).changes k (pos 0)) (score_within s dealer wind k)

-- ---- with a yakuman "h and fu are 0"

abbrev Zeros : Scored → Type 0
Zeros a = is_yakuman a.yaku ≡ true → (a.h.0 ≡ 0) × (a.fu.0 ≡ 0)

none_listed : {A : Type 0} → is_yakuman (replicate 37 false) ≡ true → A
unfolding is_yakuman
none_listed e = absurd (false≢true e)

module _ (h : Hand) (dealer wind : ℕ) where
  named_zeros : {a : Scored} → Named h dealer wind a → Zeros a
  unfolding worth value_of
  named_zeros (reported r i) e =
      let z = yakuman_pays_as_one (won_of h dealer wind) (full_reading_of h r) (dora_of h.fields.indicator) (seats_of h dealer) e in
      (z.0, z.1)
  named_zeros (six n) e = none_listed e
  named_zeros (seven q i n) e = none_listed e

module _ (s : List ℕ) (dealer wind : ℕ) where
  is_zeros : {a : Scored} → IsScore s dealer wind a → Zeros a
  is_zeros (eight o) e = none_listed e
  is_zeros (unreadable d w n r) e = none_listed e
  is_zeros (read d w f r n) e = named_zeros _ dealer wind n e

  zeros : Zeros (score_of s dealer wind)
  zeros = is_zeros (is_score s dealer wind)

-- ---- the same yaku make a yakuman of both or of neither

any_same : (n : ℕ) (p q : ℕ → Bool) → ((k : ℕ) → k < n → p k ≡ q k) → any n p ≡ any n q
any_same zero p q h = refl
any_same (suc n) p q h = rw (any_same n p q (λ k g. h k (omega arith)), h n (omega arith))

yakuman_same : (y z : List Bool) → ((k : ℕ) → k < 36 → get_or y (k + 1) false ≡ get_or z (k + 1) false) → is_yakuman y ≡ is_yakuman z
unfolding is_yakuman
yakuman_same y z h =
    any_same 11 (λ i. get_or y (26 + i) false) (λ i. get_or z (26 + i) false)
    (λ k g. let e : 25 + k + 1 ≡ 26 + k = omega arith in rw e at (h (25 + k) (omega arith)))

way_same : (p q : Bool) → ◌≡◌ {A = ℕ} (cond p 64 65) (cond q 64 65) → p ≡ q
way_same true true e = refl
way_same true false e = absurd (omega arith)
way_same false true e = absurd (omega arith)
way_same false false e = refl

-- ---- two messages

module _ (l dealer w v : ℕ) (p q : Bool) (a b : Scored) (hw : w ≤ 3) (hv : v ≤ 3) (sa : Small a) (sb : Small b) (za : Zeros a) (zb : Zeros b)
    (f : (k : ℕ) → nat_abs (get_or a.changes k (pos 0)) < 1000000000000) (g : (k : ℕ) → nat_abs (get_or b.changes k (pos 0)) < 1000000000000) where
  abbrev rest_a : List ℕ
  rest_a = payments_clips l dealer a.changes ++ amount_clips l (player dealer w) 67 (nat_abs (get_or a.changes w (pos 0)))

  abbrev rest_b : List ℕ
  rest_b = payments_clips l dealer b.changes ++ amount_clips l (player dealer v) 67 (nat_abs (get_or b.changes v (pos 0)))

  same_worth : (x y : Bool) → is_yakuman a.yaku ≡ x → is_yakuman b.yaku ≡ y → x ≡ y → ((x ≡ false) → (a.h.0 ≡ b.h.0) × (a.fu.0 ≡ b.fu.0))
      → (a.h.0 ≡ b.h.0) × (a.fu.0 ≡ b.fu.0)
  same_worth true true ea eb e r =
      let s = za ea in
      let t = zb eb in
      (s.0 ∙ sym t.0, s.1 ∙ sym t.1)
  same_worth true false ea eb e r = absurd (false≢true (sym e))
  same_worth false true ea eb e r = absurd (false≢true e)
  same_worth false false ea eb e r = r refl

  pub same_message : score_message l dealer w p a ≡ score_message l dealer v q b → Agree w v p q a b
  unfolding score_message
  same_message e =
      let ew : w ≡ v = player_same dealer w v hw hv (head_eq e) in
      let yk = yaku_same a.yaku b.yaku _ _
      (worth_front l (is_yakuman a.yaku) a.h.0 a.fu.0 rest_a (omega (arith, sa.0)))
      (worth_front l (is_yakuman b.yaku) b.h.0 b.fu.0 rest_b (omega (arith, sb.0))) (tail_eq (tail_eq e)) in
      let iy = yakuman_same a.yaku b.yaku yk.0 in
      let wo = worth_same l (is_yakuman a.yaku) a.h.0 b.h.0 a.fu.0 b.fu.0 rest_a rest_b (omega (arith, sa.0)) (omega (arith, sb.0))
      (omega (arith, sa.1)) (omega (arith, sb.1))
      (yk.1 ∙ ap (λ (t : Bool). worth_clips l t b.h.0 b.fu.0 ++ rest_b) (sym iy)) in
      let hf = same_worth (is_yakuman a.yaku) (is_yakuman b.yaku) refl refl iy wo.0 in
      record {
        winner = ew;
        ron = way_same p q (head_eq (tail_eq e));
        yaku = λ n i j. let k : n - 1 + 1 ≡ n = omega arith in rw k at (yk.0 (n - 1) (omega arith));
        h = hf.0;
        fu = hf.1;
        payments = payments_same l dealer a.changes b.changes f g (player dealer w) _ _
            (wo.1 ∙ ap (λ (t : ℕ). payments_clips l dealer b.changes ++ amount_clips l (player dealer t) 67 (nat_abs (get_or b.changes v (pos 0)))) (sym ew));
      }

-- ---- of two records

module _ (l dealer wind other : ℕ) (s t : List ℕ) where
  pub same_said : score_said l s dealer wind ≡ score_said l t dealer other
      → Agree (hand_of (read_of s)).fields.winner (hand_of (read_of t)).fields.winner (is_ron (hand_of (read_of s)).fields) (is_ron (hand_of (read_of t)).fields)
      (score_of s dealer wind) (score_of t dealer other)
  unfolding score_said
  same_said e =
      let x = (hand_of (read_of s)).fields in
      let y = (hand_of (read_of t)).fields in
      same_message l dealer x.winner y.winner (is_ron x) (is_ron y) (score_of s dealer wind) (score_of t dealer other) (read_winner s) (read_winner t)
      (small s dealer wind) (small t dealer other) (zeros s dealer wind) (zeros t dealer other)
      (λ k. omega (arith, changes_fit s dealer wind k)) (λ k. omega (arith, changes_fit t dealer other k)) e
