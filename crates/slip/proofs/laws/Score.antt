-- What a slip needs to know of a score: with a yakuman fu is 0, and without one an accepted hand has fu.
use Rattle.std.specs.Prelude.{◌≡◌, Bool, cond, List, ℕ, ◌≤◌, ◌<◌, eqb, replicate}
use Rattle.std.proofs.Math.Path.{refl}
use Rattle.std.proofs.Math.Bool.{true, false}
use Rattle.std.proofs.lemmas.Bool.{false≢true}
use Rattle.std.proofs.Common.{arith}
use Rattle.tiles.specs.Kinds.{dora_of}
use Rattle.hand.specs.declared.Hand.{Hand}
use Rattle.hand_record.proofs.laws.Bounds.{refused_number}
use Rattle.reading.specs.declared.Reading.{Reading}
use Rattle.yaku.specs.declared.Won.{Won}
use Rattle.yaku.specs.declared.FullReading.{FullReading}
use Rattle.yaku.specs.Yaku.{is_yakuman, yakuman}
use Rattle.points_fu.specs.Fu.{added, rounded}
use Rattle.points_fu.specs.search.Items.{earned}
use Rattle.points_value.specs.Value.{value_of}
use Rattle.points_value.proofs.Claims.{yakuman_pays_as_one}
use Rattle.points_value.proofs.laws.Claims.{fu_of_sum}
use Rattle.points_fu.proofs.laws.Up.{rounded_up}
use Rattle.score.specs.declared.Scored.{Scored}
use Rattle.score.specs.Named.{won_of, seats_of, full_reading_of, worth, Named, reported, six, seven}
use Rattle.score.specs.IsScore.{IsScore, eight, unreadable, read}
use Rattle.score.specs.Score.{score_of}
use Rattle.score.proofs.laws.One.{is_score}

-- ---- with a yakuman "h and fu are 0"

none_listed : {A : Type 0} → is_yakuman (replicate 37 false) ≡ true → A
unfolding is_yakuman
none_listed e = absurd (false≢true e)

module _ (h : Hand) (dealer wind : ℕ) where
  named_zero : {a : Scored} → Named h dealer wind a → is_yakuman a.yaku ≡ true → a.fu.0 ≡ 0
  unfolding worth value_of
  named_zero (reported r i) e = (yakuman_pays_as_one (won_of h dealer wind) (full_reading_of h r) (dora_of h.fields.indicator) (seats_of h dealer) e).1
  named_zero (six n) e = none_listed e
  named_zero (seven q i n) e = none_listed e

module _ (s : List ℕ) (dealer wind : ℕ) where
  is_zero : {a : Scored} → IsScore s dealer wind a → is_yakuman a.yaku ≡ true → a.fu.0 ≡ 0
  is_zero (eight o) e = none_listed e
  is_zero (unreadable d w n r) e = none_listed e
  is_zero (read d w f r n) e = named_zero _ dealer wind n e

  pub yakuman_zero : is_yakuman (score_of s dealer wind).yaku ≡ true → (score_of s dealer wind).fu.0 ≡ 0
  yakuman_zero = is_zero (is_score s dealer wind)

-- ---- and without one an accepted hand has fu

base_le : (w : Won) (p : FullReading) → 20 ≤ added (earned w p 0)
unfolding added earned
base_le w p = omega arith

some_fu : (w : Won) (p : FullReading) (seven : Bool) → 0 < cond seven 25 (rounded w.closed (added (earned w p 0)))
some_fu w p true = omega arith
some_fu w p false = omega (arith, rounded_up w.closed (added (earned w p 0)), base_le w p)

module _ (h : Hand) (dealer wind : ℕ) where
  plain_fu : (r : Reading) → yakuman (won_of h dealer wind) (full_reading_of h r) ≡ false → 0 < (worth h dealer wind r).fu.0
  unfolding worth
  plain_fu r e =
      let w = won_of h dealer wind in
      rw (fu_of_sum w (full_reading_of h r) (dora_of h.fields.indicator) (seats_of h dealer), e)
      (some_fu w (full_reading_of h r) (eqb (full_reading_of h r).shape 1))

  worth_yakuman : (r : Reading) → (worth h dealer wind r).fu.0 ≡ 0 → is_yakuman (worth h dealer wind r).yaku ≡ true
  unfolding worth value_of
  worth_yakuman r z = go (yakuman (won_of h dealer wind) (full_reading_of h r)) refl
    where
      go : (b : Bool) → yakuman (won_of h dealer wind) (full_reading_of h r) ≡ b → b ≡ true
      go true e = refl
      go false e = absurd (omega (arith, plain_fu r e))

  named_yakuman : {a : Scored} → Named h dealer wind a → a.refusal ≡ 0 → a.fu.0 ≡ 0 → is_yakuman a.yaku ≡ true
  named_yakuman (reported r i) e z = worth_yakuman r z
  named_yakuman (six n) e z = absurd (omega arith)
  named_yakuman (seven q i n) e z = absurd (omega arith)

module _ (s : List ℕ) (dealer wind : ℕ) where
  is_yakuman_lem : {a : Scored} → IsScore s dealer wind a → a.refusal ≡ 0 → a.fu.0 ≡ 0 → is_yakuman a.yaku ≡ true
  is_yakuman_lem (eight o) e z = absurd (omega arith)
  is_yakuman_lem (unreadable d w n r) e z = absurd (omega (arith, refused_number s n r))
  is_yakuman_lem (read d w f r n) e z = named_yakuman _ dealer wind n e z

  pub zero_yakuman : (score_of s dealer wind).refusal ≡ 0 → (score_of s dealer wind).fu.0 ≡ 0 → is_yakuman (score_of s dealer wind).yaku ≡ true
  zero_yakuman = is_yakuman_lem (is_score s dealer wind)
