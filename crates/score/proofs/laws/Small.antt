-- h and fu of every score are small.
use Rattle.std.specs.Prelude.{◌≡◌, refl, Bool, true, false, not, ◌&&◌, cond, List, ℕ, ◌+◌, ◌*◌, ◌-◌, ◌/◌, ◌≤◌, ◌<◌, eqb, ltb, length, get_or}
use Rattle.std.proofs.Common.{arith, ltb-true, ltb-false}
use Rattle.std.proofs.Math.ListN.{get_or-eq_default}
use Rattle.tiles.specs.Below.{count_below}
use Rattle.tiles.specs.Kinds.{dora_of, is_yaochu}
use Rattle.tiles.specs.Groups.{at_kind, is_triplet}
use Rattle.tiles.specs.Tally.{tally_of}
use Rattle.tiles.proofs.laws.Below.{cond_le, total_le, number_le}
use Rattle.tiles.proofs.laws.Tally.{length_tally, get_d_tally}
use Rattle.hand.specs.declared.Held.{Held}
use Rattle.hand.specs.declared.Hand.{Hand}
use Rattle.hand.specs.Held.{meld_kind, meld_tile, meld_holds, others, in_melds, in_others, in_held}
use Rattle.hand.specs.Hand.{in_hand, hand_tally}
use Rattle.reading.specs.declared.Reading.{Reading}
use Rattle.yaku_basics.specs.Tests.{has, dragons, little_dragons, value_han, is_value}
use Rattle.yaku.specs.declared.Won.{Won}
use Rattle.yaku.specs.declared.FullReading.{FullReading}
use Rattle.yaku.specs.Yaku.{value_han_of, has_wait_fu, pinfu, yaku_of, yakuman}
use Rattle.points.specs.declared.Seats.{Seats}
use Rattle.points_value.specs.Han.{yaku_han, han_of}
use Rattle.points_fu.specs.Fu.{triplet_fu, group_fu, added, rounded}
use Rattle.points_fu.specs.search.Items.{items_by, earned}
use Rattle.points_value.specs.Value.{value_of}
use Rattle.points_value.proofs.laws.Claims.{fu_of_sum}
use Rattle.points_value.proofs.laws.Han.{fixed_han, han_by, values_apart, han_at}
use Rattle.score.specs.declared.Scored.{Scored}
use Rattle.score.specs.Named.{won_of, seats_of, full_reading_of, worth, Named, reported, six, seven}
use Rattle.score.specs.IsScore.{IsScore, eight, unreadable, read}
use Rattle.score.specs.Score.{score_of}
use Rattle.score.proofs.laws.One.{is_score}

-- ---- h

one_le : (b : Bool) → cond b 1 0 ≤ 1
one_le b = cond_le b 1 0 1 (omega arith) (omega arith)

dragons_le : (g : List ℕ) → dragons g ≤ 3
unfolding count_below
dragons_le g = number_le (λ d. has g (65 + d)) 3

value_han_le : (g : List ℕ) (round own : ℕ) (little : Bool) → value_han g round own little ≤ 5
unfolding value_han
value_han_le g round own little =
    omega (arith, cond_le little 0 (dragons g) 3 (omega arith) (dragons_le g), one_le (has g (34 + round)), one_le (has g (34 + own)))

yaku_han_le : (y : List Bool) (closed : Bool) (values : ℕ) → values ≤ 5 → yaku_han y closed values ≤ 227
unfolding han_by
yaku_han_le y closed values h =
    let han = fixed_han closed in
    omega (
      arith,
      values_apart y closed values,
      total_le (λ n. cond (get_or y n false) (get_or han n 0) 0) 6 37 (λ i l. cond_le (get_or y i false) (get_or han i 0) 0 6 (han_at closed i l).1 (omega arith)),
      cond_le (get_or y 3 false) values 0 5 h (omega arith),
    )

-- ---- how many of a kind there are in a hand

at_le : (a n k : ℕ) → at_kind a n k ≤ n
unfolding at_kind
at_le a n k = cond_le (eqb a k) n 0 n (omega arith) (omega arith)

meld_le : (b k : ℕ) → meld_holds b k ≤ 4
unfolding meld_holds
meld_le b k =
    cond_le (eqb (meld_kind b) 0) _ _ 4 (omega (arith, at_le (meld_tile b) 1 k, at_le (meld_tile b + 1) 1 k, at_le (meld_tile b + 2) 1 k))
    (cond_le (eqb (meld_kind b) 1) (at_kind (meld_tile b) 3 k) (at_kind (meld_tile b) 4 k) 4 (omega (arith, at_le (meld_tile b) 3 k)) (at_le (meld_tile b) 4 k))

melds_le : (x : Held) (k : ℕ) → in_melds x k ≤ 16
unfolding in_melds
melds_le x k =
    let of : ℕ → ℕ = λ i. meld_holds (get_or x.melds i 0) k in
    let one : (i : ℕ) → cond (ltb i x.m) (of i) 0 ≤ 4 = λ i. cond_le (ltb i x.m) (of i) 0 4 (meld_le (get_or x.melds i 0) k) (omega arith) in
    omega (arith, one 0, one 1, one 2, one 3)

hand_le : (h : Hand) (k : ℕ) → in_hand h k ≤ 30
unfolding in_hand in_held in_others
hand_le h k =
    omega (arith, number_le (λ i. eqb (get_or h.held.concealed i 0) k) (others h.held), melds_le h.held k, at_le h.fields.winning 1 k)

tally_le : (h : Hand) (k : ℕ) → get_or (hand_tally h) k 0 ≤ 30
unfolding hand_tally
tally_le h k = go (ltb k 34) refl
  where
    go : (b : Bool) → ltb k 34 ≡ b → get_or (tally_of (in_hand h)) k 0 ≤ 30
    go true e = rw (get_d_tally (in_hand h) k (ltb-true k 34 e)) (hand_le h k)
    go false e =
        let l : length (tally_of (in_hand h)) ≤ k = omega (arith, length_tally (in_hand h), ltb-false k 34 e) in
        rw (get_or-eq_default (tally_of (in_hand h)) 0 l) (omega arith)

-- ---- fu

triplet_le : (way : ℕ) → triplet_fu way ≤ 16
unfolding triplet_fu
triplet_le way =
    cond_le (eqb way 0) 4 _ 16 (omega arith) (cond_le (eqb way 1) 2 _ 16 (omega arith) (cond_le (eqb way 2) 8 16 16 (omega arith) (omega arith)))

group_le : (c way : ℕ) → group_fu c way ≤ 32
unfolding group_fu
group_le c way =
    cond_le (is_triplet c) _ 0 32
    (cond_le (is_yaochu (c - 34)) (2 * triplet_fu way) (triplet_fu way) 32 (omega (arith, triplet_le way)) (omega (arith, triplet_le way))) (omega arith)

added_le : (w : Won) (p : FullReading) → added (earned w p 0) ≤ 164
unfolding added earned items_by
added_le w p =
    let g : (i : ℕ) → group_fu (get_or p.groups i 0) (get_or p.ways i 0) ≤ 32 = λ i. group_le (get_or p.groups i 0) (get_or p.ways i 0) in
    let two : (b : Bool) → cond b 2 0 ≤ 2 = λ b. cond_le b 2 0 2 (omega arith) (omega arith) in
    omega (
      arith,
      g 0,
      g 1,
      g 2,
      g 3,
      cond_le (w.closed && w.ron) 10 0 10 (omega arith) (omega arith),
      two (is_value w.round w.own p.pair),
      two (has_wait_fu w p),
      two (not w.ron && not (pinfu w p)),
    )

rounded_le : (closed : Bool) (n : ℕ) → rounded closed n ≤ n + 30
unfolding rounded
rounded_le closed n = cond_le (not closed && eqb ((n + 9) / 10 * 10) 20) 30 _ (n + 30) (omega arith) (omega arith)

-- ---- of a score

-- h and fu have at most three digits
abbrev pub Small : Scored → Type 0
Small a = (a.h.0 < 1000) × (a.fu.0 < 1000)

module _ (h : Hand) (dealer wind : ℕ) where
  han_le : (p : FullReading) (dora : ℕ) → han_of (won_of h dealer wind) p dora ≤ 257
  unfolding han_of won_of
  han_le p dora =
      let w = won_of h dealer wind in
      let values = yaku_han_le (yaku_of w p) w.closed (value_han_of w p) (value_han_le p.groups w.round w.own (little_dragons p.groups p.pair)) in
      cond_le (yakuman w p) 0 _ 257 (omega arith) (omega (arith, values, tally_le h dora))

  fu_le : (p : FullReading) (dora : ℕ) (s : Seats) → (value_of (won_of h dealer wind) p dora s).fu.0 ≤ 194
  fu_le p dora s =
      let w = won_of h dealer wind in
      rw (fu_of_sum w p dora s)
      (cond_le (yakuman w p) 0 _ 194 (omega arith)
      (cond_le (eqb p.shape 1) 25 _ 194 (omega arith) (omega (arith, rounded_le w.closed (added (earned w p 0)), added_le w p))))

  worth_small : (r : Reading) → ((worth h dealer wind r).han.0 < 1000) × ((worth h dealer wind r).fu.0 < 1000)
  unfolding worth value_of
  worth_small r =
      let dora = dora_of h.fields.indicator in
      let w = won_of h dealer wind in
      (omega (arith, han_le (full_reading_of h r) dora), omega (arith, fu_le (full_reading_of h r) dora (seats_of h dealer)))

  named_small : {a : Scored} → Named h dealer wind a → Small a
  named_small (reported r i) = worth_small r
  named_small (six n) = (omega arith, omega arith)
  named_small (seven q i n) = (omega arith, omega arith)

module _ (s : List ℕ) (dealer wind : ℕ) where
  is_small : {a : Scored} → IsScore s dealer wind a → Small a
  is_small (eight o) = (omega arith, omega arith)
  is_small (unreadable d w n e) = (omega arith, omega arith)
  is_small (read d w f e n) = named_small _ dealer wind n

  pub small : Small (score_of s dealer wind)
  small = is_small (is_score s dealer wind)
