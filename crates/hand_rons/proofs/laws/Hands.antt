-- The hands of records in an array of three: how it is filled, record by record, and what three places say of all records.
use Rattle.std.specs.Prelude.{◌≡◌, refl, Bool, true, false, not, ◌&&◌, ◌||◌, ltb, eqb, length, get_or, drop, set}
use Rattle.std.proofs.Math.Path.{sym, ap}
use Rattle.std.proofs.Common.{◌∙◌, length-take, length-drop, take_all, length-take-le, take-suc-set, drop-drop, get_or-take}
use mathlib.Core.List.{List, [], ◌∷◌, ◌++◌, map, append-nil, append_assoc}
use Prim.Native.Nat.{ℕ, zero, suc, ◌+◌, ◌-◌, ◌≤◌, ◌<◌}
use native.Mathlib.Omega.{arith}
use Rattle.std.proofs.Math.ListN.{take, length-set, get_or-map}
use Rattle.std.proofs.lemmas.List.{length-map}
use Rattle.hand.specs.declared.Fields.{Fields}
use Rattle.hand.specs.declared.Hand.{Hand}
use Rattle.hand.specs.Hand.{is_ron}
use Rattle.hand_rons.specs.Records.{First, hand_for, records_of, first_unreadable, conflict, conflicts, not_on_one_tile, is_winner, IsFirst}
use Rattle.hand_rons.proofs.laws.OneTile.{records_length_lem}

-- ---- the array is filled

-- after i of n records of s, the next from byte p on, with k left: they have read, and their hands are the first i of hs
pub record Filled (n : ℕ) (s : List ℕ) (hs : List Hand) (k i p : ℕ) : Type 0 where
  pub number : i + k ≡ n
  pub inside : p ≤ length s
  pub three : length hs ≡ 3
  pub unreadable : first_unreadable (records_of k (drop p s)) ≡ first_unreadable (records_of n s)
  pub hands : take i hs ++ map hand_for (records_of k (drop p s)) ≡ map hand_for (records_of n s)

pub filled_none : (n : ℕ) (s : List ℕ) (hs : List Hand) → length hs ≡ 3 → Filled n s hs n 0 0
filled_none n s hs l = record { number = omega arith; inside = omega arith; three = l; unreadable = refl; hands = refl }

module _ (n : ℕ) (s : List ℕ) (hs : List Hand) (k i p : ℕ) (f : Filled n s hs k i p) where
  -- the bytes from p on, as the code takes them
  abbrev rest : List ℕ
  rest = take (length s - p) (drop p s)

  all_left : rest ≡ drop p s
  all_left = take_all (length s - p) (drop p s) (omega (arith, length-drop p s))

  -- no record is left
  pub filled_all : k ≤ 0 → (0 ≡ first_unreadable (records_of n s)) × (map hand_for (records_of n s) ≡ take n hs)
  unfolding records_of first_unreadable
  filled_all z =
      let e : k ≡ 0 = omega arith in
      let m : i ≡ n = omega (arith, f.number) in (
        ap (λ (j : ℕ). first_unreadable (records_of j (drop p s))) (sym e) ∙ f.unreadable,
        sym f.hands ∙ ap (λ (j : ℕ). take i hs ++ map hand_for (records_of j (drop p s))) e ∙ append-nil (take i hs) ∙ ap (λ (j : ℕ). take j hs) m,
      )

  module _ (r : First) (w : IsFirst k rest r) where
    -- the next does not read
    pub filled_unreadable : 0 < r.refusal → r.refusal ≡ first_unreadable (records_of n s)
    filled_unreadable l = sym (w.refused l) ∙ ap (λ (t : List ℕ). first_unreadable (records_of k t)) all_left ∙ f.unreadable

    pub filled_inside : p + r.end ≤ length s
    filled_inside = omega (arith, w.inside, f.inside, ap length all_left, length-drop p s)

    -- the next reads
    pub filled_more : r.refusal ≡ 0 → 0 < k → i < 3 → Filled n s (set hs i r.hand) (k - 1) (i + 1) (p + r.end)
    unfolding first_unreadable
    filled_more z l q =
        let x = take r.end rest in
        let more : records_of k (drop p s) ≡ x ∷ records_of (k - 1) (drop (p + r.end) s) =
        ap (records_of k) (sym all_left) ∙ w.others z ∙ ap (λ (t : List ℕ). x ∷ records_of (k - 1) (drop r.end t)) all_left
        ∙ ap (λ (t : List ℕ). x ∷ records_of (k - 1) t) (drop-drop r.end p s) in
        let others = records_of (k - 1) (drop (p + r.end) s) in
        let one : i + 1 ≡ suc i = omega arith in
        record {
          number = omega (arith, f.number);
          inside = filled_inside;
          three = length-set hs i r.hand ∙ f.three;
          unreadable = rw (w.reads z) at (ap first_unreadable (sym more)) ∙ f.unreadable;
          hands =
              ap (λ (j : ℕ). take j (set hs i r.hand) ++ map hand_for others) one
              ∙ ap (λ (t : List Hand). t ++ map hand_for others) (take-suc-set hs i r.hand (omega (arith, f.three)))
              ∙ append_assoc (take i hs) (r.hand ∷ []) (map hand_for others)
              ∙ ap (λ (h : Hand). take i hs ++ h ∷ map hand_for others) (w.hand z)
              ∙ ap (λ (t : List (List ℕ)). take i hs ++ map hand_for t) (sym more)
              ∙ f.hands;
        }

-- ---- three places

-- what an array of hands holds past its end
abbrev pub blank : Hand
blank = record {
  fields = record { how = 0; winner = 0; discarder = 0; riichi = 0; situation = 0; indicator = 0; winning = 0 };
  held = record { m = 0; melds = []; concealed = [] };
}

inside_any : (l : List Hand) (i : ℕ) (d e : Hand) → i < length l → get_or l i d ≡ get_or l i e
inside_any [] i d e h = absurd (omega arith)
inside_any (x ∷ l) zero d e h = refl
inside_any (x ∷ l) (suc i) d e h = inside_any l i d e (omega arith)

-- n records have n hands
pub room_for : (n : ℕ) (hs : List Hand) (s : List ℕ) → map hand_for (records_of n s) ≡ take n hs → n ≤ length hs
room_for n hs s e =
    let m : n ≡ length (take n hs) = sym (records_length_lem n s) ∙ sym (length-map (records_of n s) hand_for) ∙ ap (λ (l : List Hand). length l) e in
    omega (arith, m, length-take n hs)

-- records with the first n hands
module _ (n : ℕ) (hs : List Hand) (room : n ≤ length hs) (rs : List (List ℕ)) (e : map hand_for rs ≡ take n hs) where
  pub that_number : length rs ≡ n
  that_number = sym (length-map rs hand_for) ∙ ap (λ (l : List Hand). length l) e ∙ length-take-le n hs room

  pub hand_at_lem : (i : ℕ) → i < n → get_or hs i blank ≡ hand_for (get_or rs i [])
  hand_at_lem i l =
      inside_any hs i blank (hand_for []) (omega arith) ∙ sym (get_or-take n hs i (hand_for []) l)
      ∙ ap (λ (t : List Hand). get_or t i (hand_for [])) (sym e) ∙ get_or-map hand_for rs i []

-- the seat wins one of them
abbrev pub wins_one : ℕ → (ℕ → Hand) → ℕ → Bool
wins_one n at seat = eqb (at 0).fields.winner seat || (ltb 1 n && eqb (at 1).fields.winner seat) || (ltb 2 n && eqb (at 2).fields.winner seat)

-- one of them is not ron, or two conflict
abbrev pub not_on_one_tile_of : ℕ → (ℕ → Fields) → Bool
not_on_one_tile_of n at =
    not (is_ron (at 0)) || (ltb 1 n && conflict (at 0) (at 1)) || (ltb 2 n && conflict (at 0) (at 2))
    || (ltb 1 n && not (is_ron (at 1))) || (ltb 2 n && conflict (at 1) (at 2)) || (ltb 2 n && not (is_ron (at 2)))

wins_1 : (a : Bool) → a || false || false ≡ a || false
wins_1 true = refl
wins_1 false = refl

wins_2 : (a b : Bool) → a || b || false ≡ a || (b || false)
wins_2 true b = refl
wins_2 false true = refl
wins_2 false false = refl

wins_3 : (a b c : Bool) → a || b || c ≡ a || (b || (c || false))
wins_3 true b c = refl
wins_3 false true c = refl
wins_3 false false true = refl
wins_3 false false false = refl

wins_one_lem : (at : ℕ → Hand) (seat : ℕ) (rs : List (List ℕ)) → 0 < length rs → length rs ≤ 3 → ((i : ℕ) → i < length rs → at i ≡ hand_for (get_or rs i []))
    → wins_one (length rs) at seat ≡ is_winner rs seat
unfolding is_winner
wins_one_lem at seat [] l m h = absurd (omega arith)
wins_one_lem at seat (r ∷ []) l m h = rw (h 0 (omega arith)) (wins_1 (eqb (hand_for r).fields.winner seat))
wins_one_lem at seat (r ∷ s ∷ []) l m h =
    rw (h 0 (omega arith), h 1 (omega arith)) (wins_2 (eqb (hand_for r).fields.winner seat) (eqb (hand_for s).fields.winner seat))
wins_one_lem at seat (r ∷ s ∷ t ∷ []) l m h =
    rw (h 0 (omega arith), h 1 (omega arith), h 2 (omega arith))
    (wins_3 (eqb (hand_for r).fields.winner seat) (eqb (hand_for s).fields.winner seat) (eqb (hand_for t).fields.winner seat))
wins_one_lem at seat (r ∷ s ∷ t ∷ u ∷ rs) l m h = absurd (omega arith)

rons_1 : (a : Bool) → a || false || false || false || false || false ≡ a || false || false
rons_1 true = refl
rons_1 false = refl

rons_2 : (a b c : Bool) → a || b || false || c || false || false ≡ a || (b || false) || (c || false || false)
rons_2 true b c = refl
rons_2 false true c = refl
rons_2 false false true = refl
rons_2 false false false = refl

rons_3 : (a b c d e f : Bool) → a || b || c || d || e || f ≡ a || (b || (c || false)) || (d || (e || false) || (f || false || false))
rons_3 true b c d e f = refl
rons_3 false true c d e f = refl
rons_3 false false true d e f = refl
rons_3 false false false true e f = refl
rons_3 false false false false true f = refl
rons_3 false false false false false true = refl
rons_3 false false false false false false = refl

not_on_one_tile_lem : (at : ℕ → Fields) (rs : List (List ℕ)) → 0 < length rs → length rs ≤ 3 → ((i : ℕ) → i < length rs → at i ≡ (hand_for (get_or rs i [])).fields)
    → not_on_one_tile_of (length rs) at ≡ not_on_one_tile rs
unfolding not_on_one_tile conflicts
not_on_one_tile_lem at [] l m h = absurd (omega arith)
not_on_one_tile_lem at (r ∷ []) l m h = rw (h 0 (omega arith)) (rons_1 (not (is_ron (hand_for r).fields)))
not_on_one_tile_lem at (r ∷ s ∷ []) l m h =
    let f = (hand_for r).fields in
    let g = (hand_for s).fields in
    rw (h 0 (omega arith), h 1 (omega arith)) (rons_2 (not (is_ron f)) (conflict f g) (not (is_ron g)))
not_on_one_tile_lem at (r ∷ s ∷ t ∷ []) l m h =
    let f = (hand_for r).fields in
    let g = (hand_for s).fields in
    let k = (hand_for t).fields in
    rw (h 0 (omega arith), h 1 (omega arith), h 2 (omega arith))
    (rons_3 (not (is_ron f)) (conflict f g) (conflict f k) (not (is_ron g)) (conflict g k) (not (is_ron k)))
not_on_one_tile_lem at (r ∷ s ∷ t ∷ u ∷ rs) l m h = absurd (omega arith)

-- of n records, by the first three places
module _ (n : ℕ) (hs : List Hand) (some : 1 ≤ n) (few : n ≤ 3) (room : n ≤ length hs) (rs : List (List ℕ)) (e : map hand_for rs ≡ take n hs) where
  total : length rs ≡ n
  total = that_number n hs room rs e

  at_place : (i : ℕ) → i < length rs → get_or hs i blank ≡ hand_for (get_or rs i [])
  at_place i l = hand_at_lem n hs room rs e i (omega (arith, total))

  pub wins_is : (seat : ℕ) → wins_one n (λ i. get_or hs i blank) seat ≡ is_winner rs seat
  wins_is seat =
      ap (λ (j : ℕ). wins_one j (λ i. get_or hs i blank) seat) (sym total)
      ∙ wins_one_lem (λ i. get_or hs i blank) seat rs (omega (arith, total)) (omega (arith, total)) at_place

  pub not_on_one_tile_is : not_on_one_tile_of n (λ i. (get_or hs i blank).fields) ≡ not_on_one_tile rs
  not_on_one_tile_is =
      ap (λ (j : ℕ). not_on_one_tile_of j (λ i. (get_or hs i blank).fields)) (sym total)
      ∙ not_on_one_tile_lem (λ i. (get_or hs i blank).fields) rs (omega (arith, total)) (omega (arith, total)) (λ i l. ap (λ (h : Hand). h.fields) (at_place i l))
