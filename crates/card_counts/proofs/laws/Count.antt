-- How many cards there are: computed in the first suit, and the same in each.
use Rattle.std.specs.Prelude.{◌≡◌, refl, ℕ, suc, ◌+◌, ◌-◌, ◌*◌, ◌≤◌, ◌<◌, length, get_or, replicate}
use Rattle.std.proofs.Common.{sym, ap, ◌∙◌, mul-suc, arith, lt-ltb, length-append}
use mathlib.Core.List.{List, [], ◌∷◌, map, flatten}
use Rattle.std.proofs.lemmas.List.{length-map}
use Rattle.tiles.specs.Below.{all_below}
use Rattle.tiles.specs.Groups.{is_group}
use Rattle.tiles.specs.Tally.{more}
use Rattle.reading.specs.search.Readings.{is_empty, less, fits, without}
use Rattle.reading.specs.All.{Each, none, also as each}
use Rattle.reading_splits.specs.search.SplitsInto.{lowest, piece_at, splits_into}
use Rattle.cards.specs.CardList.{cards_of, card_bytes}
use Rattle.cards.proofs.laws.One.{cards_exactly, only_cards}
use Rattle.cards.specs.search.Draws.{draw, draws, drawn}
use Rattle.cards.proofs.laws.Exact.{card_list_drawn}
use Rattle.card_counts.proofs.laws.Shift.{count_alike, all_members}

-- those that begin with the kind a, and those from the next kind on
draws_count : (n m j a : ℕ) (t : List ℕ) → get_or t a 0 < 4 → length (draws n (suc m) (suc j) a t)
    ≡ length (draws n m (suc j) a (more t a 1)) + length (draws n (suc m) j (a + 1) t)
unfolding draws draw
draws_count n m j a t h =
    let x = draws n m (suc j) a (more t a 1) in
    let y = draw (draws n m) j (a + 1) t in
    rw (lt-ltb (get_or t a 0) 4 h) (length-append (map (λ (l : List ℕ). a ∷ l) x) y ∙ ap (λ (n : ℕ). n + length y) (length-map x (λ (l : List ℕ). a ∷ l)))

-- ---- the first suit. Cards of eight tiles are counted by their first tile, since one computation of all would take 2 GB
abbrev From : ℕ → ℕ
From a = length (draws 2 7 (9 - a) a (more (replicate 34 0) a 1))

first_0 : From 0 ≡ 334
unfolding all_below is_group more is_empty less fits without lowest piece_at splits_into draw draws
first_0 = refl

first_1 : From 1 ≡ 250
unfolding all_below is_group more is_empty less fits without lowest piece_at splits_into draw draws
first_1 = refl

first_others : (From 2 ≡ 178) × (From 3 ≡ 118) × (From 4 ≡ 70) × (From 5 ≡ 34) × (From 6 ≡ 12) × (From 7 ≡ 0) × (From 8 ≡ 0)
unfolding all_below is_group more is_empty less fits without lowest piece_at splits_into draw draws
first_others = (refl, refl, refl, refl, refl, refl, refl)

-- no kind is left
past : length (draws 2 8 0 9 (replicate 34 0)) ≡ 0
unfolding draws draw
past = refl

eights : length (drawn 0 8) ≡ 996
unfolding drawn
eights =
    let step : (j a : ℕ) → ◌<◌ (get_or (replicate 34 0) a 0) 4 → length (draws 2 8 (suc j) a (replicate 34 0))
    ≡ length (draws 2 7 (suc j) a (more (replicate 34 0) a 1)) + length (draws 2 8 j (a + 1) (replicate 34 0)) = λ j a h. draws_count 2 7 j a
    (replicate 34 0) h in
    let lt : 0 < 4 = omega arith in
    let rest = first_others in
    omega (
      arith,
      step 8 0 lt,
      step 7 1 lt,
      step 6 2 lt,
      step 5 3 lt,
      step 4 4 lt,
      step 3 5 lt,
      step 2 6 lt,
      step 1 7 lt,
      step 0 8 lt,
      first_0,
      first_1,
      rest.0,
      rest.1,
      rest.2,
      rest.3,
      rest.4,
      rest.5,
      rest.6,
      past,
    )

fives : (length (drawn 0 2) ≡ 9) × (length (drawn 0 5) ≡ 135)
unfolding all_below is_group more is_empty less fits without lowest piece_at splits_into draw draws drawn
fives = (refl, refl)

-- ---- each suit
as_drawn : (suit size : ℕ) → suit ≤ 2 → length (cards_of suit size) ≡ length (drawn 0 size)
as_drawn suit size h = count_alike suit size h ∙ ap length (sym (only_cards 0 size (drawn 0 size) (card_list_drawn 0 size (omega arith))))

pub counted : (suit : ℕ) → suit ≤ 2 → (length (cards_of suit 2) ≡ 9) × (length (cards_of suit 5) ≡ 135) × (length (cards_of suit 8) ≡ 996)
counted suit h = (as_drawn suit 2 h ∙ fives.0, as_drawn suit 5 h ∙ fives.1, as_drawn suit 8 h ∙ eights)

-- lists of one length, one after the other
flatten_long : (m : ℕ) (x : List (List ℕ)) → Each (λ l. length l ≡ m) x → length (flatten x) ≡ m * length x
unfolding flatten
flatten_long m [] none = omega arith
flatten_long m (l ∷ x) (each p r) = rw (length-append, p, flatten_long m x r, mul-suc) (omega arith)

-- the whole list has the tiles of each set
pub whole : (suit size : ℕ) → length (card_bytes suit size) ≡ size * length (cards_of suit size)
unfolding card_bytes
whole suit size = flatten_long size (cards_of suit size) (all_members (cards_of suit size) (λ l m. ((cards_exactly suit size).only l m).tiles))

pub bytes : (suit : ℕ) → suit ≤ 2 → (length (card_bytes suit 2) ≡ 18) × (length (card_bytes suit 5) ≡ 675) × (length (card_bytes suit 8) ≡ 7968)
bytes suit h =
    let c = counted suit h in
    (omega (arith, whole suit 2, c.0), omega (arith, whole suit 5, c.1), omega (arith, whole suit 8, c.2))
