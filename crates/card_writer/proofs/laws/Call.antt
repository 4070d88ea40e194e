-- The call refuses, or writes the list: each return of the code is one of these.
use Rattle.std.specs.Prelude.{◌≡◌, refl, Bool, true, false, ◌||◌, ℕ, ◌+◌, ◌-◌, ◌*◌, ◌/◌, ◌≤◌, ◌<◌, eqb, length, take, drop, replicate}
use Rattle.std.proofs.Common.{ap, ◌∙◌, arith, lt-ltb, le-ltb, eqb-true}
use mathlib.Core.List.{List, [], ◌∷◌, ◌++◌, flatten}
use Rattle.std.proofs.Math.Nat.{sub_self}
use Rattle.std.proofs.lemmas.List.Edits.{sets-eq}
use Rattle.reading.specs.search.Readings.{concat_map}
use Rattle.text.specs.Put.{Put}
use Rattle.cards.specs.CardList.{cards_of, card_bytes}
use Rattle.cards.proofs.laws.One.{only_cards}
use Rattle.cards.specs.search.Draws.{drawn}
use Rattle.cards.proofs.laws.Exact.{card_list_drawn}
use Rattle.card_counts.proofs.laws.Count.{whole}
use Rattle.card_writer.specs.Call.{is_size, refuses, refused_cards, answer_of, card_buffer}
use Rattle.card_writer.specs.search.Written.{with_prefix, written, counted}

-- what is known of an accepted size
pub record Known (size : ℕ) : Type 0 where
  pub many : 2 ≤ size
  pub few : size ≤ 8
  pub sized : is_size size ≡ true

pub known : (size : ℕ) → is_size size ≡ true → Known size
known size e = go (eqb size 2) (eqb size 5) refl refl e
  where
    go : (a b : Bool) → eqb size 2 ≡ a → eqb size 5 ≡ b → a || b || eqb size 8 ≡ true → Known size
    go true b p q r = let z = eqb-true size 2 p in record { many = omega arith; few = omega arith; sized = e }
    go false true p q r = let z = eqb-true size 5 q in record { many = omega arith; few = omega arith; sized = e }
    go false false p q r = let z = eqb-true size 8 r in record { many = omega arith; few = omega arith; sized = e }

-- what is counted from no tile on is the number of sets
pub count_all : (suit size : ℕ) → suit ≤ 2 → counted ((size - 2) / 3) size (9 * suit + 9) (9 * suit) (replicate 34 0) ≡ length (cards_of suit size)
unfolding counted drawn
count_all suit size h =
    let j : 9 * suit + 9 - 9 * suit ≡ 9 = omega arith in
    rw j (ap length (only_cards suit size (drawn suit size) (card_list_drawn suit size h)))

-- ---- refused
abbrev Kept : ℕ → ℕ → List ℕ → Type 0
Kept suit size buf = (refused_cards ≡ answer_of suit size (length buf)) × (buf ≡ card_buffer suit size buf)

kept : (suit size : ℕ) (buf : List ℕ) → refuses suit size (length buf) ≡ true → Kept suit size buf
unfolding answer_of card_buffer
kept suit size buf e = (rw e, rw e)

pub kept_suit : (suit size : ℕ) (buf : List ℕ) → 2 < suit → Kept suit size buf
unfolding refuses
kept_suit suit size buf h = kept suit size buf (rw (lt-ltb 2 suit h))

pub kept_size : (suit size : ℕ) (buf : List ℕ) → suit ≤ 2 → is_size size ≡ false → Kept suit size buf
unfolding refuses
kept_size suit size buf h e = kept suit size buf (rw (le-ltb 2 suit h, e))

pub kept_short : (suit size : ℕ) (buf : List ℕ) → suit ≤ 2 → Known size → length buf < size * length (cards_of suit size) → Kept suit size buf
unfolding refuses
kept_short suit size buf h k l =
    kept suit size buf (rw (le-ltb 2 suit h, k.sized, whole suit size, lt-ltb (length buf) (size * length (cards_of suit size)) l))

-- ---- accepted
one_after_another : (x : List (List ℕ)) → concat_map (λ (l : List ℕ). l) x ≡ flatten x
unfolding concat_map flatten
one_after_another [] = refl
one_after_another (l ∷ x) = rw (one_after_another x)

-- what is drawn from no tile on is the whole list
pub all_drawn : (suit size : ℕ) (prefix : List ℕ) → suit ≤ 2
    → written (take (size - size) prefix) ((size - 2) / 3) size (9 * suit + 9) (9 * suit) (replicate 34 0) ≡ card_bytes suit size
unfolding written with_prefix card_bytes drawn
all_drawn suit size prefix h =
    let z : size - size ≡ 0 = sub_self size in
    let j : 9 * suit + 9 - 9 * suit ≡ 9 = omega arith in
    rw (z, j) (one_after_another (drawn suit size) ∙ ap flatten (only_cards suit size (drawn suit size) (card_list_drawn suit size h)))

pub put_all : (suit size : ℕ) (buf new : List ℕ) (r c : ℕ) → suit ≤ 2 → Known size → c ≡ length (cards_of suit size)
    → size * length (cards_of suit size) ≤ length buf
    → Put buf 0 (card_bytes suit size) new r
    → (record { refusal = 0; count = c } ≡ answer_of suit size (length buf)) × (new ≡ card_buffer suit size buf)
unfolding refuses answer_of card_buffer
put_all suit size buf new r c h k m l p =
    let w = whole suit size in
    let e = le-ltb (length buf) (size * length (cards_of suit size)) l in
    let t = card_bytes suit size in
    let q : 0 + length t ≡ size * length (cards_of suit size) = omega arith in (
      rw (le-ltb 2 suit h, k.sized, w, e, m),
      rw (le-ltb 2 suit h, k.sized, w, e) (p.bytes ∙ sets-eq t buf 0 (omega arith) ∙ ap (λ (m : ℕ). t ++ drop m buf) q),
    )
