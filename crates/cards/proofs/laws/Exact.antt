-- There is exactly one list of all cards of a suit and a size: what is drawn is one, and two such lists are the same.
use Rattle.std.specs.Prelude.{◌≡◌, Bool, true, false, ℕ, ◌+◌, ◌-◌, ◌*◌, ◌/◌, ◌≤◌, ◌<◌, ltb, get_or, replicate}
use Rattle.std.proofs.Math.Path.{refl}
use Rattle.std.proofs.Common.{sym, ◌∙◌, subst, ⊎_elim, le_refl, arith, ltb-true, ltb-false}
use mathlib.Core.List.Memᴰ
use mathlib.Core.List.{List, [], ◌∷◌, Memᴰ as Member}
use Rattle.std.proofs.lemmas.List.{length-replicate, get_or-replicate}
use Rattle.std.proofs.Math.ListN.{get_or-eq_default}
use Rattle.tiles.specs.Kinds.{in_suit}
use Rattle.tiles.proofs.laws.Tally.{of_kind}
use Rattle.reading.specs.Order.{Lex}
use Rattle.reading.specs.All.{Each, none, also as each, Pairwise, ended, first}
use Rattle.reading.proofs.laws.Lists.{each_imp, each_member}
use Rattle.reading.proofs.laws.Only.{lex_one_way}
use Rattle.reading.proofs.laws.Readings.{lex_irreflexive}
use Rattle.reading_splits.specs.Splits.{Splits}
use Rattle.cards.specs.Cards.{among, Card, IsCardList}
use Rattle.cards.specs.search.Draws.{drawn}
use Rattle.cards.proofs.laws.Tiles.{each_both, rising_each, rising_pairwise, pairwise_rising, among_kind, splits_cong, in_suit_lem, suit_in, tiles_of_groups}
use Rattle.cards.proofs.laws.Draws.{Ends, Fine, draws_sound, draws_complete, draws_ordered}

-- ---- what is drawn from no tile on
no_tile : (k : ℕ) → ◌≡◌ {A = ℕ} (get_or (replicate 34 0) k 0) 0
no_tile k = go (ltb k 34) refl
  where
    go : (b : Bool) → ltb k 34 ≡ b → ◌≡◌ {A = ℕ} (get_or (replicate 34 0) k 0) 0
    go true e = get_or-replicate 34 k 0 0 (ltb-true k 34 e)
    go false e = get_or-eq_default {A = ℕ} (replicate 34 0) 0 {n = k} (ltb-false k 34 e)

module _ (suit size : ℕ) (h : suit ≤ 2) where
  fine_none : Fine (9 * suit + 9) (replicate 34 0)
  fine_none = record { long = length-replicate {A = ℕ} 34 0; last = omega arith; four = λ k. omega (arith, no_tile k) }

  abbrev Drawn : List ℕ → Type 0
  Drawn l = Ends ((size - 2) / 3) (9 * suit + 9) (9 * suit) (replicate 34 0) size l

  card_of : (l : List ℕ) → Drawn l → Card suit size l
  card_of l s =
      record {
        tiles = s.size;
        suited = each_imp (λ k q. in_suit_lem suit k h q.0 q.1) (each_both (rising_each (9 * suit) (9 * suit) l (le_refl _) s.order) s.kinds);
        four = λ k. omega (arith, s.four k, no_tile k, among_kind l k);
        splits = ((size - 2) / 3, splits_cong (λ k. omega (arith, no_tile k, among_kind l k)) s.splits);
        ascending = rising_pairwise (9 * suit) l s.order;
      }

  drawn_of : (l : List ℕ) → Card suit size l → Drawn l
  drawn_of l c =
      let s : Splits c.splits.0 (of_kind l) = splits_cong (λ k. sym (among_kind l k)) c.splits.1 in
      let e = tiles_of_groups 34 c.splits.0 l (each_imp (λ k q. omega (arith, suit_in suit k q)) c.suited) s in
      let n : c.splits.0 ≡ (size - 2) / 3 = omega (arith, c.tiles) in
      record {
        size = c.tiles;
        order = pairwise_rising (9 * suit) l (each_imp (λ k q. (suit_in suit k q).0) c.suited) c.ascending;
        kinds = each_imp (λ k q. (suit_in suit k q).1) c.suited;
        four = λ k. omega (arith, c.four k, no_tile k, among_kind l k);
        splits = splits_cong (λ k. omega (arith, no_tile k)) (subst (λ (m : ℕ). Splits m (of_kind l)) n s);
      }

  pub card_list_drawn : IsCardList suit size (drawn suit size)
  unfolding drawn
  card_list_drawn =
      let n = (size - 2) / 3 in
      record {
        order = draws_ordered n (9 * suit + 9) size 9 (9 * suit) (replicate 34 0) refl fine_none;
        every = λ l c. draws_complete n (9 * suit + 9) size 9 (9 * suit) (replicate 34 0) l refl fine_none (drawn_of l c);
        only = λ l m. card_of l (each_member (draws_sound n (9 * suit + 9) size 9 (9 * suit) (replicate 34 0) refl fine_none) m);
      }

-- ---- past the suits there is none
no_card : (suit size : ℕ) → 2 < suit → (l : List ℕ) → Card suit size l → ⊥
unfolding among
no_card suit size h [] c = omega (arith, tiles_of_groups 34 c.splits.0 [] none (splits_cong (λ k. sym (among_kind [] k)) c.splits.1))
no_card suit size h (x ∷ l) c = go c.suited
  where
    go : Each (λ k. in_suit suit k ≡ true) (x ∷ l) → ⊥
    go (each p r) = omega (arith, suit_in suit x p)

pub card_list_none : (suit size : ℕ) → 2 < suit → IsCardList suit size []
card_list_none suit size h = record { order = ended; every = λ l c. absurd (no_card suit size h l c); only = λ l m. absurd (Memᴰ.not-nil m) }

-- ---- two lists in ascending order with the same elements are one list
abbrev Within : List (List ℕ) → List (List ℕ) → Type 0
Within x y = (l : List ℕ) → Member l x → Member l y

same_first : (a b : List ℕ) (x y : List (List ℕ)) → Each (Lex a) x → Each (Lex b) y → Member a (b ∷ y) → Member b (a ∷ x) → a ≡ b
same_first a b x y p q m n =
    ⊎_elim (λ e. e) (λ i. ⊎_elim (λ e. sym e) (λ j. absurd (lex_one_way a b (each_member p j) (each_member q i))) (Memᴰ.cases_cons n))
    (Memᴰ.cases_cons m)

past_first : (a b : List ℕ) (x y : List (List ℕ)) → Each (Lex a) x → a ≡ b → Within (a ∷ x) (b ∷ y) → Within x y
past_first a b x y p e h l m =
    ⊎_elim (λ q. absurd (lex_irreflexive a (subst (Lex a) (q ∙ sym e) (each_member p m)))) (λ i. i) (Memᴰ.cases_cons (h l (Member.tail m)))

same_list : (x y : List (List ℕ)) → Pairwise Lex x → Pairwise Lex y → Within x y → Within y x → x ≡ y
same_list [] [] p q h g = refl
same_list [] (b ∷ y) p q h g = absurd (Memᴰ.not-nil (g b (Member.head refl)))
same_list (a ∷ x) [] p q h g = absurd (Memᴰ.not-nil (h a (Member.head refl)))
same_list (a ∷ x) (b ∷ y) (first p r) (first q s) h g =
    let e = same_first a b x y p q (h a (Member.head refl)) (g b (Member.head refl)) in
    rw (e, same_list x y r s (past_first a b x y p e h) (past_first b a y x q (sym e) g))

pub one_card_list : {suit size : ℕ} {x y : List (List ℕ)} → IsCardList suit size x → IsCardList suit size y → x ≡ y
one_card_list {suit} {size} {x} {y} a b = same_list x y a.order b.order (λ l m. b.every l (a.only l m)) (λ l m. a.every l (b.only l m))

pub exactly_one_card_list : (suit size : ℕ) → (x : List (List ℕ)) × IsCardList suit size x × ((y : List (List ℕ)) → IsCardList suit size y → y ≡ x)
exactly_one_card_list suit size = go (ltb 2 suit) refl
  where
    go : (b : Bool) → ltb 2 suit ≡ b → (x : List (List ℕ)) × IsCardList suit size x × ((y : List (List ℕ)) → IsCardList suit size y → y ≡ x)
    go true e = let d = card_list_none suit size (ltb-true 2 suit e) in ([], d, λ y a. one_card_list a d)
    go false e = let d = card_list_drawn suit size (ltb-false 2 suit e) in (drawn suit size, d, λ y a. one_card_list a d)
