-- The cards of one suit are those of another, each kind moved: so there are as many of each suit.
use Rattle.std.specs.Prelude.{◌≡◌, Bool, true, false, ℕ, ◌+◌, ◌-◌, ◌*◌, ◌%◌, ◌≤◌, ◌<◌, ltb, length}
use Rattle.std.proofs.Math.Path.{refl}
use Rattle.std.proofs.Common.{sym, ap, ◌∙◌, subst, inl, inr}
use mathlib.Core.List.Memᴰ
use mathlib.Core.List.{List, [], ◌∷◌, map, Memᴰ as Member}
use native.Mathlib.Omega.{arith}
use borrow.Author.Tests.{lt-ltb, le-ltb, le-leb, ltb-true, ltb-false}
use Rattle.std.proofs.lemmas.List.{length-map}
use Rattle.tiles.specs.Groups.{is_group, at_kind, uses}
use Rattle.tiles.proofs.laws.Below.{same_test}
use Rattle.tiles.proofs.laws.Tally.{of_kind}
use Rattle.reading.specs.Reading.{used_by}
use Rattle.reading.specs.Order.{Lex}
use Rattle.reading.specs.All.{Each, none, also as each}
use Rattle.reading.proofs.laws.Groups.{run_or, run_in, at_same, at_other}
use Rattle.reading.proofs.laws.Lists.{each_imp, each_map, each_member, pairwise_map}
use Rattle.reading_splits.specs.Splits.{Splits}
use Rattle.cards.specs.Cards.{Card, IsCardList}
use Rattle.cards.specs.CardList.{cards_of}
use Rattle.cards.proofs.laws.One.{cards_exactly, only_cards}
use Rattle.cards.proofs.laws.Tiles.{among_kind, kind_each, splits_cong, in_suit_lem, suit_in, each_both, each_uses}

-- a kind is below e, or e on from one
from_or : {P : Type 0} (e k : ℕ) → (k < e → P) → ((j : ℕ) → k ≡ e + j → P) → P
from_or {P} e k f g = go (ltb k e) refl
  where
    go : (b : Bool) → ltb k e ≡ b → P
    go true q = f (ltb-true k e q)
    go false q = let h : e ≤ k = ltb-false k e q in g (k - e) (omega arith)

-- the code of a group whose kinds are among the nine from d on
record CodeIn (d c : ℕ) : Type 0 where
  group : is_group c ≡ true
  run : c < 34 → (d ≤ c) × (c < d + 9)
  triplet : 34 ≤ c → (34 + d ≤ c) × (c < 43 + d)

code_in : (d c : ℕ) → is_group c ≡ true → ((k : ℕ) → 0 < uses c k → (d ≤ k) × (k < d + 9)) → CodeIn d c
unfolding uses
code_in d c g h =
    record {
      group = g;
      run = λ r. h c (rw (lt-ltb c 34 r) (omega (arith, at_same c 1)));
      triplet = λ r. let q = h (c - 34) (rw (le-ltb c 34 r) (omega (arith, at_same (c - 34) 3))) in (omega (arith, q), omega (arith, q));
    }

-- ---- the kinds from d on moved to the kinds from e on
module _ (d e : ℕ) where
  abbrev to : ℕ → ℕ
  to k = e + (k - d)

  at_to : (a n j : ℕ) → d ≤ a → at_kind (to a) n (e + j) ≡ at_kind a n (d + j)
  unfolding at_kind
  at_to a n j h = rw (same_test (e + (a - d)) (e + j) a (d + j) (λ q. omega arith) (λ q. omega arith))

  at_before : (a n k : ℕ) → k < e → at_kind (to a) n k ≡ 0
  at_before a n k h = at_other (e + (a - d)) n k (omega arith)

  kinds_to : (l : List ℕ) (j : ℕ) → Each (λ k. d ≤ k) l → of_kind (map to l) (e + j) ≡ of_kind l (d + j)
  unfolding of_kind
  kinds_to [] j none = refl
  kinds_to (x ∷ l) j (each p r) = rw (at_to x 1 j p, kinds_to l j r)

  kinds_before : (l : List ℕ) (k : ℕ) → k < e → of_kind (map to l) k ≡ 0
  unfolding of_kind
  kinds_before [] k h = refl
  kinds_before (x ∷ l) k h = rw (at_before x 1 k h, kinds_before l k h)

  module _ (few : e ≤ 18) where
    uses_to : (c j : ℕ) → CodeIn d c → uses (to c) (e + j) ≡ uses c (d + j)
    unfolding uses
    uses_to c j q =
        run_or c
        (λ h.
        let i = q.run h in
        let e1 : e + (c - d) + 1 ≡ e + (c + 1 - d) = omega arith in
        let e2 : e + (c - d) + 2 ≡ e + (c + 2 - d) = omega arith in
        rw (lt-ltb c 34 h, lt-ltb (e + (c - d)) 34 (omega arith), e1, e2, at_to c 1 j i.0, at_to (c + 1) 1 j (omega arith), at_to (c + 2) 1 j (omega arith)))
        (λ h.
        let i = q.triplet h in
        let e3 : e + (c - d) - 34 ≡ e + (c - 34 - d) = omega arith in
        rw (le-ltb c 34 h, le-ltb (e + (c - d)) 34 (omega arith), e3, at_to (c - 34) 3 j (omega arith)))

    uses_before : (c k : ℕ) → CodeIn d c → k < e → uses (to c) k ≡ 0
    unfolding uses
    uses_before c k q b =
        let m = e + (c - d) in
        run_or c
        (λ h. rw (lt-ltb m 34 (omega (arith, q.run h)))
        (omega (arith, at_other m 1 k (omega arith), at_other (m + 1) 1 k (omega arith), at_other (m + 2) 1 k (omega arith))))
        (λ h. let i = q.triplet h in rw (le-ltb m 34 (omega arith)) (at_other (m - 34) 3 k (omega arith)))

    used_to : (gs : List ℕ) (j : ℕ) → Each (CodeIn d) gs → used_by (map to gs) (e + j) ≡ used_by gs (d + j)
    unfolding used_by
    used_to [] j none = refl
    used_to (c ∷ gs) j (each p r) = rw (uses_to c j p, used_to gs j r)

    used_before : (gs : List ℕ) (k : ℕ) → Each (CodeIn d) gs → k < e → used_by (map to gs) k ≡ 0
    unfolding used_by
    used_before [] k none h = refl
    used_before (c ∷ gs) k (each p r) h = rw (uses_before c k p h, used_before gs k r h)

group_of : (c : ℕ) → (c < 34 → (c < 27) × (c % 9 ≤ 6)) → (34 ≤ c → c < 68) → is_group c ≡ true
unfolding is_group
group_of c f g =
    run_or c
    (λ h. rw (lt-ltb c 34 h, lt-ltb c 27 (f h).0, le-leb (c % 9) 6 (f h).1))
    (λ h. rw (le-ltb c 34 h, lt-ltb c 68 (g h)))

lex_to : (d e : ℕ) (x y : List ℕ) → Each (λ k. d ≤ k) x → Each (λ k. d ≤ k) y → Lex x y → Lex (map (to d e) x) (map (to d e) y)
lex_to d e [] y p q h = h
lex_to d e (a ∷ x) [] p q h = h
lex_to d e (a ∷ x) (b ∷ y) (each p r) (each q u) (inl h) = inl (omega arith)
lex_to d e (a ∷ x) (b ∷ y) (each p r) (each q u) (inr h) = inr (ap (λ (k : ℕ). e + (k - d)) h.0, lex_to d e x y r u h.1)

to_back : (d e : ℕ) (l : List ℕ) → Each (λ k. d ≤ k) l → map (to e d) (map (to d e) l) ≡ l
to_back d e [] none = refl
to_back d e (x ∷ l) (each p r) = let q : d + (e + (x - d) - e) ≡ x = omega arith in rw (q, to_back d e l r)

-- ---- a card of the suit s moved to the suit u
module _ (s u : ℕ) (few : u ≤ 2) where
  abbrev move : ℕ → ℕ
  move = to (9 * s) (9 * u)

  code_to : (c : ℕ) → CodeIn (9 * s) c → is_group (move c) ≡ true
  code_to c q =
      run_or c
      (λ r.
      let i = run_in c q.group r in
      let j = q.run r in
      group_of (move c) (λ z. (omega arith, omega arith)) (λ z. absurd (omega arith)))
      (λ r.
      let j = q.triplet r in
      group_of (move c) (λ z. absurd (omega arith)) (λ z. omega arith))

  module _ (size : ℕ) (l : List ℕ) (c : Card s size l) where
    suited : Each (λ k. 9 * s ≤ k) l
    suited = each_imp (λ k q. (suit_in s k q).0) c.suited

    splits_to : (n : ℕ) → Splits n (of_kind l) → Splits n (of_kind (map move l))
    splits_to n t =
        let d = 9 * s in
        let e = 9 * u in
        let few : e ≤ 18 = omega arith in
        let in_suit_lem : (k : ℕ) → 0 < of_kind l k → (d ≤ k) × (k < d + 9) = λ k p. let w = suit_in s k (kind_each l k c.suited p) in (w.0, w.1) in
        let codes : Each (CodeIn d) t.groups =
        each_imp (λ c q. code_in d c q.0 (λ k p. in_suit_lem k (omega (arith, t.tiles k, q.1 k)))) (each_both t.codes (each_uses t.groups)) in
        let p : d ≤ t.pair = (in_suit_lem t.pair (omega (arith, t.tiles t.pair, at_same t.pair 2))).0 in
        record {
          pair = move t.pair;
          groups = map move t.groups;
          number = length-map t.groups move ∙ t.number;
          codes = each_map move code_to codes;
          tiles = λ k.
              from_or e k
              (λ b. omega (arith, kinds_before d e l k b, at_before d e t.pair 2 k b, used_before d e few t.groups k codes b))
              (λ j q. rw q (omega (arith, kinds_to d e l j suited, at_to d e t.pair 2 j p, used_to d e few t.groups j codes, t.tiles (d + j))));
        }

    card_to : Card u size (map move l)
    card_to =
        record {
          tiles = length-map l move ∙ c.tiles;
          suited = each_map move (λ k q. let j = suit_in s k q in in_suit_lem u (move k) few (omega arith) (omega arith)) c.suited;
          four = λ k.
              from_or (9 * u) k
              (λ b. omega (arith, kinds_before (9 * s) (9 * u) l k b, among_kind (map move l) k))
              (λ j q. rw q (omega (
                arith,
                kinds_to (9 * s) (9 * u) l j suited,
                among_kind (map move l) (9 * u + j),
                among_kind l (9 * s + j),
                c.four
                    (9 * s + j),
              )));
          splits = (c.splits.0, splits_cong (among_kind (map move l)) (splits_to c.splits.0 (splits_cong (λ k. sym (among_kind l k)) c.splits.1)));
          ascending = pairwise_map move (λ x y h. omega arith) c.ascending;
        }

-- ---- so the lists are the same
pub all_members : {P : List ℕ → Type 0} (x : List (List ℕ)) → ((l : List ℕ) → Member l x → P l) → Each P x
all_members [] h = none
all_members (a ∷ x) h = each (h a (Member.head refl)) (all_members x (λ l m. h l (Member.tail m)))

each_from : (l : List ℕ) → Each (λ k. 0 ≤ k) l
each_from [] = none
each_from (x ∷ l) = each {x = x} (omega arith) (each_from l)

card_list_to : (size u : ℕ) → u ≤ 2 → IsCardList u size (map (map (to 0 (9 * u))) (cards_of 0 size))
card_list_to size u h =
    let x = cards_of 0 size in
    let y : IsCardList 0 size x = cards_exactly 0 size in
    let f : List ℕ → List ℕ = map (to 0 (9 * u)) in
    let on : Each (Card u size) (map f x) = each_map f (λ a c. card_to 0 u h size a c) (all_members {P = Card 0 size} x y.only) in
    let z : 0 ≤ 2 = omega arith in
    record {
      order = pairwise_map {S = Lex} f (λ a b q. lex_to 0 (9 * u) a b (each_from a) (each_from b) q) y.order;
      every = λ l c.
          subst (λ (m : List ℕ). Member m (map f x)) (to_back (9 * u) 0 l (suited u 0 z size l c))
          (Memᴰ.map f (y.every (map (to (9 * u) 0) l) (card_to u 0 z size l c)));
      only = λ l m. each_member on m;
    }

pub count_alike : (suit size : ℕ) → suit ≤ 2 → length (cards_of suit size) ≡ length (cards_of 0 size)
count_alike suit size h =
    sym (ap length (only_cards suit size _ (card_list_to size suit h))) ∙ length-map (cards_of 0 size) (map (to 0 (9 * suit)))
