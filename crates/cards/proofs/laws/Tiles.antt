-- What is true of the tiles of a card: how many there are of a kind, and how many together.
use Rattle.std.specs.Prelude.{◌≡◌, refl, Bool, true, false, ltb, eqb, length, get_or}
use Rattle.std.proofs.Common.{◌∙◌, subst, le_refl, lt-ltb, le-ltb, ltb-true, eqb-true, eq-eqb}
use mathlib.Core.List.{List, [], ◌∷◌}
use Prim.Native.Nat.{ℕ, zero, suc, ◌+◌, ◌-◌, ◌*◌, ◌/◌, ◌≤◌, ◌<◌}
use native.Mathlib.Omega.{arith}
use Rattle.std.proofs.lemmas.Bool.{eqb-false}
use Rattle.tiles.specs.Below.{sum, sum_below}
use Rattle.tiles.specs.Kinds.{in_suit}
use Rattle.tiles.specs.Groups.{at_kind, uses}
use Rattle.tiles.proofs.laws.Below.{and_true, number_total}
use Rattle.tiles.proofs.laws.Tally.{of_kind}
use Rattle.tiles.proofs.laws.Sums.{sum_cong, sum_add, sum_at, over_places, over_kind}
use Rattle.reading.specs.Reading.{used_by}
use Rattle.reading.specs.All.{Each, none, also as each, Pairwise, ended, first}
use Rattle.reading.proofs.laws.Groups.{run_or, at_same, at_other}
use Rattle.reading.proofs.laws.Lists.{each_imp}
use Rattle.reading_splits.specs.Splits.{Splits}
use Rattle.cards.specs.Cards.{among}

-- ---- lists of tiles
pub each_head : {P : ℕ → Type 0} {x : ℕ} {l : List ℕ} → Each P (x ∷ l) → P x
each_head (each p r) = p

pub each_tail : {P : ℕ → Type 0} {x : ℕ} {l : List ℕ} → Each P (x ∷ l) → Each P l
each_tail (each p r) = r

pub each_both : {P Q : ℕ → Type 0} {l : List ℕ} → Each P l → Each Q l → Each (λ k. P k × Q k) l
each_both none none = none
each_both (each p r) (each q u) = each (p, q) (each_both r u)

-- ascending from a on
abbrev pub Rising : ℕ → List ℕ → Type 0
Rising a [] = Unit {0}
Rising a (x ∷ l) = (a ≤ x) × Rising x l

pub rising_each : (a b : ℕ) (l : List ℕ) → b ≤ a → Rising a l → Each (λ k. b ≤ k) l
rising_each a b [] h o = none
rising_each a b (x ∷ l) h o = let g : b ≤ x = omega (arith, o.0) in each g (rising_each x b l g o.1)

pub rising_pairwise : (a : ℕ) (l : List ℕ) → Rising a l → Pairwise ◌≤◌ l
rising_pairwise a [] o = ended
rising_pairwise a (x ∷ l) o = first (rising_each x x l (le_refl x) o.1) (rising_pairwise x l o.1)

pub pairwise_rising : (a : ℕ) (l : List ℕ) → Each (λ k. a ≤ k) l → Pairwise ◌≤◌ l → Rising a l
pairwise_rising a [] h o = tt
pairwise_rising a (x ∷ l) (each p r) (first q o) = (p, pairwise_rising x l q o)

-- ---- tiles of a kind

-- a tile is of the kind k or not
pub at_or : {P : Type 0} (a n k : ℕ) → (a ≡ k → at_kind a n k ≡ n → P) → ((a ≡ k → ⊥) → at_kind a n k ≡ 0 → P) → P
at_or {P} a n k f g = go (eqb a k) refl
  where
    go : (b : Bool) → eqb a k ≡ b → P
    go true e = let q : a ≡ k = eqb-true a k e in f q (rw q (at_same k n))
    go false e = g (eqb-false a k e) (at_other a n k (eqb-false a k e))

pub among_kind : (l : List ℕ) (k : ℕ) → among l k ≡ of_kind l k
unfolding among sum_below at_kind
among_kind l k = number_total (λ i. eqb (get_or l i 0) k) (length l) ∙ over_places (λ x. at_kind x 1 k) l ∙ over_kind l k

pub kind_each : {P : ℕ → Type 0} (l : List ℕ) (k : ℕ) → Each P l → 0 < of_kind l k → P k
unfolding of_kind
kind_each [] k none h = absurd (omega arith)
kind_each {P} (x ∷ l) k (each p r) h = at_or x 1 k (λ q e. subst P q p) (λ n e. kind_each l k r (omega arith))

pub splits_cong : {n : ℕ} {f g : ℕ → ℕ} → ((k : ℕ) → g k ≡ f k) → Splits n f → Splits n g
splits_cong h s = record { pair = s.pair; groups = s.groups; number = s.number; codes = s.codes; tiles = λ k. h k ∙ s.tiles k }

-- ---- the kinds of a suit
pub in_suit_lem : (s k : ℕ) → s ≤ 2 → 9 * s ≤ k → k < 9 * s + 9 → in_suit s k ≡ true
in_suit_lem s k h a b = rw (lt-ltb k 27 (omega arith), eq-eqb (k / 9) s (omega arith))

pub suit_in : (s k : ℕ) → in_suit s k ≡ true → (9 * s ≤ k) × (k < 9 * s + 9) × (k < 27)
suit_in s k e =
    let both = and_true (ltb k 27) (eqb (k / 9) s) e in
    let q : k / 9 ≡ s = eqb-true _ _ both.1 in
    (omega arith, omega arith, ltb-true k 27 both.0)

-- ---- how many tiles there are together: below b, where all of them are
pub each_uses : (gs : List ℕ) → Each (λ c. (k : ℕ) → uses c k ≤ used_by gs k) gs
unfolding used_by
each_uses [] = none
each_uses (c ∷ gs) =
    let u : (k : ℕ) → uses c k ≤ uses c k + used_by gs k = λ k. omega arith in each {x = c} u (each_imp (λ g u k. omega (arith, u k)) (each_uses gs))

no_sum : (n : ℕ) → sum n (λ k. 0) ≡ 0
no_sum zero = refl
no_sum (suc n) = omega (arith, no_sum n)

module _ (b : ℕ) where
  kinds_total : (l : List ℕ) → Each (λ k. k < b) l → sum b (of_kind l) ≡ length l
  unfolding of_kind
  kinds_total [] none = no_sum b
  kinds_total (x ∷ l) (each p r) = omega (arith, sum_add (at_kind x 1) (of_kind l) b, sum_at x 1 b p, kinds_total l r)

  group_total : (c : ℕ) → ((k : ℕ) → 0 < uses c k → k < b) → sum b (uses c) ≡ 3
  unfolding uses
  group_total c h =
      run_or c
      (λ r.
      let two : ℕ → ℕ = λ k. at_kind c 1 k + at_kind (c + 1) 1 k in
      let has : (k : ℕ) → 0 < at_kind c 1 k + at_kind (c + 1) 1 k + at_kind (c + 2) 1 k → k < b = λ k p. h k (rw (lt-ltb c 34 r) p) in
      sum_cong (uses c) (λ k. two k + at_kind (c + 2) 1 k) b (λ i q. rw (lt-ltb c 34 r))
      ∙ omega (
        arith,
        sum_add two (at_kind (c + 2) 1) b,
        sum_add (at_kind c 1) (at_kind (c + 1) 1) b,
        sum_at c 1 b (has c (omega (arith, at_same c 1))),
        sum_at (c + 1) 1 b (has (c + 1) (omega (arith, at_same (c + 1) 1))),
        sum_at (c + 2) 1 b (has (c + 2) (omega (arith, at_same (c + 2) 1))),
      ))
      (λ r.
      sum_cong (uses c) (at_kind (c - 34) 3) b (λ i q. rw (le-ltb c 34 r))
      ∙ sum_at (c - 34) 3 b (h (c - 34) (rw (le-ltb c 34 r) (omega (arith, at_same (c - 34) 3)))))

  groups_total : (gs : List ℕ) → ((k : ℕ) → 0 < used_by gs k → k < b) → sum b (used_by gs) ≡ 3 * length gs
  unfolding used_by
  groups_total [] h = no_sum b
  groups_total (c ∷ gs) h =
      omega (arith, sum_add (uses c) (used_by gs) b, group_total c (λ k p. h k (omega arith)), groups_total gs (λ k p. h k (omega arith)))

  -- a pair and three tiles a group
  pub tiles_of_groups : (n : ℕ) (l : List ℕ) → Each (λ k. k < b) l → Splits n (of_kind l) → length l ≡ 2 + 3 * n
  tiles_of_groups n l e s =
      let below : (k : ℕ) → 0 < of_kind l k → k < b = λ k p. kind_each l k e p in
      let g = groups_total s.groups (λ k p. below k (omega (arith, s.tiles k))) in
      let p = sum_at s.pair 2 b (below s.pair (omega (arith, s.tiles s.pair, at_same s.pair 2))) in
      let c = sum_cong (of_kind l) (λ k. at_kind s.pair 2 k + used_by s.groups k) b (λ k q. s.tiles k) in
      omega (arith, kinds_total l e, c, sum_add (at_kind s.pair 2) (used_by s.groups) b, g, p, s.number)
