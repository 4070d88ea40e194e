-- The feeders after an accepted booking.
use Rattle.std.specs.Prelude.{◌≡◌, true, ◌&&◌, ◌||◌, ◌⊎◌, List, ◌∷◌, ℕ, ◌+◌, ◌≤◌, ◌<◌, get_or, set, length}
use Rattle.std.proofs.Math.Path.{refl, ap}
use Rattle.std.proofs.Common.{sym, ◌∙◌, ⊎_elim, length-set, get_or-set_same, get_or-set_other}
use Rattle.std.proofs.Math.Bool.{Bool, false, or-false, and-true, and-false}
use native.Mathlib.Omega.{arith}
use borrow.Author.Tests.{ltb-false, eqb-true, eqb-false, ne_eqb}
use Rattle.std.proofs.Math.Dec.{eqb}
use Rattle.std.proofs.Math.ListN.{replicate}
use Rattle.std.proofs.lemmas.List.{get_or-replicate}
use Rattle.tiles.proofs.laws.Below.{same_test}
use Rattle.position.specs.declared.Position.{Position}
use Rattle.position.specs.Booking.{Booking, result, riichi, win, draw, chombo, pao, multi_ron}
use Rattle.position.specs.Ledger.{feeder_index, feeder_at, refusal_for, effect_of}
use Rattle.position.proofs.laws.Accepted.{pao_accepted}
use Rattle.position.proofs.laws.Pao.{right_pao}
use Rattle.game_rules.specs.Past.{sum_since, count_since, is_result, is_pao_of, has_named}
use Rattle.game_rules.specs.History.{History}
use Rattle.game_rules.proofs.laws.Accepted.{draw_either}
use Rattle.game_rules.proofs.laws.Sticks.{one_more}

-- the places are eight
abbrev pub Eight : List ℕ → Type 0
Eight places = length places ≡ 8

pub eight_after : (l : Position) (b : Booking) → Eight l.feeders → Eight (effect_of l b).feeders
unfolding effect_of
eight_after l (riichi seat) n = n
eight_after l (pao holder feeder yaku) n = length-set l.feeders (feeder_index holder yaku) (1 + feeder) ∙ n
eight_after l (result (win s)) n = refl
eight_after l (result (chombo seat)) n = refl
eight_after l (result (multi_ron number s)) n = refl
eight_after l (result (draw bits)) n = draw_either (λ x. Eight x.feeders) l bits refl refl

-- ---- a index for each holder and yaku

abbrev pub OneOfTwo : ℕ → Type 0
OneOfTwo yaku = (yaku ≡ 28) ⊎ (yaku ≡ 29)

pub index_below : (holder yaku : ℕ) → holder < 4 → yaku ≤ 29 → feeder_index holder yaku < 8
index_below holder yaku m n = omega arith

one_index : (h y holder yaku : ℕ) → h < 4 → 28 ≤ y → y ≤ 29 → holder < 4 → 28 ≤ yaku → yaku ≤ 29
    → feeder_index h y ≡ feeder_index holder yaku → (h ≡ holder) × (y ≡ yaku)
one_index h y holder yaku a b c d e f q = (omega arith, omega arith)

pub two_bounds : (yaku : ℕ) → OneOfTwo yaku → (28 ≤ yaku) × (yaku ≤ 29)
two_bounds yaku = ⊎_elim (λ (e : yaku ≡ 28). (omega arith, omega arith)) (λ (e : yaku ≡ 29). (omega arith, omega arith))

-- ---- after a pao of holder, feeder and yaku, where nobody was named for these

module _ (places : List ℕ) (holder feeder yaku : ℕ) (n : Eight places) (a : holder ≤ 3) (y : (28 ≤ yaku) × (yaku ≤ 29))
    (free : get_or places (feeder_index holder yaku) 0 ≡ 0) where
  abbrev named : List ℕ
  named = set places (feeder_index holder yaku) (1 + feeder)

  -- asked of a holder, feeder and yaku
  module _ (h f k : ℕ) (b : h < 4) (z : OneOfTwo k) where
    abbrev was : Bool
    was = eqb (get_or places (feeder_index h k) 0) (1 + f)

    at_index : h ≡ holder → k ≡ yaku → eqb (get_or named (feeder_index h k) 0) (1 + f) ≡ eqb f feeder || was
    at_index p q =
        let there : get_or named (feeder_index holder yaku) 0 ≡ 1 + feeder
        = get_or-set_same places (feeder_index holder yaku) (1 + feeder) 0 (omega (arith, index_below holder yaku (omega arith) y.1)) in
        rw (p, q, there, free, ne_eqb 0 (1 + f) (λ (w : 0 ≡ 1 + f). omega arith), or-false (eqb f feeder))
        (same_test (1 + feeder) (1 + f) f feeder (λ (w : 1 + feeder ≡ 1 + f). omega arith) (λ (w : f ≡ feeder). omega arith))

    other_place : (h ≡ holder → k ≡ yaku → ⊥) → eqb (get_or named (feeder_index h k) 0) (1 + f) ≡ was
    other_place p =
        let t = two_bounds k z in
        ap (λ (m : ℕ). eqb m (1 + f)) (get_or-set_other places (feeder_index holder yaku) (feeder_index h k) (1 + feeder) 0
        (λ q. let s = one_index h k holder yaku b t.0 t.1 (omega arith) y.0 y.1 q in p s.0 s.1))

    pub named_at : eqb (get_or named (feeder_index h k) 0) (1 + f) ≡ (eqb h holder && eqb f feeder && eqb k yaku) || was
    named_at = go (eqb h holder) (eqb k yaku) refl refl
      where
        go : (s t : Bool) → eqb h holder ≡ s → eqb k yaku ≡ t → eqb (get_or named (feeder_index h k) 0) (1 + f) ≡ (s && eqb f feeder && t) || was
        go true true p q = at_index (eqb-true h holder p) (eqb-true k yaku q) ∙ ap (λ (u : Bool). u || was) (sym (and-true (eqb f feeder)))
        go true false p q = other_place (λ u v. eqb-false k yaku q v) ∙ ap (λ (u : Bool). u || was) (sym (and-false (eqb f feeder)))
        go false t p q = other_place (λ u v. eqb-false h holder p u)

-- ---- the step

none_there : (index feeder : ℕ) → index < 8 → eqb (get_or (replicate 8 0) index 0) (1 + feeder) ≡ false
none_there index feeder m = ap (λ (n : ℕ). eqb n (1 + feeder)) (get_or-replicate 8 index 0 0 m) ∙ ne_eqb 0 (1 + feeder) (λ (w : 0 ≡ 1 + feeder). omega arith)

-- what is named in these places, as a past says it
abbrev pub NamedAs : List ℕ → List Booking → Type 0
NamedAs places past =
    (holder feeder yaku : ℕ) → holder < 4 → feeder < 4 → OneOfTwo yaku
    → eqb (get_or places (feeder_index holder yaku) 0) (1 + feeder) ≡ has_named past holder feeder yaku

-- after a result nobody
pub lapsed : (places : List ℕ) → places ≡ replicate 8 0 → (holder feeder yaku : ℕ) → holder < 4 → OneOfTwo yaku
    → eqb (get_or places (feeder_index holder yaku) 0) (1 + feeder) ≡ false
lapsed places e holder feeder yaku m z =
    ap (λ (l : List ℕ). eqb (get_or l (feeder_index holder yaku) 0) (1 + feeder)) e
    ∙ none_there (feeder_index holder yaku) feeder (index_below holder yaku m (two_bounds yaku z).1)

module _ (past : List Booking) (l : Position) (h : History past l) (n : Eight l.feeders) where
  pub same_named : (b : Booking) → refusal_for l b ≡ 0 → NamedAs (effect_of l b).feeders (b ∷ past)
  unfolding effect_of sum_since
  same_named (riichi seat) e i f k m u z = h.feeders i f k m u z ∙ one_more false (count_since is_result (is_pao_of i f k) past)
  same_named (pao holder feeder yaku) e i f k m u z =
      let a = pao_accepted l holder feeder yaku e in
      let r = right_pao l holder feeder yaku a.3 in
      let free : feeder_at l (feeder_index holder yaku) ≡ 0 = let q = ltb-false 0 (feeder_at l (feeder_index holder yaku)) r.2 in omega arith in
      let same : Bool = eqb i holder && eqb f feeder && eqb k yaku in
      named_at l.feeders holder feeder yaku n a.0 r.1 free i f k m z
      ∙ ap (λ (t : Bool). same || t) (h.feeders i f k m u z) ∙ one_more same (count_since is_result (is_pao_of i f k) past)
  same_named (result (win s)) e i f k m u z = lapsed (replicate 8 0) refl i f k m z
  same_named (result (chombo seat)) e i f k m u z = lapsed (replicate 8 0) refl i f k m z
  same_named (result (multi_ron number s)) e i f k m u z = lapsed (replicate 8 0) refl i f k m z
  same_named (result (draw bits)) e i f k m u z = lapsed _ (draw_either (λ x. x.feeders ≡ replicate 8 0) l bits refl refl) i f k m z
