-- Tests, counts and sums over suits and kinds, where what stood at one stands at the renamed one.
use Rattle.std.specs.Prelude.{ℕ, zero, suc, ◌+◌, ◌*◌, ◌%◌, ◌≤◌, ◌<◌, ◌≡◌, refl, Bool, ◌&&◌, ◌||◌, List, get_or}
use Rattle.std.proofs.Common.{sym, ◌∙◌, arith}
use Rattle.std.proofs.Math.Path.{ap}
use Rattle.std.proofs.Math.Bool.{cond}
use Rattle.std.proofs.Math.Dec.{leb, eqb}
use Rattle.tiles.specs.Below.{all, any, all_below, count_below, sum_below}
use Rattle.tiles.specs.Kinds.{is_number, in_suit, is_honour, is_yaochu}
use Rattle.tiles.proofs.laws.Below.{every_at, every_of, number_total, both_ways, any_at, any_of}
use Rattle.reading.specs.Reading.{is_seven_pairs, is_orphans}
use Rattle.yaku_tiles.specs.OfTiles.{only, half_flush, flush, gates_of, gates}
use Rattle.symmetry.specs.Renamed.{renamed}
use Rattle.symmetry.proofs.laws.Kinds.{Renaming, back, at_suit, there_back, lt_stays, is_number_stays, is_honour_stays, is_yaochu_stays, in_suit_stays}
use Rattle.tiles.proofs.laws.Sums.{total_moved}

module _ (u : Renaming) where
  abbrev f : ℕ → ℕ
  f = renamed u.to

  pub any_suits : (p q : ℕ → Bool) → ((s : ℕ) → s < 3 → q (u.to s) ≡ p s) → any 3 q ≡ any 3 p
  any_suits p q e =
      both_ways (any 3 q) (any 3 p)
      (λ z. let (s, l, y) = any_at q 3 z in any_of p 3 (u.from s) (u.from_lt s l) (sym (e (u.from s) (u.from_lt s l)) ∙ ap q (u.to_from s l) ∙ y))
      (λ z. let (s, l, y) = any_at p 3 z in any_of q 3 (u.to s) (u.to_lt s l) (e s l ∙ y))

  -- the kinds, or the numbers alone
  pub total_kinds : (n : ℕ) → 27 ≤ n → (h g : ℕ → ℕ) → ((k : ℕ) → k < n → g (f k) ≡ h k) → sum_below n g ≡ sum_below n h
  total_kinds n l = total_moved n f (renamed u.from) (λ k. lt_stays u n k l) (λ k. lt_stays (back u) n k l) (there_back u) (there_back (back u))

  module _ (p q : ℕ → Bool) (e : (k : ℕ) → k < 34 → q (f k) ≡ p k) where
    number_kinds : count_below 34 q ≡ count_below 34 p
    number_kinds = number_total q 34 ∙ total_kinds 34 (omega arith) (λ k. cond (p k) 1 0) (λ k. cond (q k) 1 0) (λ k l. rw (e k l)) ∙ sym (number_total p 34)

    every_kinds : all_below 34 q ≡ all_below 34 p
    every_kinds =
        both_ways (all_below 34 q) (all_below 34 p)
        (λ z. every_of p 34 (λ k l. sym (e k l) ∙ every_at q 34 (f k) z (lt_stays u 34 k (omega arith) l)))
        (λ z. every_of q 34 (λ k l.
        let m = lt_stays (back u) 34 k (omega arith) l in
        ap q (sym (there_back (back u) k)) ∙ e (renamed u.from k) m ∙ every_at p 34 (renamed u.from k) z m))

  -- ---- tests of a tally

  module _ (t r : List ℕ) (e : (k : ℕ) → k < 34 → get_or r (f k) 0 ≡ get_or t k 0) where
    pub only_stays : (p q : ℕ → Bool) → ((k : ℕ) → q (f k) ≡ p k) → only r q ≡ only t p
    unfolding only
    only_stays p q h = every_kinds (λ k. eqb (get_or t k 0) 0 || p k) (λ k. eqb (get_or r k 0) 0 || q k) (λ k l. rw (e k l, h k))

    pub flush_stays : flush r ≡ flush t
    unfolding flush
    flush_stays = any_suits (λ s. only t (in_suit s)) (λ s. only r (in_suit s)) (λ s l. only_stays (in_suit s) (in_suit (u.to s)) (λ k. in_suit_stays u s k l))

    pub half_stays : half_flush r ≡ half_flush t
    unfolding half_flush
    half_stays =
        rw (
          any_suits (λ s. only t (λ k. in_suit s k || is_honour k)) (λ s. only r (λ k. in_suit s k || is_honour k))
              (λ s l. only_stays (λ k. in_suit s k || is_honour k) (λ k. in_suit (u.to s) k || is_honour k) (λ k. rw (in_suit_stays u s k l, is_honour_stays u k))),
          only_stays is_number is_number (is_number_stays u),
          only_stays is_honour is_honour (is_honour_stays u),
        )

    gates_at : (s : ℕ) → s < 3 → (n : ℕ) → n ≤ 9
        → all n (λ i. leb (cond (eqb (i % 8) 0) 3 1) (get_or r (9 * u.to s + i) 0)) ≡ all n (λ i. leb (cond (eqb (i % 8) 0) 3 1) (get_or t (9 * s + i) 0))
    gates_at s l zero m = refl
    gates_at s l (suc n) m = rw (gates_at s l n (omega arith), ← at_suit u s n l (omega arith), e (9 * s + n) (omega arith))

    pub gates_stays : (meldless : Bool) → gates r meldless ≡ gates t meldless
    unfolding gates
    gates_stays meldless =
        ap (λ (x : Bool). meldless && x)
        (any_suits (λ s. only t (in_suit s) && gates_of t s) (λ s. only r (in_suit s) && gates_of r s)
        (λ s l. rw (only_stays (in_suit s) (in_suit (u.to s)) (λ k. in_suit_stays u s k l), gates_at s l 9 (omega arith))))

    pub pairs_stay : is_seven_pairs r ≡ is_seven_pairs t
    unfolding is_seven_pairs
    pairs_stay =
        rw (
          every_kinds (λ k. eqb (get_or t k 0) 0 || eqb (get_or t k 0) 2) (λ k. eqb (get_or r k 0) 0 || eqb (get_or r k 0) 2) (λ k l. rw (e k l)),
          number_kinds (λ k. leb 1 (get_or t k 0)) (λ k. leb 1 (get_or r k 0)) (λ k l. rw (e k l)),
        )

    pub orphans_stay : is_orphans r ≡ is_orphans t
    unfolding is_orphans
    orphans_stay =
        rw (
          every_kinds (λ k. cond (is_yaochu k) (eqb (get_or t k 0) 1 || eqb (get_or t k 0) 2) (eqb (get_or t k 0) 0))
              (λ k. cond (is_yaochu k) (eqb (get_or r k 0) 1 || eqb (get_or r k 0) 2) (eqb (get_or r k 0) 0))
              (λ k l. rw (e k l, is_yaochu_stays u k)),
          number_kinds (λ k. eqb (get_or t k 0) 2) (λ k. eqb (get_or r k 0) 2) (λ k l. rw (e k l)),
        )
