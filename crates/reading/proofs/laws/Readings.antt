-- The list `readings` has exactly the readings, in ascending order.
use Rattle.std.specs.Prelude.{◌≡◌, true, ℕ, suc, ◌+◌, ◌-◌, ◌≤◌, ◌<◌, leb, eqb, length, get_or}
use Rattle.std.proofs.Math.Path.{refl}
use Rattle.std.proofs.Common.{sym, ap, ◌∙◌, inl, arith}
use Rattle.std.proofs.Math.Logic.{inr}
use mathlib.Core.List.Memᴰ
use mathlib.Core.List.{List, [], ◌∷◌, ◌++◌, Memᴰ}
use borrow.Author.Tests.{le-leb, leb-true, eq-eqb, eqb-true}
use Rattle.std.proofs.Math.ListN.{replicate}
use Rattle.tiles.specs.Below.{tabulate}
use Rattle.tiles.specs.Groups.{at_kind}
use Rattle.reading.specs.declared.Reading.{Reading}
use Rattle.reading.specs.Reading.{holds, IsRegular, is_seven_pairs, is_orphans, of_shape, IsReading, regular, pairs, orphans}
use Rattle.reading.specs.Order.{Lex, Before}
use Rattle.reading.specs.All.{Each, none, also, Pairwise}
use Rattle.reading.specs.search.Readings.{when, concat_map, less, regular_of, placed_at, placed, paired, shaped, readings}
use Rattle.reading.proofs.laws.Lists.{each_append, each_imp, each_when, each_all, each_concat, pairwise_append, pairwise_when, pairwise_one}
use Rattle.reading.proofs.laws.Lists.{pairwise_concat, mem_when, mem_concat, range_in, range_ascends, mem_range}
use Rattle.reading.proofs.laws.Groups.{at_same, less_at, less_long}
use Rattle.reading.proofs.laws.Splits.{Splits, splits_sound, splits_complete, splits_ordered}

-- ---- each one listed is a reading
module _ (t : List ℕ) (m win : ℕ) (l : length t ≡ 34) where
  regular_of_lem : (k p : ℕ) (gs : List ℕ) → k < 34 → 2 ≤ get_or t k 0 → Splits 0 (less t k 2) (4 - m) gs → p ≤ 4 - m →
      holds k (gs ++ replicate m 68) p win ≡ true → IsRegular t m win (regular_of k (gs ++ replicate m 68) p)
  regular_of_lem k p gs h two s q e =
      record {
        shape = refl;
        codes = gs;
        size = s.size;
        groups = refl;
        order = s.order;
        pair = h;
        tiles = λ j. less_at t k 2 (omega arith) two j ∙ ap (λ (x : ℕ). at_kind k 2 j + x) (s.tiles j);
        place = q;
        holding = e;
      }

  paired_sound : (k : ℕ) → k < 34 → Each (IsReading t m win) (paired t m win k)
  unfolding paired placed placed_at
  paired_sound k h =
      each_when (leb 2 (get_or t k 0)) _ (λ two.
      each_concat _ (each_imp (λ gs s.
      each_concat _ (each_imp (λ p q.
      each_when (holds k (gs ++ replicate m 68) p win) _ (λ e.
      also (regular (regular_of_lem k p gs h (leb-true 2 (get_or t k 0) two) s (omega (arith, q.1)) e)) none))
      (range_in (suc (4 - m)) 0 0 (omega arith))))
      (splits_sound (4 - m) 68 0 (less t k 2) (less_long t k 2 l))))

  shaped_sound : Each (IsReading t m win) (shaped t m)
  unfolding shaped
  shaped_sound =
      each_when (eqb m 0) _ (λ z.
      each_append
      (each_when (is_seven_pairs t) _ (λ e. also (pairs (record { meldless = eqb-true m 0 z; kinds = e; reading = refl })) none))
      (each_when (is_orphans t) _ (λ e. also (orphans (record { meldless = eqb-true m 0 z; kinds = e; reading = refl })) none)))

  pub readings_each : Each (IsReading t m win) (readings t m win)
  unfolding readings
  readings_each =
      each_append (each_concat (paired t m win) (each_imp (λ k q. paired_sound k (omega (arith, q.1))) (range_in 34 0 0 (omega arith)))) shaped_sound

-- ---- each reading is listed
module _ (t : List ℕ) (m win : ℕ) (r : Reading) (l : length t ≡ 34) where
  module _ (s : IsRegular t m win r) where
    abbrev grouped : List ℕ
    grouped = s.codes ++ replicate m 68

    same : r ≡ regular_of r.pair grouped r.place
    same = λ i. record { shape = s.shape i; pair = r.pair; groups = s.groups i; place = r.place }

    has_pair : 2 ≤ get_or t r.pair 0
    has_pair = omega (arith, s.tiles r.pair, at_same r.pair 2)

    rest_splits : Splits 0 (less t r.pair 2) (4 - m) s.codes
    rest_splits =
        record {
          size = s.size;
          order = s.order;
          tiles = λ k. omega (arith, less_at t r.pair 2 (omega arith) has_pair k, s.tiles k);
        }

    placed_has : Memᴰ r (placed (4 - m) win r.pair grouped)
    unfolding placed placed_at
    placed_has =
        mem_concat (placed_at win r.pair grouped) (mem_range (suc (4 - m)) 0 r.place (omega arith) (omega (arith, s.place)))
        (mem_when (holds r.pair grouped r.place win) _ (rw (← s.groups) s.holding) (Memᴰ.head same))

    paired_has : Memᴰ r (paired t m win r.pair)
    unfolding paired
    paired_has =
        mem_when (leb 2 (get_or t r.pair 0)) _ (le-leb 2 (get_or t r.pair 0) has_pair)
        (mem_concat (λ (gs : List ℕ). placed (4 - m) win r.pair (gs ++ replicate m 68))
        (splits_complete (4 - m) 68 0 (less t r.pair 2) s.codes (less_long t r.pair 2 l) refl rest_splits)
        placed_has)

  shaped_has : m ≡ 0 → Memᴰ r (when (is_seven_pairs t) (λ _. of_shape 1 ∷ []) ++ when (is_orphans t) (λ _. of_shape 2 ∷ [])) → Memᴰ r (readings t m win)
  unfolding readings shaped
  shaped_has z h = Memᴰ.append_right (concat_map (paired t m win) (tabulate 34 0 (λ k. k))) (mem_when (eqb m 0) _ (eq-eqb m 0 z) h)

  pub readings_has : IsReading t m win r → Memᴰ r (readings t m win)
  unfolding readings
  readings_has (regular s) = Memᴰ.append_left _ (mem_concat (paired t m win) (mem_range 34 0 r.pair (omega arith) s.pair) (paired_has s))
  readings_has (pairs s) = shaped_has s.meldless (Memᴰ.append_left _ (mem_when (is_seven_pairs t) _ s.kinds (Memᴰ.head s.reading)))
  readings_has (orphans s) =
      shaped_has s.meldless
      (Memᴰ.append_right (when (is_seven_pairs t) (λ _. of_shape 1 ∷ [])) (mem_when (is_orphans t) _ s.kinds (Memᴰ.head s.reading)))

-- ---- the list ascends
pub lex_append : (x y u v : List ℕ) → Lex x y → Lex (x ++ u) (y ++ v)
lex_append [] y u v h = absurd h
lex_append (a ∷ x) [] u v h = absurd h
lex_append (a ∷ x) (b ∷ y) u v (inl h) = inl h
lex_append (a ∷ x) (b ∷ y) u v (inr h) = inr (h.0, lex_append x y u v h.1)

pub lex_after : (g x y : List ℕ) → Lex x y → Lex (g ++ x) (g ++ y)
lex_after [] x y h = h
lex_after (a ∷ g) x y h = inr (refl, lex_after g x y h)

pub lex_irreflexive : (x : List ℕ) → Lex x x → ⊥
lex_irreflexive [] h = h
lex_irreflexive (a ∷ x) (inl h) = omega arith
lex_irreflexive (a ∷ x) (inr h) = lex_irreflexive x h.1

-- a regular reading with the pair k, and with the groups gs
abbrev OfPair : ℕ → Reading → Type 0
OfPair k r = (r.shape ≡ 0) × (r.pair ≡ k)

abbrev OfGroups : ℕ → List ℕ → Reading → Type 0
OfGroups k gs r = (p : ℕ) × (r ≡ regular_of k gs p)

-- readings of shape f come before those of a later shape
later_shape : (f : ℕ) {xs ys : List Reading} → Each (λ r. r.shape ≡ f) xs → Each (λ r. f < r.shape) ys → Each (λ x. Each (Before x) ys) xs
later_shape f p q = each_imp (λ x e. each_imp (λ y h. inl (rw e h)) q) p

module _ (n win k : ℕ) where
  placed_at_of : (gs : List ℕ) (p : ℕ) → Each (λ r. r ≡ regular_of k gs p) (placed_at win k gs p)
  unfolding placed_at
  placed_at_of gs p = each_when (holds k gs p win) _ (λ e. also refl none)

  placed_of : (gs : List ℕ) → Each (OfGroups k gs) (placed n win k gs)
  unfolding placed
  placed_of gs = each_concat (placed_at win k gs) (each_all (λ p. each_imp (λ r e. (p, e)) (placed_at_of gs p)) _)

  placed_ordered : (gs : List ℕ) → Pairwise Before (placed n win k gs)
  unfolding placed placed_at
  placed_ordered gs =
      pairwise_concat (placed_at win k gs) (λ p r. r ≡ regular_of k gs p) (placed_at_of gs)
      (λ p. pairwise_when (holds k gs p win) _ (λ e. pairwise_one (regular_of k gs p)))
      (λ p q a b h e f. rw (e, f) (inr (refl, inr (refl, lex_after gs (p ∷ []) (q ∷ []) (inl h)))))
      (range_ascends (suc n) 0)

module _ (t : List ℕ) (m win : ℕ) (l : length t ≡ 34) where
  paired_of : (k : ℕ) → Each (OfPair k) (paired t m win k)
  unfolding paired
  paired_of k =
      each_when (leb 2 (get_or t k 0)) _ (λ two.
      each_concat _ (each_all (λ gs. each_imp (λ r e. rw e.1 (refl, refl)) (placed_of (4 - m) win k (gs ++ replicate m 68))) _))

  paired_ordered : (k : ℕ) → Pairwise Before (paired t m win k)
  unfolding paired
  paired_ordered k =
      pairwise_when (leb 2 (get_or t k 0)) _ (λ two.
      pairwise_concat (λ (gs : List ℕ). placed (4 - m) win k (gs ++ replicate m 68)) (λ gs. OfGroups k (gs ++ replicate m 68))
      (λ gs. placed_of (4 - m) win k (gs ++ replicate m 68))
      (λ gs. placed_ordered (4 - m) win k (gs ++ replicate m 68))
      (λ x y a b h e f.
      rw (e.1, f.1) (inr (
        refl,
        inr (
          refl,
          lex_append (x ++ replicate m 68) (y ++ replicate m 68) (e.0 ∷ []) (f.0 ∷ [])
              (lex_append x y (replicate m 68) (replicate m 68) h),
        ),
      )))
      (splits_ordered (4 - m) 68 0 (less t k 2) (less_long t k 2 l)))

  regulars_ordered : Pairwise Before (concat_map (paired t m win) (tabulate 34 0 (λ k. k)))
  regulars_ordered =
      pairwise_concat (paired t m win) OfPair paired_of paired_ordered
      (λ j k a b h e f. inr (e.0 ∙ sym f.0, inl (rw (e.1, f.1) h)))
      (range_ascends 34 0)

  pub readings_ascend : Pairwise Before (readings t m win)
  unfolding readings shaped
  readings_ascend =
      pairwise_append regulars_ordered
      (pairwise_when (eqb m 0) _ (λ z.
      pairwise_append (pairwise_when (is_seven_pairs t) _ (λ e. pairwise_one (of_shape 1))) (pairwise_when (is_orphans t) _ (λ e. pairwise_one (of_shape 2)))
      (later_shape 1 (each_when (is_seven_pairs t) _ (λ e. also refl none)) (each_when (is_orphans t) _ (λ e. also (omega arith) none)))))
      (later_shape 0 (each_concat (paired t m win) (each_all (λ k. each_imp (λ r e. e.0) (paired_of k)) (tabulate 34 0 (λ k. k))))
      (each_when (eqb m 0) _ (λ z. each_append (each_when (is_seven_pairs t) _ (λ e. also (omega arith) none))
      (each_when (is_orphans t) _ (λ e. also (omega arith) none)))))
