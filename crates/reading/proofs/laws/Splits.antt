-- The enumeration `splits` lists exactly the splittings of a tally into groups, in ascending order.
use Rattle.std.specs.Prelude.{◌≡◌, refl, true, length, get_or}
use Rattle.std.proofs.Common.{sym, ap, ◌∙◌, inl, le_refl, eq-or-lt_of_le}
use Rattle.std.proofs.Math.Path.{subst}
use Rattle.std.proofs.Math.Logic.{inr, ⊎_elim}
use mathlib.Core.List.Memᴰ
use mathlib.Core.List.{List, [], ◌∷◌, map, Memᴰ}
use Prim.Native.Nat.{ℕ, zero, suc, ◌+◌}
use native.Mathlib.Omega.{arith}
use Rattle.tiles.specs.Groups.{uses}
use Rattle.reading.specs.Reading.{used_by, Ascends}
use Rattle.reading.specs.Order.{Lex}
use Rattle.reading.specs.All.{Each, none, also, Pairwise, ended}
use Rattle.reading.specs.search.Readings.{is_empty, fits, without, passes, when, step, splits}
use Rattle.reading.proofs.laws.Lists.{each_append, each_map, each_imp, each_when, pairwise_append, pairwise_when, pairwise_one, pairwise_map, mem_when}
use Rattle.reading.proofs.laws.Groups.{fits_group, fits_of, without_at, without_long, group_in, passes_of, empty_at, empty_of}

-- gs splits t into n groups, with no code below c
pub record Splits (c : ℕ) (t : List ℕ) (n : ℕ) (gs : List ℕ) : Type 0 where
  pub size : length gs ≡ n
  pub order : Ascends c gs
  pub tiles : (k : ℕ) → get_or t k 0 ≡ used_by gs k

-- ---- each list is a splitting
later_order : (gs : List ℕ) (c : ℕ) → Ascends (c + 1) gs → Ascends c gs
later_order [] c o = tt
later_order (g ∷ gs) c o = (omega (arith, o.0), o.1, o.2)

later_splits : (c : ℕ) (t : List ℕ) (n : ℕ) (gs : List ℕ) → Splits (c + 1) t n gs → Splits c t n gs
later_splits c t n gs s = record { size = s.size; order = later_order gs c s.order; tiles = s.tiles }

cons_splits : (c : ℕ) (t : List ℕ) (n : ℕ) → fits t c ≡ true → (gs : List ℕ) → Splits c (without t c) n gs → Splits c t (suc n) (c ∷ gs)
unfolding used_by
cons_splits c t n f gs s =
    record {
      size = ap suc s.size;
      order = (le_refl c, fits_group t c f, s.order);
      tiles = λ k. without_at t c f k ∙ ap (λ (j : ℕ). uses c k + j) (s.tiles k);
    }

module _ (n : ℕ) (rest : (m c : ℕ) (t : List ℕ) → length t ≡ 34 → Each (Splits c t n) (splits n m c t)) where
  sound_step : (m c : ℕ) (t : List ℕ) → length t ≡ 34 → Each (Splits c t (suc n)) (step (splits n) m c t)
  unfolding step
  sound_step zero c t l = none
  sound_step (suc m) c t l =
      each_append
      (each_when (fits t c) _ (λ f. each_map _ (cons_splits c t n f) (rest (suc m) c (without t c) (without_long t c l))))
      (each_when (passes t c) _ (λ f. each_imp (later_splits c t (suc n)) (sound_step m (c + 1) t l)))

pub splits_sound : (n m c : ℕ) (t : List ℕ) → length t ≡ 34 → Each (Splits c t n) (splits n m c t)
unfolding splits used_by
splits_sound zero m c t l = each_when (is_empty t) _ (λ e. also (record { size = refl; order = tt; tiles = empty_at t l e }) none)
splits_sound (suc n) m c t l = sound_step n (splits_sound n) m c t l

-- ---- each splitting is listed
module _ (c : ℕ) (t : List ℕ) (n : ℕ) (gs : List ℕ) (s : Splits c t (suc n) (c ∷ gs)) where
  head_fits : fits t c ≡ true
  unfolding used_by
  head_fits = fits_of t c s.order.1 (λ k. omega (arith, s.tiles k))

  tail_splits : Splits c (without t c) n gs
  unfolding used_by
  tail_splits =
      record {
        size = omega (arith, s.size);
        order = s.order.2;
        tiles = λ k. omega (arith, s.tiles k, without_at t c head_fits k);
      }

module _ (n : ℕ) (rest : (m c : ℕ) (t gs : List ℕ) → length t ≡ 34 → c + m ≡ 68 → Splits c t n gs → Memᴰ gs (splits n m c t)) where
  complete_step : (m c : ℕ) (t gs : List ℕ) → length t ≡ 34 → c + m ≡ 68 → Splits c t (suc n) gs → Memᴰ gs (step (splits n) m c t)
  unfolding step
  complete_step m c t [] l e s = absurd (omega (arith, s.size))
  complete_step zero c t (g ∷ gs) l e s = absurd (omega (arith, s.order.0, group_in g s.order.1))
  complete_step (suc m) c t (g ∷ gs) l e s =
      ⊎_elim
      (λ q.
      let s' : Splits c t (suc n) (c ∷ gs) = subst (λ (j : ℕ). Splits c t (suc n) (j ∷ gs)) (sym q) s in
      rw (← q)
      (Memᴰ.append_left _ (mem_when (fits t c) _ (head_fits c t n gs s')
      (Memᴰ.map _ (rest (suc m) c (without t c) gs (without_long t c l) e (tail_splits c t n gs s'))))))
      (λ h.
      let o : Ascends (c + 1) (g ∷ gs) = (omega arith, s.order.1, s.order.2) in
      Memᴰ.append_right (when (fits t c) (λ _. map (λ (xs : List ℕ). c ∷ xs) (splits n (suc m) c (without t c))))
      (mem_when (passes t c) (λ _. step (splits n) m (c + 1) t) (passes_of t (g ∷ gs) c (c + 1) s.tiles o (omega arith))
      (complete_step m (c + 1) t (g ∷ gs) l (omega arith) (record { size = s.size; order = o; tiles = s.tiles }))))
      (eq-or-lt_of_le s.order.0)

pub splits_complete : (n m c : ℕ) (t gs : List ℕ) → length t ≡ 34 → c + m ≡ 68 → Splits c t n gs → Memᴰ gs (splits n m c t)
unfolding splits used_by
splits_complete zero m c t [] l e s = mem_when (is_empty t) _ (empty_of t s.tiles) (Memᴰ.head refl)
splits_complete zero m c t (g ∷ gs) l e s = absurd (omega (arith, s.size))
splits_complete (suc n) m c t gs l e s = complete_step n (splits_complete n) m c t gs l e s

-- ---- the lists ascend
cons_before : (c n : ℕ) (t x y : List ℕ) → Splits (c + 1) t (suc n) y → Lex (c ∷ x) y
cons_before c n t x [] s = absurd (omega (arith, s.size))
cons_before c n t x (g ∷ y) s = inl (omega (arith, s.order.0))

module _ (n : ℕ) (rest : (m c : ℕ) (t : List ℕ) → length t ≡ 34 → Pairwise Lex (splits n m c t)) where
  ordered_step : (m c : ℕ) (t : List ℕ) → length t ≡ 34 → Pairwise Lex (step (splits n) m c t)
  unfolding step
  ordered_step zero c t l = ended
  ordered_step (suc m) c t l =
      pairwise_append
      (pairwise_when (fits t c) _ (λ f. pairwise_map (λ (gs : List ℕ). c ∷ gs) (λ x y h. inr (refl, h)) (rest (suc m) c (without t c) (without_long t c l))))
      (pairwise_when (passes t c) _ (λ f. ordered_step m (c + 1) t l))
      (each_when (fits t c) _ (λ f.
      each_map (λ (gs : List ℕ). c ∷ gs)
      (λ x u. each_when (passes t c) _ (λ g. each_imp (cons_before c n t x) (sound_step n (splits_sound n) m (c + 1) t l)))
      (splits_sound n (suc m) c (without t c) (without_long t c l))))

pub splits_ordered : (n m c : ℕ) (t : List ℕ) → length t ≡ 34 → Pairwise Lex (splits n m c t)
unfolding splits
splits_ordered zero m c t l = pairwise_when (is_empty t) _ (λ e. pairwise_one [])
splits_ordered (suc n) m c t l = ordered_step n (splits_ordered n) m c t l
