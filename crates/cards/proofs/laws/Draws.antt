-- The enumeration `draws` lists exactly the ends of cards, in ascending order.
use Rattle.std.specs.Prelude.{◌≡◌, Bool, ltb, length, set}
use Rattle.std.proofs.Math.Path.{refl, sym, ap, subst}
use Rattle.std.proofs.Math.Bool.{true, false, cond}
use Rattle.std.proofs.Common.{inl, le_refl, eq-or-lt_of_le, length-set, get_or-set_same, get_or-set_other}
use Rattle.std.proofs.Math.Logic.{inr, ⊎_elim}
use mathlib.Core.List.Memᴰ
use mathlib.Core.List.{List, [], ◌∷◌, map, Memᴰ}
use Prim.Native.Nat.{ℕ, zero, suc, ◌+◌, ◌≤◌, ◌<◌}
use Rattle.std.proofs.Math.Nat.{add-zero}
use native.Mathlib.Omega.{arith}
use borrow.Author.Tests.{lt-ltb, ltb-true, eqb-true, eqb-false}
use Rattle.std.proofs.Math.Dec.{eqb}
use Rattle.std.proofs.Math.ListN.{get_or}
use Rattle.tiles.specs.Groups.{at_kind}
use Rattle.tiles.specs.Tally.{more}
use Rattle.tiles.proofs.laws.Tally.{of_kind}
use Rattle.reading.specs.Order.{Lex}
use Rattle.reading.specs.All.{Each, none, also as each, Pairwise, ended}
use Rattle.reading.specs.search.Readings.{when}
use Rattle.reading.proofs.laws.Groups.{at_same}
use Rattle.reading.proofs.laws.Lists.{each_append, each_map, each_imp, each_when, pairwise_append, pairwise_when, pairwise_one, pairwise_map, mem_when}
use Rattle.reading_splits.specs.Splits.{Splits}
use Rattle.reading_splits.specs.search.SplitsInto.{splits_into}
use Rattle.reading_splits.proofs.laws.SplitsInto.{splits_exactly}
use Rattle.cards.specs.search.Draws.{draw, draws}
use Rattle.cards.proofs.laws.Tiles.{Rising, each_head, each_tail, at_or, splits_cong}

-- ---- one tile more
module _ (t : List ℕ) (a : ℕ) (l : a < length t) where
  more_at : (k : ℕ) → get_or (more t a 1) k 0 ≡ get_or t k 0 + at_kind a 1 k
  unfolding more at_kind
  more_at k = go (eqb a k) refl
    where
      go : (b : Bool) → eqb a k ≡ b → get_or (set t a (get_or t a 0 + 1)) k 0 ≡ get_or t k 0 + cond b 1 0
      go true e =
          let q : a ≡ k = eqb-true a k e in
          rw (← q) (get_or-set_same t a (get_or t a 0 + 1) 0 l)
      go false e = rw add-zero (get_or-set_other t a k (get_or t a 0 + 1) 0 (λ q. eqb-false a k e (sym q)))

pub more_long : (t : List ℕ) (a : ℕ) → length t ≡ 34 → length (more t a 1) ≡ 34
unfolding more
more_long t a l = rw length-set l

-- the m tiles l end a card of n groups behind the tiles t: from a on, below `end`
pub record Ends (n end a : ℕ) (t : List ℕ) (m : ℕ) (l : List ℕ) : Type 0 where
  pub size : length l ≡ m
  pub order : Rising a l
  pub kinds : Each (λ k. k < end) l
  pub four : (k : ℕ) → get_or t k 0 + of_kind l k ≤ 4
  pub splits : Splits n (λ k. get_or t k 0 + of_kind l k)

-- what is known of the tiles so far
pub record Fine (end : ℕ) (t : List ℕ) : Type 0 where
  pub long : length t ≡ 34
  pub last : end ≤ 34
  pub four : (k : ℕ) → get_or t k 0 ≤ 4

fine_more : {end : ℕ} (a : ℕ) (t : List ℕ) → Fine end t → a < end → ltb (get_or t a 0) 4 ≡ true → Fine end (more t a 1)
fine_more {end} a t f h e =
    let m = more_at t a (omega (arith, f.long, f.last)) in
    let b = ltb-true (get_or t a 0) 4 e in
    record {
      long = more_long t a f.long;
      last = f.last;
      four = λ k. at_or a 1 k (λ q z. let c : get_or t k 0 < 4 = rw (← q) b in omega (arith, m k)) (λ n z. omega (arith, m k, f.four k));
    }

-- ---- each list is an end
later_order : (l : List ℕ) (a : ℕ) → Rising (a + 1) l → Rising a l
later_order [] a o = tt
later_order (x ∷ l) a o = (omega (arith, o.0), o.1)

module _ (n end : ℕ) where
  later_ends : (a : ℕ) (t : List ℕ) (m : ℕ) (l : List ℕ) → Ends n end (a + 1) t m l → Ends n end a t m l
  later_ends a t m l s = record { size = s.size; order = later_order l a s.order; kinds = s.kinds; four = s.four; splits = s.splits }

  cons_ends : (a : ℕ) (t : List ℕ) (m : ℕ) → Fine end t → a < end → (l : List ℕ) → Ends n end a (more t a 1) m l → Ends n end a t (suc m) (a ∷ l)
  unfolding of_kind
  cons_ends a t m f h l s =
      let e = more_at t a (omega (arith, f.long, f.last)) in
      record {
        size = ap suc s.size;
        order = (le_refl a, s.order);
        kinds = each h s.kinds;
        four = λ k. omega (arith, e k, s.four k);
        splits = splits_cong (λ k. omega (arith, e k)) s.splits;
      }

  module _ (m : ℕ) (rest : (j a : ℕ) (t : List ℕ) → a + j ≡ end → Fine end t → Each (Ends n end a t m) (draws n m j a t)) where
    sound_step : (j a : ℕ) (t : List ℕ) → a + j ≡ end → Fine end t → Each (Ends n end a t (suc m)) (draw (draws n m) j a t)
    unfolding draw
    sound_step zero a t e f = none
    sound_step (suc j) a t e f =
        each_append
        (each_when (ltb (get_or t a 0) 4) _ (λ b. each_map _ (cons_ends a t m f (omega arith)) (rest (suc j) a (more t a 1) e (fine_more a t f (omega arith) b))))
        (each_imp (later_ends a t (suc m)) (sound_step j (a + 1) t (omega arith) f))

  pub draws_sound : (m j a : ℕ) (t : List ℕ) → a + j ≡ end → Fine end t → Each (Ends n end a t m) (draws n m j a t)
  unfolding draws of_kind
  draws_sound zero j a t e f =
      each_when (splits_into (suc n) true t) _ (λ b.
      each
      (record {
        size = refl;
        order = tt;
        kinds = none;
        four = λ k. omega (arith, f.four k);
        splits = splits_cong (λ k. add-zero (get_or t k 0)) ((splits_exactly n t f.long).0 b);
      })
      none)
  draws_sound (suc m) j a t e f = sound_step m (draws_sound m) j a t e f

  -- ---- each end is listed
  module _ (a : ℕ) (t : List ℕ) (m : ℕ) (l : List ℕ) (f : Fine end t) (h : a < end) (s : Ends n end a t (suc m) (a ∷ l)) where
    head_room : ltb (get_or t a 0) 4 ≡ true
    unfolding of_kind
    head_room = lt-ltb (get_or t a 0) 4 (omega (arith, s.four a, at_same a 1))

    tail_ends : Ends n end a (more t a 1) m l
    unfolding of_kind
    tail_ends =
        let e = more_at t a (omega (arith, f.long, f.last)) in
        record {
          size = omega (arith, s.size);
          order = s.order.1;
          kinds = each_tail s.kinds;
          four = λ k. omega (arith, e k, s.four k);
          splits = splits_cong (λ k. omega (arith, e k)) s.splits;
        }

  module _ (m : ℕ) (rest : (j a : ℕ) (t l : List ℕ) → a + j ≡ end → Fine end t → Ends n end a t m l → Memᴰ l (draws n m j a t)) where
    complete_step : (j a : ℕ) (t l : List ℕ) → a + j ≡ end → Fine end t → Ends n end a t (suc m) l → Memᴰ l (draw (draws n m) j a t)
    unfolding draw
    complete_step j a t [] e f s = absurd (omega (arith, s.size))
    complete_step zero a t (x ∷ l) e f s = absurd (omega (arith, s.order.0, each_head s.kinds))
    complete_step (suc j) a t (x ∷ l) e f s =
        ⊎_elim
        (λ q.
        let h : a < end = omega arith in
        let s' : Ends n end a t (suc m) (a ∷ l) = subst (λ (y : ℕ). Ends n end a t (suc m) (y ∷ l)) (sym q) s in
        let b = head_room a t m l f h s' in
        rw (← q)
        (Memᴰ.append_left _ (mem_when (ltb (get_or t a 0) 4) _ b
        (Memᴰ.map _ (rest (suc j) a (more t a 1) l e (fine_more a t f h b) (tail_ends a t m l f h s'))))))
        (λ h.
        let o : Rising (a + 1) (x ∷ l) = (omega arith, s.order.1) in
        Memᴰ.append_right (when (ltb (get_or t a 0) 4) (λ _. map (λ (l : List ℕ). a ∷ l) (draws n m (suc j) a (more t a 1))))
        (complete_step j (a + 1) t (x ∷ l) (omega arith) f (record { size = s.size; order = o; kinds = s.kinds; four = s.four; splits = s.splits })))
        (eq-or-lt_of_le s.order.0)

  pub draws_complete : (m j a : ℕ) (t l : List ℕ) → a + j ≡ end → Fine end t → Ends n end a t m l → Memᴰ l (draws n m j a t)
  unfolding draws of_kind
  draws_complete zero j a t [] e f s =
      mem_when (splits_into (suc n) true t) _ ((splits_exactly n t f.long).1 (splits_cong (λ k. sym (add-zero (get_or t k 0))) s.splits))
      (Memᴰ.head refl)
  draws_complete zero j a t (x ∷ l) e f s = absurd (omega (arith, s.size))
  draws_complete (suc m) j a t l e f s = complete_step m (draws_complete m) j a t l e f s

  -- ---- the lists ascend
  cons_before : (a : ℕ) (t : List ℕ) (m : ℕ) (x y : List ℕ) → Ends n end (a + 1) t (suc m) y → Lex (a ∷ x) y
  cons_before a t m x [] s = absurd (omega (arith, s.size))
  cons_before a t m x (b ∷ y) s = inl (omega (arith, s.order.0))

  module _ (m : ℕ) (rest : (j a : ℕ) (t : List ℕ) → a + j ≡ end → Fine end t → Pairwise Lex (draws n m j a t)) where
    ordered_step : (j a : ℕ) (t : List ℕ) → a + j ≡ end → Fine end t → Pairwise Lex (draw (draws n m) j a t)
    unfolding draw
    ordered_step zero a t e f = ended
    ordered_step (suc j) a t e f =
        pairwise_append
        (pairwise_when (ltb (get_or t a 0) 4) _ (λ b. pairwise_map (λ (l : List ℕ). a ∷ l) (λ x y h. inr (refl, h))
        (rest (suc j) a (more t a 1) e (fine_more a t f (omega arith) b))))
        (ordered_step j (a + 1) t (omega arith) f)
        (each_when (ltb (get_or t a 0) 4) _ (λ b.
        each_map (λ (l : List ℕ). a ∷ l)
        (λ x u. each_imp (cons_before a t m x) (sound_step m (draws_sound m) j (a + 1) t (omega arith) f))
        (draws_sound m (suc j) a (more t a 1) e (fine_more a t f (omega arith) b))))

  pub draws_ordered : (m j a : ℕ) (t : List ℕ) → a + j ≡ end → Fine end t → Pairwise Lex (draws n m j a t)
  unfolding draws
  draws_ordered zero j a t e f = pairwise_when (splits_into (suc n) true t) _ (λ b. pairwise_one [])
  draws_ordered (suc m) j a t e f = ordered_step m (draws_ordered m) j a t e f
