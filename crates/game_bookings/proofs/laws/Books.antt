-- What the code makes of an entry is what `Books` says.
use Rattle.std.specs.Prelude.{◌≡◌, Bool, true, false, ◌&&◌, ℕ, ltb, ◌<◌}
use Rattle.std.proofs.Math.Path.{refl, sym, ap}
use Rattle.std.proofs.Common.{◌∙◌, arith, ltb-true, ltb-false}
use Rattle.std.proofs.Math.Bool.{cond}
use Rattle.std.proofs.lemmas.Bool.{false≢true}
use Rattle.position.specs.declared.Position.{Position}
use Rattle.position.specs.Booking.{Result, Booking, result}
use Rattle.position.specs.Ledger.{is_set, mark, out_of_form, refusal_for, effect_of, after, Moves}
use Rattle.position.proofs.laws.Each.{accepted_form}
use Rattle.game.specs.declared.Game.{Game}
use Rattle.game.specs.Game.{Entry, booking, correction, game_out_of_form, game_refusal, with_entry, game_after}
use Rattle.game.specs.Runs.{Books}
use Rattle.game.proofs.laws.After.{after_refused, after_accepted, correction_listed, as_in_earlier, as_now}
use Rattle.game_bookings.specs.search.Books.{correction_refusal, checked_in}

-- ---- an entry that is refused

-- the game stays
refused : (g : Game) (e : Entry) (n : ℕ) → n ≡ game_refusal g e → 0 < n → Books g e n g
refused g e n s h = (s, sym (after_refused g e (rw (← s) h)))

-- ---- a booking

-- where it meets what it meets in the game
checked_refusal : (g : Game) (b : Booking) → game_refusal g (booking b) ≡ refusal_for (checked_in g) b
checked_refusal g b = go (is_set g.correctable) (out_of_form g.earlier) refl refl
  where
    go : (t o : Bool) → is_set g.correctable ≡ t → out_of_form g.earlier ≡ o → game_refusal g (booking b) ≡ refusal_for (cond (t && o) g.earlier g.now) b
    go true true h q = as_in_earlier g h q b
    go true false h q = as_now g (rw (h, q)) b
    go false o h q = as_now g (rw h) b

-- accepted: that position is in form, and so it is the one that stands
checked_accepted : (g : Game) (b : Booking) → refusal_for (checked_in g) b ≡ 0 → checked_in g ≡ g.now
checked_accepted g b e = go (is_set g.correctable) (out_of_form g.earlier) refl (accepted_form (checked_in g) b e)
  where
    go : (t o : Bool) → out_of_form g.earlier ≡ o → out_of_form (cond (t && o) g.earlier g.now) ≡ false → cond (t && o) g.earlier g.now ≡ g.now
    go true true q f = absurd (false≢true (sym f ∙ q))
    go true false q f = refl
    go false o q f = refl

module _ (g : Game) (b : Booking) where
  pub booking_refused : (n : ℕ) → n ≡ refusal_for (checked_in g) b → 0 < n → Books g (booking b) n g
  booking_refused n e h = refused g (booking b) n (e ∙ sym (checked_refusal g b)) h

  pub booking_accepted : (p : Position) → Moves (checked_in g) b 0 p → (n : ℕ) → n ≡ mark (effect_of g.now b).finishes
      → Books g (booking b) 0 (record { now = p; earlier = g.now; correctable = n })
  unfolding with_entry
  booking_accepted p m n f =
      let same : 0 ≡ game_refusal g (booking b) = m.0 ∙ sym (checked_refusal g b) in
      let at : p ≡ after g.now b = m.1 ∙ ap (λ (l : Position). after l b) (checked_accepted g b (sym m.0)) in
      (same, rw (at, f) (sym (after_accepted g (booking b) (sym same))))

-- ---- a correction

module _ (g : Game) (r : Result) where
  pub correction_out : game_out_of_form g ≡ true → Books g (correction r) 9 g
  correction_out o = refused g (correction r) 9 (sym (correction_listed g r ∙ rw o)) (omega arith)

  module _ (o : game_out_of_form g ≡ false) where
    pub correction_none : is_set g.correctable ≡ false → Books g (correction r) 20 g
    correction_none h = refused g (correction r) 20 (sym (correction_listed g r ∙ rw (o, h))) (omega arith)

    module _ (h : is_set g.correctable ≡ true) where
      carried : game_refusal g (correction r) ≡ refusal_for g.earlier (result r)
      carried = correction_listed g r ∙ rw (o, h)

      pub correction_refused : (n : ℕ) → n ≡ refusal_for g.earlier (result r) → 0 < n → Books g (correction r) n g
      correction_refused n e s = refused g (correction r) n (e ∙ sym carried) s

      pub correction_accepted : (p : Position) → Moves g.earlier (result r) 0 p
          → Books g (correction r) 0 (record { now = p; earlier = g.earlier; correctable = 1 })
      unfolding with_entry
      correction_accepted p m =
          let same : 0 ≡ game_refusal g (correction r) = m.0 ∙ sym carried in
          (same, rw m.1 (sym (after_accepted g (correction r) (sym same))))

-- ---- both at once: n and p are what the booking, or the correction's result, gives in its position
module _ (g : Game) (n : ℕ) (p : Position) where
  pub booking_books : (b : Booking) → Moves (checked_in g) b n p → (correctable : ℕ) → (effect_of g.now b).finishes ≡ is_set correctable
      → mark (is_set correctable) ≡ correctable
      → Books g (booking b) n (cond (ltb 0 n) g (record { now = p; earlier = g.now; correctable = correctable }))
  booking_books b m correctable f e = go (ltb 0 n) refl
    where
      go : (t : Bool) → ltb 0 n ≡ t → Books g (booking b) n (cond t g (record { now = p; earlier = g.now; correctable = correctable }))
      go true q = booking_refused g b n m.0 (ltb-true 0 n q)
      go false q =
          let z : n ≡ 0 = omega (arith, ltb-false 0 n q) in
          let r : Books g (booking b) 0 (record { now = p; earlier = g.now; correctable = correctable })
          = booking_accepted g b p (sym z ∙ m.0, m.1) correctable (sym (rw f e)) in
          (z ∙ r.0, r.1)

  pub correction_books : (r : Result) → Moves g.earlier (result r) n p
      → Books g (correction r) (correction_refusal g n) (cond (ltb 0 (correction_refusal g n)) g (record { now = p; earlier = g.earlier; correctable = 1 }))
  unfolding game_after with_entry
  correction_books r m = rw (correction_listed g r, ← m.0, ← m.1) (refl, refl)
