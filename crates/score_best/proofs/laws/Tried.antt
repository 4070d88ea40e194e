-- The search counts the readings up to the first that ends it.
use Rattle.std.specs.Prelude.{Bool, ◌&&◌, ◌||◌, not, ◌≡◌, ℕ, ◌+◌, ◌≤◌, ◌<◌, eqb, length}
use Rattle.std.proofs.Math.Bool.{true, false, cond}
use mathlib.Core.List.{List, [], ◌∷◌}
use Rattle.std.proofs.Math.Path.{refl}
use Rattle.std.proofs.Common.{sym, ap, ◌∙◌, zero-add, lt-ltb}
use native.Mathlib.Omega.{arith}
use Rattle.reading.specs.declared.Reading.{Reading}
use Rattle.reading.specs.search.Readings.{readings}
use Rattle.reading.specs.search.Folded.{folded}
use Rattle.reading.proofs.laws.Few.{readings_few}
use Rattle.reading.proofs.laws.Fold.{folded_still}
use Rattle.points_value.specs.declared.Value.{Value}
use Rattle.score_best.specs.declared.Best.{Best}
use Rattle.score_best.specs.Best.{with_yaku, with_yakuman, up_to}
use Rattle.score_best.specs.search.Best.{beats, counted, none_of, taking, passing, keep_better_by, keep_nth, keep_better, best_of}

pub up_to_cong : {A : Type 0} (p q : A → Bool) (l : List A) → ((x : A) → p x ≡ q x) → up_to p l ≡ up_to q l
unfolding up_to
up_to_cong p q [] h = refl
up_to_cong p q (x ∷ l) h = rw (h x, up_to_cong p q l h)

pub counts_one : (n : ℕ) → n < 4294967295 → counted n ≡ n + 1
unfolding counted
counts_one n l = rw (lt-ltb n 4294967295 l)

module _ (worth : Reading → Value) (ends : Reading → Bool) where
  -- once it is done no reading moves what is kept
  still : (b : Best) → b.done ≡ true → (r : Reading) → keep_better_by worth ends b r ≡ b
  unfolding keep_better_by
  still b e r = rw e

  next : (b : Best) (r : Reading) → b.done ≡ false → ((keep_better_by worth ends b r).done ≡ ends r) × ((keep_better_by worth ends b r).tried ≡ counted b.tried)
  unfolding keep_better_by
  next b r e = rw e (go (with_yaku worth r && (not b.valued || beats (worth r) b.value)))
    where
      go : (c : Bool) → let x = cond {A = Best} c (taking worth ends b r) (passing worth ends b r) in (x.done ≡ ends r) × (x.tried ≡ counted b.tried)
      go true = (refl, refl)
      go false = (refl, refl)

  tried_from : (rs : List Reading) (b : Best) → b.done ≡ false → b.tried + length rs ≤ 4294967295
      → (folded (keep_better_by worth ends) b rs).tried ≡ b.tried + length (up_to ends rs)
  unfolding folded up_to
  tried_from [] b e l = omega arith
  tried_from (r ∷ rs) b e l = go (ends r) refl (λ f. tried_from rs (keep_better_by worth ends b r) ((next b r e).0 ∙ f) (omega (arith, n)))
    where
      n : (keep_better_by worth ends b r).tried ≡ b.tried + 1
      n = (next b r e).1 ∙ counts_one b.tried (omega arith)

      go : (c : Bool) → ends r ≡ c
          → (ends r ≡ false → (folded (keep_better_by worth ends) (keep_better_by worth ends b r) rs).tried
          ≡ (keep_better_by worth ends b r).tried + length (up_to ends rs))
          → (folded (keep_better_by worth ends) (keep_better_by worth ends b r) rs).tried ≡ b.tried + length (r ∷ cond c [] (up_to ends rs))
      go true f i =
          let s = folded_still (keep_better_by worth ends) (keep_better_by worth ends b r) (still (keep_better_by worth ends b r) ((next b r e).0 ∙ f)) rs in
          ap (λ (x : Best). x.tried) (sym s) ∙ n
      go false f i = omega (arith, i f, n)

nth_still : (worth : Reading → Value) (b : Best) → b.done ≡ true → (r : Reading) → keep_nth worth b r ≡ b
unfolding keep_nth
nth_still worth b e r = rw e

-- whatever is wanted
pub done_still : (worth : Reading → Value) (b : Best) → b.done ≡ true → (r : Reading) → keep_better worth b r ≡ b
unfolding keep_better
done_still worth b e r = go (eqb b.wanted 0)
  where
    go : (c : Bool) → cond c (keep_better_by worth (with_yakuman worth) b r) (keep_nth worth b r) ≡ b
    go true = still worth (with_yakuman worth) b e r
    go false = nth_still worth b e r

-- "how many readings it tried"
pub tried_all : (worth : Reading → Value) (tally : List ℕ) (m win : ℕ)
    → (best_of worth tally m win).tried ≡ length (up_to (with_yakuman worth) (readings tally m win))
unfolding best_of none_of
tried_all worth tally m win =
    let e = tried_from worth (with_yakuman worth) (readings tally m win) (none_of 0) refl (omega (arith, readings_few tally m win)) in
    e ∙ zero-add (length (up_to (with_yakuman worth) (readings tally m win)))
