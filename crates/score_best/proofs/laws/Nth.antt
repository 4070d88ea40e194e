-- A search for the reading with a number goes through them all, and keeps that one with its worth.
use Rattle.std.specs.Prelude.{true, false, ◌≡◌, length, get_or}
use mathlib.Core.List.{List, [], ◌∷◌}
use Rattle.std.proofs.Math.Path.{refl, sym, subst}
use Rattle.std.proofs.Common.{◌∙◌, arith}
use Prim.Native.Nat.{ℕ, zero, suc, ◌+◌, ◌-◌, ◌≤◌, ◌<◌}
use borrow.Author.Tests.{eq-eqb, ne_eqb}
use Rattle.reading.specs.declared.Reading.{Reading}
use Rattle.reading.specs.search.Readings.{readings}
use Rattle.reading.specs.search.Folded.{folded}
use Rattle.reading.proofs.laws.Few.{readings_few}
use Rattle.points_value.specs.declared.Value.{Value}
use Rattle.score_best.specs.declared.Best.{Best}
use Rattle.score_best.specs.search.Best.{counted, none_of, taking, passing, keep_nth, keep_better, search_for}
use Rattle.score_best.proofs.laws.Tried.{counts_one}

-- the n-th is wanted, and nothing has ended the search
abbrev Wants : ℕ → Best → Type 0
Wants n b = (b.done ≡ false) × (b.wanted ≡ n)

module _ (worth : Reading → Value) (n : ℕ) (some : 0 < n) where
  -- ---- a reading

  takes : (b : Best) (r : Reading) → Wants n b → counted b.tried ≡ n → keep_better worth b r ≡ taking worth (λ _. false) b r
  unfolding keep_better keep_nth
  takes b r (d, w) e = rw (ne_eqb b.wanted 0 (λ z. omega (arith, z, w)), d, eq-eqb (counted b.tried) b.wanted (e ∙ sym w))

  passes : (b : Best) (r : Reading) → Wants n b → (counted b.tried ≡ n → ⊥) → keep_better worth b r ≡ passing worth (λ _. false) b r
  unfolding keep_better keep_nth
  passes b r (d, w) e = rw (ne_eqb b.wanted 0 (λ z. omega (arith, z, w)), d, ne_eqb (counted b.tried) b.wanted (λ z. e (z ∙ w)))

  -- ---- readings that are not the n-th

  -- what is kept of those before stays, and they are counted
  abbrev Stays : Best → ℕ → Best → Type 0
  Stays b k x = (x.valued ≡ b.valued) × (x.value ≡ b.value) × (x.reading ≡ b.reading) × (x.tried ≡ b.tried + k)

  -- the n-th is among those before, or behind them
  pub others : (rs : List Reading) (b : Best) → Wants n b → b.tried + length rs < 4294967295
      → ((k : ℕ) → b.tried < k → k ≤ b.tried + length rs → k ≡ n → ⊥) → Stays b (length rs) (folded (keep_better worth) b rs)
  unfolding folded
  others [] b w l o = (refl, refl, refl, omega arith)
  others (r ∷ rs) b w l o =
      let c = counts_one b.tried (omega arith) in
      let e = passes b r w (λ z. o (b.tried + 1) (omega arith) (omega arith) (sym c ∙ z)) in
      let x = passing worth (λ _. false) b r in
      let i = others rs x (refl, w.1) (omega (arith, c)) (λ k u v z. o k (omega (arith, c)) (omega (arith, c)) z) in
      let q : (folded (keep_better worth) x rs).tried ≡ b.tried + suc (length rs) = omega (arith, i.3, c) in
      subst (λ (y : Best). Stays b (suc (length rs)) (folded (keep_better worth) y rs)) (sym e) (i.0, i.1, i.2, q)

  -- ---- the n-th

  -- r is kept with its worth, and so many are counted
  abbrev pub Reaches : Reading → ℕ → Best → Type 0
  Reaches r k x = (x.valued ≡ true) × (x.value ≡ worth r) × (x.reading ≡ r) × (x.tried ≡ k)

  pub reaches : (d : Reading) (rs : List Reading) (i : ℕ) (b : Best) → Wants n b → b.tried + length rs < 4294967295 → i < length rs → b.tried + i + 1 ≡ n
      → Reaches (get_or rs i d) (b.tried + length rs) (folded (keep_better worth) b rs)
  unfolding folded
  reaches d [] i b w l h e = absurd (omega arith)
  reaches d (r ∷ rs) zero b w l h e =
      let c = counts_one b.tried (omega arith) in
      let t = takes b r w (c ∙ omega arith) in
      let x = taking worth (λ _. false) b r in
      let i = others rs x (refl, w.1) (omega (arith, c)) (λ k u v z. omega (arith, c)) in
      let q : (folded (keep_better worth) x rs).tried ≡ b.tried + suc (length rs) = omega (arith, i.3, c) in
      subst (λ (y : Best). Reaches r (b.tried + suc (length rs)) (folded (keep_better worth) y rs)) (sym t) (i.0, i.1, i.2, q)
  reaches d (r ∷ rs) (suc i) b w l h e =
      let c = counts_one b.tried (omega arith) in
      let p = passes b r w (λ z. omega (arith, c)) in
      let x = passing worth (λ _. false) b r in
      let j = reaches d rs i x (refl, w.1) (omega (arith, c)) (omega arith) (omega (arith, c)) in
      let q : (folded (keep_better worth) x rs).tried ≡ b.tried + suc (length rs) = omega (arith, j.3, c) in
      subst (λ (y : Best). Reaches (get_or rs i d) (b.tried + suc (length rs)) (folded (keep_better worth) y rs)) (sym p) (j.0, j.1, j.2, q)

  -- ---- of a tally

  module _ (tally : List ℕ) (m win : ℕ) where
    abbrev rs : List Reading
    rs = readings tally m win

    few : 0 + length rs < 4294967295
    few = omega (arith, readings_few tally m win)

    -- there are fewer
    pub over : length rs < n → let x = search_for worth n tally m win in (x.valued ≡ false) × (x.tried ≡ length rs)
    unfolding search_for none_of
    over h =
        let i = others rs (none_of n) (refl, refl) few (λ k u v z. omega arith) in
        (i.0, omega (arith, i.3))

    -- it is reached
    pub reached : (d : Reading) → n ≤ length rs → Reaches (get_or rs (n - 1) d) (length rs) (search_for worth n tally m win)
    unfolding search_for none_of
    reached d h =
        let i = reaches d rs (n - 1) (none_of n) (refl, refl) few (omega arith) (omega arith) in
        (i.0, i.1, i.2, omega (arith, i.3))
