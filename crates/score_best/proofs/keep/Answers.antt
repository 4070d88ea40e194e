-- By whether the reading has a yaku and beats what is kept.
use Rattle.std.proofs.Common.{◌≡◌, ℕ, Bool, true, false, ◌&&◌, ◌||◌, ◌+◌, ◌-◌, ◌^◌, ◌<◌, min, not, ltb, eqb, refl, ◌∙◌, arith, ltb-true, ltb-false}
use Rattle.points_value.specs.declared.Worth.{Worth}
use Rattle.score_best.specs.declared.Best.{Best}
use Rattle.score_best.specs.search.Best.{beats, counted, keep_of}
use Rattle.score_best.proofs.keep.Goals as goal

-- a count stays at its highest
counted_is : (n : ℕ) → n < 2 ^ 32 → min (n + 1) (2 ^ 32 - 1) ≡ counted n
unfolding counted
counted_is n h = go (ltb n 4294967295) refl
  where
    go : (e : Bool) → ltb n 4294967295 ≡ e → min (n + 1) 4294967295 ≡ counted n
    go true e = let l = ltb-true n 4294967295 e in rw e (omega arith)
    go false e = let l = ltb-false n 4294967295 e in rw e (omega arith)

-- the test by what `beats` gave and what is counted
by : (b : Best) (v : Worth) (y x : Bool) (n : ℕ) → y ≡ beats v.value b.value → n ≡ counted b.tried
    → (eqb b.wanted 0 && (v.any && (not b.valued || y))) || eqb n b.wanted ≡ x
    → (eqb b.wanted 0 && (v.any && (not b.valued || beats v.value b.value))) || eqb (counted b.tried) b.wanted ≡ x
by b v y x n ey en e = rw (← ey, ← en) e

pub returns-then-best-v : goal.returns-then-best-v
unfolding keep_of
returns-then-best-v c =
    let a = c.args in
    let n = c.saturating_add-tried.ensures ∙ counted_is a.b.tried (omega arith) in
    rw (by a.b a.v c.beats.result true _ c.beats.ensures n c.if-best-v.true, n)

pub returns-else-best-v : goal.returns-else-best-v
unfolding keep_of
returns-else-best-v c =
    let a = c.args in
    let n = c.saturating_add-tried.ensures ∙ counted_is a.b.tried (omega arith) in
    rw (by a.b a.v c.beats.result false _ c.beats.ensures n c.if-best-v.false, n)
