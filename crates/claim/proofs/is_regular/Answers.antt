-- The pair is there, and taking off the groups leaves no tile.
use Rattle.std.proofs.Common.{◌≡◌, ◌<◌, ◌≤◌, ℕ, Bool, false, ◌&&◌, List, get_or, take, le-leb}
use Rattle.std.proofs.lemmas.Bool.{lt-leb}
use Rattle.reading.specs.Reading.{holds}
use Rattle.reading.specs.search.Readings.{less}
use Rattle.claim.specs.search.Verdict.{strip, regularly}
use Rattle.claim.proofs.is_regular.Goals as goal

module _ (t : List ℕ) (n win pair : ℕ) (groups : List ℕ) (place : ℕ) where
  short : get_or t pair 0 < 2 → false ≡ regularly t n win pair groups place
  unfolding regularly
  short h = rw (lt-leb 2 (get_or t pair 0) h)

  made : 2 ≤ get_or t pair 0 → (u : List ℕ) (a h : Bool) → u ≡ less t pair 2 → a ≡ strip u (take n groups) → h ≡ holds pair groups place win
      → a && h ≡ regularly t n win pair groups place
  unfolding regularly
  made l u a h eu ea eh = rw (le-leb 2 (get_or t pair 0) l, ea, eh, eu)

pub returns-then-t-k-lt2 : goal.returns-then-t-k-lt2
returns-then-t-k-lt2 c = short _ _ _ _ _ _ c.if-t-k-lt2.true

pub returns : goal.returns
returns c =
    made _ _ _ _ _ _ c.if-t-k-lt2.false c.without_pair.result c.splits_as.result c.holds.result c.without_pair.ensures c.splits_as.ensures c.holds.ensures
