-- The first group is taken off, and then the others.
use Rattle.std.proofs.Common.{◌≡◌, ◌≤◌, ℕ, suc, ◌-◌, ◌&&◌, List, [], ◌∷◌, length, get_or, take, drop, refl, sym, ◌∙◌, arith}
use Rattle.std.proofs.lemmas.List.{take_all}
use Rattle.reading.specs.search.Readings.{is_empty, fits, without}
use Rattle.claim.specs.search.Verdict.{strip}
use Rattle.claim.proofs.+splits_as.Goals as goal

none : (t g : List ℕ) → length g ≤ 0 → is_empty t ≡ strip t g
unfolding strip
none t [] h = refl
none t (x ∷ g) h = absurd (omega arith)

one : (t g : List ℕ) → 1 ≤ length g → fits t (get_or g 0 0) && strip (without t (get_or g 0 0)) (take (length g - 1) (drop 1 g)) ≡ strip t g
unfolding strip
one t [] h = absurd (omega arith)
one t (x ∷ g) h = let e : suc (length g) - 1 ≡ length g = omega arith in rw (e, take_all (length g) g (omega arith))

pub returns-in-empty : goal.returns-in-empty
returns-in-empty t c = c.is_empty.ensures ∙ none _ _ (omega (arith, c.in-empty.len_below))

pub returns-then-fits : goal.returns-then-fits
returns-then-fits t c =
    c.splits_as.ensures ∙ rw c.without.ensures (rw (sym c.if-fits.ensures) at (one c.args.t c.args.groups.now c.in-len1-up.len_at_least))

pub returns-else-fits : goal.returns-else-fits
returns-else-fits t c = c.if-fits.false ∙ rw (sym c.if-fits.ensures) at (one c.args.t c.args.groups.now c.in-len1-up.len_at_least)
