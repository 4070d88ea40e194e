-- `points::changes` meets its contract.
use Rattle.std.proofs.Common.{◌≡◌, ℤ, pos, List, [], ◌∷◌, length, get_or, refl, ◌∙◌, rules, arith}
use Rattle.points.specs.Points.{change, changes}
use Rattle.points.proofs.changes.Goals as goal

-- a list of four by its elements
four : (d : ℤ) (l : List ℤ) → length l ≡ 4 → l ≡ get_or l 0 d ∷ get_or l 1 d ∷ get_or l 2 d ∷ get_or l 3 d ∷ []
four d [] e = absurd (omega (arith, e))
four d (a ∷ []) e = absurd (omega (arith, e))
four d (a ∷ b ∷ []) e = absurd (omega (arith, e))
four d (a ∷ b ∷ c ∷ []) e = absurd (omega (arith, e))
four d (a ∷ b ∷ c ∷ x ∷ []) e = refl
four d (a ∷ b ∷ c ∷ x ∷ y ∷ l) e = absurd (omega (arith, e))

pub returns : goal.returns
unfolding change changes
returns c =
    let r = c.map.result in
    let at0 : get_or r 0 (pos 0) ≡ change c.args.s c.args.ron c.args.a.0 0 = search rules in
    let at1 : get_or r 1 (pos 0) ≡ change c.args.s c.args.ron c.args.a.0 1 = search rules in
    let at2 : get_or r 2 (pos 0) ≡ change c.args.s c.args.ron c.args.a.0 2 = search rules in
    let at3 : get_or r 3 (pos 0) ≡ change c.args.s c.args.ron c.args.a.0 3 = search rules in
    four (pos 0) r (search rules) ∙ rw (at0, at1, at2, at3)
