-- `score_search::shapes` meets its contract: each shape where its test holds, and none after a yakuman.
use mathlib.Core.Bool.{false}
use mathlib.Core.Path.{◌≡◌, sym, ap, ◌∙◌}
use mathlib.Core.Logic.{⊎_elim}
use mathlib.Core.List.{[], ◌∷◌}
use Prim.Native.Nat.{ℕ, ◌≤◌}
use native.Mathlib.Omega.{arith}
use borrow.Author.Rules.{rules}
use Rattle.reading.specs.declared.Reading.{Reading}
use Rattle.reading.specs.Reading.{is_seven_pairs, of_shape}
use Rattle.reading.specs.search.Folded.{folded}
use Rattle.reading.specs.search.Readings.{when}
use Rattle.reading.proofs.laws.Fold.{folded_with, folded_none, folded_still, shaped_with, shaped_none}
use Rattle.score_best.specs.search.HandCommon.{worth_in}
use Rattle.score_best.specs.search.Best.{keep_better}
use Rattle.score_best.proofs.laws.Tried.{done_still}
use Rattle.score_search.proofs.shapes.Statement.{statement}
use Rattle.score_search.proofs.shapes.Tie as tie

abbrev start : tie.After-is_seven_pairs → tie.Start
start c = let else1 = c.before in else1.before

paired : (c : tie.Joined-is_seven_pairs) → let a = (start c.before).args in
    c.if-is_seven_pairs.b ≡ folded (keep_better (worth_in a.h)) a.best (when (is_seven_pairs a.t) (λ _. of_shape 1 ∷ []))
paired c =
    ⊎_elim
    (λ w. w.b-is ∙ folded_with (keep_better _) _ _ _ _ (sym c.before.is_seven_pairs.ensures ∙ w.if-is_seven_pairs.true)
    (w.keep_better-b.ensures ∙ ap (keep_better _ _) w.of_shape.ensures))
    (λ w. w.b-is ∙ folded_none (keep_better _) _ _ _ (sym c.before.is_seven_pairs.ensures ∙ w.if-is_seven_pairs.false))
    c.if-is_seven_pairs.branch-raw

going : (c : tie.Joined-is_seven_pairs) → c.if-is_seven_pairs.b.done ≡ false
going c = ⊎_elim (λ w. rw w.b-is w.if-b.false) (λ w. rw w.b-is (start c.before).requires.1) c.if-is_seven_pairs.branch-raw

place_zero : (r : Reading) (f : ℕ) → r ≡ of_shape f → r.place ≤ 4
place_zero r f e = rw e (omega arith)

pub shapes_spec : {M : Type 1} → statement M
shapes_spec =
    tie.close
    (tie.spec (λ c. shaped_none (keep_better _) _ _ _ c.if-m-ne0.true)
    (λ c κs. search rules) (λ c κs. search rules)
    (λ c κs.
    let then2 = c.before in let s = start then2.before in
    (s.requires.0, place_zero c.of_shape.result 1 c.of_shape.ensures, s.requires.1))
    (λ c.
    let of-shape = c.before.before in let then2 = of-shape.before in let pairs = then2.before in
    shaped_with (keep_better _) _ _ _ _ _ pairs.before.if-m-ne0.false
    (folded_with (keep_better _) _ _ _ _ (sym pairs.is_seven_pairs.ensures ∙ then2.if-is_seven_pairs.true)
    (c.before.keep_better-b.ensures ∙ ap (keep_better _ _) of-shape.of_shape.ensures))
    (folded_still (keep_better _) _ (done_still _ _ c.if-b.true) _))
    (λ c κs. search rules) (λ c κs. search rules)
    (λ c κs.
    let orphans = c.before.before in let joined2 = orphans.before in
    ((start joined2.before).requires.0, place_zero c.of_shape-then-is_orphans.result 2 c.of_shape-then-is_orphans.ensures, going joined2))
    (λ c.
    let then4 = c.before.before in let orphans = then4.before in let joined2 = orphans.before in
    shaped_with (keep_better _) _ _ _ _ _ joined2.before.before.if-m-ne0.false (paired joined2)
    (folded_with (keep_better _) _ _ _ _ (sym orphans.is_orphans.ensures ∙ then4.if-is_orphans.true)
    (c.keep_better-b-then-is_orphans.ensures ∙ ap (keep_better _ _) c.before.of_shape-then-is_orphans.ensures)))
    (λ c.
    let joined2 = c.before.before in
    shaped_with (keep_better _) _ _ _ _ _ joined2.before.before.if-m-ne0.false (paired joined2)
    (folded_none (keep_better _) _ _ _ (sym c.before.is_orphans.ensures ∙ c.if-is_orphans.false))))
