-- `yaku_groups::straight` meets its contract.
use Rattle.std.proofs.Common.{◌≡◌, ◌∙◌, refl, ℕ, ◌+◌, Bool, true, false, ◌&&◌, ◌||◌, List, [], ◌∷◌, rules, tests}
use Rattle.std.specs.List.{list_any}
use Rattle.std.proofs.lemmas.Iterator.{YieldsList-from_slice}
use Rattle.std.proofs.lemmas.Iterator.Search.{any_from_yields_List}
use Rattle.yaku_basics.specs.Tests.{has, straight}
use Rattle.yaku_groups.proofs.straight.Goals as goal

three : (a b c : Bool) → (a || (b || (c || false))) ≡ ((a || b) || c)
three true b c = refl
three false true c = refl
three false false true = refl
three false false false = refl

pub returns : goal.returns
unfolding straight
returns c =
    let g = c.args.g in
    let test : ℕ → Bool = λ k. has g k && has g (k + 3) && has g (k + 6) in
    let xs : List ℕ = 0 ∷ 9 ∷ 18 ∷ [] in
    let found : c.any.result ≡ list_any test xs =
    any_from_yields_List test _ _ c.any.result c.any.ensures.ran (YieldsList-from_slice xs cc) (λ x b q k. search (rules, tests)) in
    found ∙ three (test 0) (test 9) (test 18)
