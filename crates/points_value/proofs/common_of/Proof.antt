-- `points_value::common_of` meets its contract.
use borrow.Author.Rules.{rules}
use mathlib.Core.Path.{refl}
use Rattle.points_value.specs.search.Common.{han_before}
use Rattle.points_value.proofs.common_of.Statement.{statement}
use Rattle.points_value.proofs.common_of.Tie as tie

returns : tie.Need-returns
unfolding han_before
returns c =
    let concealed = c.before.before in
    let h = concealed.before in
    let han-of = h.before in
    let tests = han-of.before.before.group_tests-tests.ensures.0 in
    record {
      groups = refl;
      tests = tests;
      han = rw (h.han-han.ensures.0, han-of.han_of.ensures.0, tests);
      few = h.han-han.ensures.1;
      ankou = concealed.concealed-ankou.ensures;
      kan = c.before.kans-kan.ensures;
      items = c.group_items-items.ensures;
    }

pub common_of_spec : {M : Type 1} → statement M
common_of_spec =
    tie.close
    (tie.spec (λ c κs. search rules) (λ c. search rules) (λ c κs. search rules) (λ c κs. search rules) (λ c κs. search rules)
    (λ c κs. search rules) (λ c κs. search rules) returns)
