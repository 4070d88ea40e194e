-- `score::meld_codes` meets its contract: place by place.
use borrow.Author.Rules.{rules}
use Rattle.score.specs.search.HandCommon.{meld_codes}
use Rattle.score.proofs.meld_codes.Statement.{statement}
use Rattle.score.proofs.meld_codes.Tie as tie

pub meld_codes_spec : {M : Type 1} → statement M
unfolding meld_codes
meld_codes_spec =
    tie.close
    (tie.spec (λ c κs. search rules) (λ c κs. search rules) (λ c κs. search rules) (λ c κs. search rules)
    (λ c.
    let code-at2 = c.before.before in
    rw (c.code_at-4.ensures, c.before.code_at-3.ensures, code-at2.code_at-2.ensures, code-at2.before.code_at.ensures)))
