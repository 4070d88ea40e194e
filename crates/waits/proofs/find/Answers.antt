-- What is found is an answer, and the one that there is.
use Rattle.std.proofs.Common.{◌≡◌, ℕ, List, ◌∙◌}
use Rattle.waits.specs.declared.Waits.{Waits}
use Rattle.waits.specs.Waits.{IsWaits}
use Rattle.waits.specs.Answer.{waits_of}
use Rattle.waits.proofs.laws.One.{one_answer}
use Rattle.waits.specs.search.Found.{found_of}
use Rattle.waits.proofs.laws.Exact.{found}
use Rattle.waits.proofs.find.Goals as goal

is_answer : (s d : List ℕ) (r : Waits) → r ≡ found_of s d → IsWaits s d r
is_answer s d r e = rw e (found s d)

the_answer : (s d : List ℕ) (r : Waits) → r ≡ found_of s d → r ≡ waits_of s d
the_answer s d r e = one_answer s d r (is_answer s d r e)

pub returns-in-Ok : goal.returns-in-Ok
returns-in-Ok c = record { waits = is_answer _ _ _ c.in-Ok.ensures; value = the_answer _ _ _ c.in-Ok.ensures }

pub returns-in-Err : goal.returns-in-Err
returns-in-Err c =
    let e = c.refused.ensures ∙ c.in-Err.ensures in
    record { waits = is_answer _ _ _ e; value = the_answer _ _ _ e }
