-- What finishing a hand leaves, by the list that it gives.
use Rattle.std.specs.Prelude.{Bool, List, ℕ, ℤ, pos, get_or}
use Rattle.position.specs.declared.Position.{Position}
use Rattle.position.specs.Ledger.{finishing, applied}

-- the game after a hand that gives `by`, leaves so many sticks and such a counter, and passes the deal or not
unfoldable pub finished : Position → List ℤ → ℕ → Bool → ℕ → Position
finished g by sticks passes counter = applied g (finishing (λ i. get_or by i (pos 0)) sticks passes counter)
