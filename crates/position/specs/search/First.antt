-- The first refusal of a win's record, and of several records, in an open game: names for what the code finds.
use Rattle.std.specs.Prelude.{List, ℕ}
use Rattle.position.specs.declared.Position.{Position}
use Rattle.position.specs.Ledger.{first_of, win_refusals, record_refusals}

abbrev pub win_refusal : Position → List ℕ → ℕ
win_refusal l s = first_of (win_refusals l s)

abbrev pub first_refused : Position → List (List ℕ) → ℕ
first_refused l ss = first_of (record_refusals l ss)
