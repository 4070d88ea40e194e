-- The kinds of entries by their numbers: "Where an answer is an enum, a definition gives this paper's number .. for each of its cases" (01, The form each
-- place takes).
use Rattle.std.specs.Prelude.{◌≡◌, Bool, ◌&&◌, ℕ, ◌<◌, leb, Result, MatchResult}
use Rattle.refusals.specs.declared.Refusal.{Refusal}
use Rattle.refusals.specs.declared.Refusal.TheVariants.{Entry as NoEntry}
use Rattle.log_entry.specs.declared.EntryKind.{EntryKind}
use Rattle.log_entry.specs.declared.EntryKind.TheVariants.{Riichi, Win, Draw, Chombo, MultiRon, Pao, Correction}

-- the number that a header has for a kind (01, Log; 02, S-6, S-8 and S-10)
abbrev pub number : EntryKind → ℕ
number Riichi = 0
number Win = 1
number Draw = 2
number Chombo = 3
number MultiRon = 4
number Pao = 5
number Correction = 6

-- S-10: "a win, draw, chombo or multiple ron"
abbrev pub is_result_kind : ℕ → Bool
is_result_kind k = leb 1 k && leb k 4

-- the kind of that number; or 14, for "kind over 3" other than S-6's, S-8's and S-10's
abbrev pub IsKindOf : ℕ → Result EntryKind Refusal → Type 0
IsKindOf n r = MatchResult r (λ k. number k ≡ n) (λ e. (e ≡ NoEntry) × (6 < n))
