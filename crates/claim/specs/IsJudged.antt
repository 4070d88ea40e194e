-- What Judge answers, for every record, claim, dealer and round wind (02, S-13). Nothing here says how it is found; `Judge` has the one such answer.
use Rattle.std.specs.Prelude.{List, ◌⊎◌, ◌≡◌, ℕ, ◌<◌, ◌≤◌}
use Rattle.hand_record.specs.Record.{Refused}
use Rattle.hand_record.specs.Record.{hand_of, read_of, IsSound}
use Rattle.reading.specs.declared.Reading.{Reading}
use Rattle.claim.specs.declared.Judged.{Judged}
use Rattle.claim.specs.Claim.{Names}
use Rattle.claim.specs.Verdict.{IsVerdict}

-- 01: "a refused call returns its number with all else zero"
abbrev pub refused_with : ℕ → Judged
refused_with n = record { refusal = n; verdict = 0 }

-- not refused: 0 accepted, 1 to 4 the first of the four that is false
abbrev pub judged_as : ℕ → Judged
judged_as v = record { refusal = 0; verdict = v }

module _ (s claim : List ℕ) (dealer wind : ℕ) where
  -- "After the record passes Read": by its hand the claim names r and g
  pub record IsNamed (r : Reading) (g : ℕ) : Type 0 where
    pub seat : dealer ≤ 3
    pub round : wind ≤ 1
    pub sound : IsSound s
    pub names : Names (hand_of (read_of s)).held.m claim r g

  -- and what it names has P
  abbrev pub NamedWith : (Reading → ℕ → Type 0) → Type 0
  NamedWith P = (r : Reading) × (g : ℕ) × IsNamed r g × P r g

  -- the answer
  pub data IsJudged : Judged → Type 0 where
    -- "Score's 8"
    eight : (3 < dealer) ⊎ (1 < wind) → IsJudged (refused_with 8)
    -- "and Read's 1 to 5 come before"
    unreadable : dealer ≤ 3 → wind ≤ 1 → (n : ℕ) → (read_of s).answer ≡ Refused n → IsJudged (refused_with n)
    -- "It refuses with 22" a claim that has a fault, and so names nothing
    faulty : dealer ≤ 3 → wind ≤ 1 → IsSound s → ((r : Reading) (g : ℕ) → Names (hand_of (read_of s)).held.m claim r g → ⊥) → IsJudged (refused_with 22)
    -- the verdict on what it names
    passed : {r : Reading} {g : ℕ} → IsNamed r g → {v : ℕ} → IsVerdict (hand_of (read_of s)) dealer wind r g v → IsJudged (judged_as v)
