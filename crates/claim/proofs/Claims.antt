-- The theorems of S-13 (02), over every record and claim; `Judge` has the theorem that there is exactly one answer.
use Rattle.std.specs.Prelude.{ℕ, ◌≤◌, ◌≡◌, List, ◌↔◌, pos, get_or}
use Rattle.hand.specs.declared.Hand.{Hand}
use Rattle.hand_record.specs.Record.{hand_of, read_of, IsSound}
use Rattle.reading.specs.declared.Reading.{Reading}
use Rattle.score.specs.Named.{IsReported, gain_in}
use Rattle.score.specs.Score.{score_of}
use Rattle.claim.specs.Claim.{Names}
use Rattle.claim.specs.Verdict.{IsVerdict}
use Rattle.claim.specs.IsJudged.{refused_with, NamedWith}
use Rattle.claim.specs.Judge.{judged_of, HasVerdict}
use Rattle.claim.proofs.laws.Judged as laws

module _ (s : List ℕ) where
  -- the hand that Read returns
  abbrev pub hand : Hand
  hand = hand_of (read_of s)

  module _ (claim : List ℕ) (dealer wind : ℕ) where
    -- "a claim is accepted exactly when .." the four conditions hold of what it names, "Otherwise it names the first of these four that is false": each
    -- verdict exactly where `IsVerdict` has it
    pub verdict_exactly : (v : ℕ) → HasVerdict s claim dealer wind v ↔ NamedWith s claim dealer wind (λ r g. IsVerdict hand dealer wind r g v)
    verdict_exactly = laws.exactly s claim dealer wind

    -- "It refuses with 22" exactly the claims that name nothing
    pub twenty_two_exactly : dealer ≤ 3 → wind ≤ 1 → IsSound s
        → (judged_of s claim dealer wind ≡ refused_with 22) ↔ ((r : Reading) (g : ℕ) → Names hand.held.m claim r g → ⊥)
    twenty_two_exactly = laws.twenty_two_exactly s claim dealer wind

    -- an accepted claim's gain is what Score gives the winner
    pub pays_as_scored : {r : Reading} {g : ℕ} → HasVerdict s claim dealer wind 0 → Names hand.held.m claim r g
        → get_or (score_of s dealer wind).changes hand.fields.winner (pos 0) ≡ pos g
    pays_as_scored = laws.pays_as_scored s claim dealer wind

  -- a claim of the reading that Score reports, with its gain, can be made and is accepted
  pub own_reading : (dealer wind : ℕ) → dealer ≤ 3 → wind ≤ 1 → IsSound s → (r : Reading) → IsReported hand dealer wind r
      → (claim : List ℕ) × Names hand.held.m claim r (gain_in hand dealer wind r) × HasVerdict s claim dealer wind 0
  own_reading = laws.own_reading s
