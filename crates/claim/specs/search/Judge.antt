-- How the code finds what a record and a claim are answered. What it finds is stated by `IsJudged`.
use Rattle.std.specs.Prelude.{◌||◌, cond, List, ℕ, ltb, Option, None, Some, Result}
use Rattle.std.specs.Result.{result_unwrap_or}
use Rattle.hand.specs.declared.Hand.{Hand}
use Rattle.hand_record.specs.Record.{Answer, Sound, Refused}
use Rattle.hand_record.specs.Record.{hand_of, read_of}
use Rattle.refusals.specs.declared.Refusal.{Refusal}
use Rattle.refusals.specs.Refusal.{refusal_in}
use Rattle.claim.specs.declared.Claimed.{Claimed}
use Rattle.claim.specs.declared.Judged.{Judged}
use Rattle.claim.specs.IsJudged.{refused_with, judged_as}
use Rattle.claim.specs.search.Claimed.{claimed_of}
use Rattle.claim.specs.search.Verdict.{verdict_of}

-- 22, or the verdict on what was claimed
unfoldable pub passed_as : Hand → Option Claimed → ℕ → ℕ → Judged
passed_as h None dealer wind = refused_with 22
passed_as h (Some x) dealer wind = judged_as (verdict_of h dealer wind x.reading x.gain.0)

-- by what Read answers
unfoldable pub found_by : Answer → Hand → List ℕ → ℕ → ℕ → Judged
found_by (Refused n) h claim dealer wind = refused_with n
found_by (Sound f) h claim dealer wind = passed_as h (claimed_of h.held.m claim) dealer wind

-- and for any seats
unfoldable pub found_of : List ℕ → List ℕ → ℕ → ℕ → Judged
found_of s claim dealer wind = cond (ltb 3 dealer || ltb 1 wind) (refused_with 8) (found_by (read_of s).answer (hand_of (read_of s)) claim dealer wind)

-- the code's answer flat, as C is given it: "a refused call returns its number with all else zero" (01)
abbrev pub judged_in : Result ℕ Refusal → Judged
judged_in given = record { refusal = refusal_in given; verdict = result_unwrap_or given 0 }
