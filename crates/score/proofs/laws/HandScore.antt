-- The score of a record, by what Read answers.
use Rattle.std.specs.Prelude.{ℕ, ◌≤◌, ◌<◌, ◌≡◌, refl, List}
use Rattle.std.proofs.Common.{sym, ◌∙◌, subst}
use Rattle.hand_record.specs.Record.{refusal_in, hand_of, read_of, IsSound}
use Rattle.hand_record.proofs.Claims.{sound}
use Rattle.score.specs.declared.Scored.{Scored}
use Rattle.score.specs.Named.{refused_with, Named}
use Rattle.score.specs.IsScore.{IsScore}
use Rattle.score.specs.Score.{score_of}
use Rattle.score.proofs.laws.One.{one_score}
use Rattle.score.specs.search.HandScore.{hand_score_of, found_of}
use Rattle.score.proofs.laws.Found.{found_read, found_unreadable}
use Rattle.score.proofs.laws.Paid.{read_paid}
use Rattle.score.proofs.laws.Named.{hand_score}
use Rattle.score.proofs.laws.Exact.{found_score}

module _ (s : List ℕ) (dealer wind : ℕ) where
  -- the score is what the search finds
  pub found_is_score : found_of s dealer wind ≡ score_of s dealer wind
  found_is_score = one_score s dealer wind (found_of s dealer wind) (found_score s dealer wind refl)

  pub both : (x : Scored) → x ≡ found_of s dealer wind → IsScore s dealer wind x × (x ≡ score_of s dealer wind)
  both x e = (found_score s dealer wind e, e ∙ found_is_score)

  module _ (d : dealer ≤ 3) (w : wind ≤ 1) where
    pub score_read : refusal_in (read_of s).answer ≡ 0 → score_of s dealer wind ≡ hand_score_of (hand_of (read_of s)) dealer wind
    score_read e = sym found_is_score ∙ found_read s dealer wind d w e

    pub score_unreadable : (n : ℕ) → refusal_in (read_of s).answer ≡ n → 0 < n → score_of s dealer wind ≡ refused_with n
    score_unreadable n e l = sym found_is_score ∙ found_unreadable s dealer wind d w n e l

    pub scored : IsSound s → Named (hand_of (read_of s)) dealer wind (score_of s dealer wind)
    scored i =
        let e = (sound s).0 i in
        subst (λ (x : Scored). Named (hand_of (read_of s)) dealer wind x) (sym (score_read e))
        (hand_score (hand_of (read_of s)) dealer wind (read_paid s dealer d e))
