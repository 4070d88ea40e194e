-- The score of a hand's record is what is named for the hand.
use Rattle.std.specs.Prelude.{ℕ, ◌≤◌, ◌<◌, ◌≡◌, List, ◌⊎◌}
use Rattle.std.proofs.Common.{sym, ap}
use Rattle.hand.specs.declared.Hand.{Hand}
use Rattle.hand.specs.Refusals.{unwritable}
use Rattle.hand_record.specs.Record.{HandRead}
use Rattle.hand_record.specs.Record.{record_of, IsHand}
use Rattle.hand_record.proofs.laws.Round.{same_hand}
use Rattle.score.specs.declared.Scored.{Scored}
use Rattle.score.specs.Named.{refused_with, Named}
use Rattle.score.specs.IsScore.{eight, read}
use Rattle.score.specs.Score.{score_of}
use Rattle.score.proofs.laws.One.{one_score}
use Rattle.hand_record.proofs.laws.Sound.{written_back}

pub score_eight : (s : List ℕ) (dealer wind : ℕ) → (3 < dealer) ⊎ (1 < wind) → score_of s dealer wind ≡ refused_with 8
score_eight s dealer wind o = sym (one_score s dealer wind (refused_with 8) (eight o))

pub score_of_lem : (h : Hand) → unwritable h ≡ 0 → IsHand h → (dealer wind : ℕ) → dealer ≤ 3 → wind ≤ 1
    → {a : Scored} → Named h dealer wind a → score_of (record_of h) dealer wind ≡ a
score_of_lem h e i dealer wind d w {a} n =
    let r = same_hand h e i.melds i.concealed i.bytes in
    sym (one_score (record_of h) dealer wind a (read d w h.fields (ap (λ (x : HandRead). x.answer) r) (rw (written_back h e i) n)))
