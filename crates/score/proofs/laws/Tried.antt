-- How many readings are tried of a record, and that stopping is right.
use Rattle.std.specs.Prelude.{ℕ, ◌≤◌, ◌≡◌, refl, true, List, ◌⊎◌, length}
use Rattle.std.proofs.Common.{sym, ap, ◌∙◌}
use Rattle.hand_record.specs.Record.{hand_of, read_of, IsSound}
use Rattle.hand_record.proofs.Claims.{sound}
use Rattle.reading.specs.declared.Reading.{Reading}
use Rattle.reading.specs.Order.{Before}
use Rattle.score_best.specs.Best.{with_yakuman, up_to}
use Rattle.score.specs.declared.Scored.{Scored}
use Rattle.score.specs.Readings.{AreReadingsOf}
use Rattle.score.proofs.laws.Readings.{only_readings}
use Rattle.score.specs.Named.{worth, IsReadingOf, IsReported, refused_with}
use Rattle.score.specs.IsScore.{IsScore, eight, unreadable, read}
use Rattle.score.specs.Score.{score_of}
use Rattle.score.proofs.laws.One.{is_score}
use Rattle.score.proofs.laws.Paid as paid
use Rattle.score.proofs.laws.Named as named
use Rattle.score.proofs.laws.HandScore.{scored}

module _ (s : List ℕ) (dealer wind : ℕ) where
  pub tried : dealer ≤ 3 → wind ≤ 1 → IsSound s → (score_of s dealer wind).refusal ≡ 0 →
      let h = hand_of (read_of s) in
      (rs : List Reading) → AreReadingsOf h rs → (score_of s dealer wind).tried ≡ length (up_to (with_yakuman (worth h dealer wind)) rs)
  tried d w i e rs a =
      let h = hand_of (read_of s) in
      named.tried h dealer wind (scored s dealer wind d w i) e
      ∙ ap (λ (l : List Reading). length (up_to (with_yakuman (worth h dealer wind)) l)) (sym (only_readings h rs a))

  of_answer : {x : Scored} → IsScore s dealer wind x → (x.refusal ≡ 0 → ⊥) → x ≡ refused_with x.refusal
  of_answer (eight o) n = refl
  of_answer (unreadable d w k e) n = refl
  of_answer (read d w f e m) n = named.named_zero (hand_of (read_of s)) dealer wind m n

  pub refused_zero : ((score_of s dealer wind).refusal ≡ 0 → ⊥) → score_of s dealer wind ≡ refused_with (score_of s dealer wind).refusal
  refused_zero n = of_answer (is_score s dealer wind) n

  pub first_yakuman : dealer ≤ 3 → IsSound s →
      let h = hand_of (read_of s) in
      (r : Reading) → IsReadingOf h r → with_yakuman (worth h dealer wind) r ≡ true
      → ((q : Reading) → IsReadingOf h q → with_yakuman (worth h dealer wind) q ≡ true → (r ≡ q) ⊎ Before r q)
      → IsReported h dealer wind r
  first_yakuman d i = paid.first_yakuman (hand_of (read_of s)) dealer wind (paid.read_paid s dealer d ((sound s).0 i))
