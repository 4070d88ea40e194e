-- What a call answers, case by case.
use Rattle.std.specs.Prelude.{◌≡◌, Bool, true, false, not, cond, ℕ, ◌≤◌, ◌<◌, eqb, pos, nat_abs, length, take, get_or}
use Rattle.std.proofs.Math.Path.{ap}
use Rattle.std.proofs.Common.{sym, ◌∙◌, arith}
use mathlib.Core.List.{List, ◌∷◌, ◌++◌}
use borrow.Author.Tests.{lt-ltb, le-ltb, not-true, not-false}
use Rattle.std.proofs.Math.ListN.{drop}
use Rattle.std.proofs.Math.Seq.{take-length}
use Rattle.hand_record.specs.declared.ReadHand.{ReadHand}
use Rattle.hand_record.specs.Record.{read_hand_of}
use Rattle.yaku.specs.Yaku.{is_yakuman}
use Rattle.score.specs.declared.Scored.{Scored}
use Rattle.score.specs.Score.{score_of}
use Rattle.speech_told.specs.Phrases.{player, yaku_clips, worth_clips, amount_clips, payments_clips}
use Rattle.speech_told.proofs.laws.Told.{read_winner}
use Rattle.speech_score.specs.declared.Said.{Said}
use Rattle.speech_told.specs.Messages.{score_message, score_said}
use Rattle.speech_score.specs.Said.{refused_with, given_of, buffer_of, is_known, said_of, said_buffer, Answers}

module _ (l n : ℕ) (m old : List ℕ) where
  pub unknown : is_known l ≡ false → Answers l n m old (refused_with 8) old
  unfolding said_of said_buffer
  unknown e = record { answer = rw e; buffer = rw e }

  pub refused : is_known l ≡ true → 0 < n → Answers l n m old (refused_with n) old
  unfolding said_of said_buffer
  refused e h = record { answer = rw (e, lt-ltb 0 n h); buffer = rw (e, lt-ltb 0 n h) }

  pub given : is_known l ≡ true → n ≤ 0 → {r : Said} {new : List ℕ} → r ≡ given_of m old → new ≡ buffer_of m old → Answers l n m old r new
  unfolding said_of said_buffer
  given e h p q = record { answer = rw (e, le-ltb 0 n h) p; buffer = rw (e, le-ltb 0 n h) q }

module _ (m old : List ℕ) where
  pub short : length old < length m → (refused_with 13 ≡ given_of m old) × (old ≡ buffer_of m old)
  unfolding given_of buffer_of
  short h = (rw (lt-ltb (length old) (length m) h), rw (lt-ltb (length old) (length m) h))

  pub long : length m ≤ length old → {k : ℕ} {new : List ℕ} → k ≡ length m → new ≡ take (length m) m ++ drop (length m) old
      → (◌≡◌ {A = Said} (record { refusal = 0; len = k }) (given_of m old)) × (new ≡ buffer_of m old)
  unfolding given_of buffer_of
  long h e q =
      (rw (le-ltb (length old) (length m) h, e), rw (le-ltb (length old) (length m) h) (q ∙ ap (λ (t : List ℕ). t ++ drop (length m) old) (take-length m)))

-- ---- the same, by what the functions called gave

module _ (l n : ℕ) (m old : List ℕ) {r : Said} where
  pub unknown_by : {k : Bool} → k ≡ is_known l → not k ≡ true → r ≡ refused_with 8 → Answers l n m old r old
  unknown_by e t q = rw q (unknown l n m old (sym e ∙ not-true _ t))

  pub refused_by : {k : Bool} {x : ℕ} → k ≡ is_known l → not k ≡ false → x ≡ n → 0 < x → r ≡ refused_with x → Answers l n m old r old
  refused_by e t x h q = rw (q, x) (refused l n m old (sym e ∙ not-false _ t) (omega arith))

  pub given_by : {k : Bool} {x : ℕ} {text new : List ℕ} → k ≡ is_known l → not k ≡ false → x ≡ n → x ≤ 0 → text ≡ m → r ≡ given_of text old
      → new ≡ buffer_of text old
      → Answers l n m old r new
  given_by e t x h q p b =
      given l n m old (sym e ∙ not-false _ t) (omega arith) (p ∙ ap (λ (y : List ℕ). given_of y old) q) (b ∙ ap (λ (y : List ℕ). buffer_of y old) q)

-- ---- a score

module _ (l dealer winner : ℕ) (ron : Bool) (a : Scored) where
  pub message_of : (who gain : ℕ) (yakuman : Bool) → who ≡ player dealer winner → yakuman ≡ is_yakuman a.yaku
      → gain ≡ nat_abs (get_or a.changes winner (pos 0))
      → (who ∷ cond ron 64 65 ∷ yaku_clips a.yaku) ++
      (worth_clips l yakuman a.h.0 a.fu.0 ++ (payments_clips l dealer a.changes ++ amount_clips l who 67 gain))
      ≡ score_message l dealer winner ron a
  unfolding score_message
  message_of who gain yakuman p y g = rw (p, y, g)

module _ (l : ℕ) (s : List ℕ) (dealer wind : ℕ) where
  pub score_said_lem : (a : Scored) (r : ReadHand) → a ≡ score_of s dealer wind → r ≡ read_hand_of s
      → score_message l dealer r.hand.fields.winner (eqb r.hand.fields.how 1) a ≡ score_said l s dealer wind
  unfolding score_said read_hand_of
  score_said_lem a r e q = rw (e, q)

pub winner_le : (s : List ℕ) (r : ReadHand) → r ≡ read_hand_of s → r.hand.fields.winner ≤ 3
unfolding read_hand_of
winner_le s r e = rw e (read_winner s)
