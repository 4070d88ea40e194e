-- The theorems of a table keyed from two sides (02, S-12).
use Rattle.std.specs.Prelude.{ℕ, ◌≤◌, false, List, ◌≡◌}
use Rattle.hand_record.specs.Record.{hand_of, read_of, IsSound}
use Rattle.score.specs.Score.{score_of}
use Rattle.symmetry.specs.Rotated.{rotated_dealer, rotated_hand, rotated_record, RotatedScore}
use Rattle.symmetry.specs.Renamed.{IsRenaming, IsRenamed, is_all_green, SameScore}
use Rattle.symmetry.proofs.laws.Rotated as rotated
use Rattle.symmetry.proofs.laws.Renamed as renamed

-- ---- "moving winner, discarder and dealer on by the same number of seats": by n

module _ (n : ℕ) (s : List ℕ) (i : IsSound s) where
  -- the record with the seats moved on is sound
  pub rotated_sound : IsSound (rotated_record n s)
  rotated_sound = rotated.rotated_sound n s i

  -- and it is the hand's with the seats moved on
  pub rotated_hand_lem : hand_of (read_of (rotated_record n s)) ≡ rotated_hand n (hand_of (read_of s))
  rotated_hand_lem = rotated.rotated_hand_lem n s i

  -- "in a sound record, with a dealer up to 3, moving .. moves the four changes on by that number and alters nothing else": whatever the wind
  pub rotated_scores : (dealer wind : ℕ) → dealer ≤ 3 → RotatedScore n (score_of s dealer wind) (score_of (rotated_record n s) (rotated_dealer n dealer) wind)
  rotated_scores = rotated.rotated_scores n s i

-- ---- "any renaming of the three suits": by σ

module _ (σ : ℕ → ℕ) (r : IsRenaming σ) (s : List ℕ) (i : IsSound s) where
  -- there is a sound record of its hand renamed
  pub renamed_exists : (t : List ℕ) × IsSound t × IsRenamed σ (hand_of (read_of s)) (hand_of (read_of t))
  renamed_exists = renamed.renamed_exists σ r s i

  -- of any such record t, whatever dealer and wind: it "leaves changes, h and fu as they were, provided the hand is all green (yaku 34) neither before nor
  -- after"
  pub renamed_scores : (t : List ℕ) → IsSound t → IsRenamed σ (hand_of (read_of s)) (hand_of (read_of t)) → (dealer wind : ℕ) →
      let before = score_of s dealer wind in
      let after = score_of t dealer wind in
      is_all_green before ≡ false → is_all_green after ≡ false → SameScore before after
  renamed_scores = renamed.renamed_score σ r s i
