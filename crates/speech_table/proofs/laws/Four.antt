-- The scores one after the other, as they are added.
use Rattle.std.specs.Prelude.{◌≡◌, List, [], ◌++◌, ℕ, zero, suc, ℤ, pos, get_or}
use Rattle.std.proofs.Common.{append_assoc}
use Rattle.speech_told.specs.Phrases.{score_clips}
use Rattle.speech_table.specs.Messages.{four_scores}

-- of the first k seats
unfoldable pub first_scores : ℕ → ℕ → List ℤ → ℕ → List ℕ
first_scores l dealer s zero = []
first_scores l dealer s (suc k) = first_scores l dealer s k ++ score_clips l dealer k (get_or s k (pos 0))

pub all_four : (l dealer : ℕ) (s : List ℤ) → first_scores l dealer s 4 ≡ four_scores l dealer s
unfolding first_scores four_scores
all_four l dealer s = simp append_assoc
