-- What the seats pay one after the other, as it is added.
use Rattle.std.specs.Prelude.{◌≡◌, List, [], ◌++◌, ℕ, zero, suc, ℤ, pos, get_or}
use Rattle.std.proofs.Common.{append_assoc}
use Rattle.speech_told.specs.Phrases.{pays_clips, payments_clips}

-- of the first k seats
unfoldable pub first_payments : ℕ → ℕ → List ℤ → ℕ → List ℕ
first_payments l dealer c zero = []
first_payments l dealer c (suc k) = first_payments l dealer c k ++ pays_clips l dealer k (get_or c k (pos 0))

pub all_payments : (l dealer : ℕ) (c : List ℤ) → first_payments l dealer c 4 ≡ payments_clips l dealer c
unfolding first_payments payments_clips
all_payments l dealer c = simp append_assoc
