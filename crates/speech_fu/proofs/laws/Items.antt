-- The items one after the other, as they are added.
use Rattle.std.specs.Prelude.{◌≡◌, List, [], ◌∷◌, ◌++◌, ℕ, zero, suc, ◌+◌, get_or}
use Rattle.std.proofs.Common.{append_assoc}
use Rattle.units.specs.declared.Fu.{Fu}
use Rattle.points_fu.specs.declared.Items.{Items}
use Rattle.points_fu.specs.Fu.{fu}
use Rattle.speech_told.specs.Phrases.{counted_clips}
use Rattle.speech_told.specs.Messages.{group_at, items_clips}

-- the first k of a list of items
unfoldable pub first_items : ℕ → List Fu → ℕ → List ℕ
first_items l g zero = []
first_items l g (suc k) = first_items l g k ++ counted_clips l (84 + k) (group_at g k)

-- the ten of a score
abbrev pub ten_of : Items → List Fu
ten_of x =
    x.base ∷ x.ron ∷ x.pair ∷ get_or x.group 0 (fu 0) ∷ get_or x.group 1 (fu 0) ∷ get_or x.group 2 (fu 0) ∷ get_or x.group 3 (fu 0) ∷ x.wait ∷ x.tsumo ∷ x.rounding ∷ []

pub ten_items : (l : ℕ) (x : Items) → first_items l (ten_of x) 10 ≡ items_clips l x
unfolding first_items items_clips
ten_items l x = simp append_assoc
