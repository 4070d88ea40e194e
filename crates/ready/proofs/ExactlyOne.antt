-- For all bytes there is an answer, and all answers have one refusal and one number: only the hand is free.
use Rattle.std.specs.Prelude.{◌≡◌, List, ℕ, ◌<◌}
use Rattle.hand.specs.declared.Held.{Held}
use Rattle.unfinished.specs.Unfinished.{held_of, refusal_of}
use Rattle.ready.specs.declared.Ready.{Ready}
use Rattle.ready.specs.Ready.{IsNearest, IsAnswer}
use Rattle.ready.specs.Answer.{fewest_swaps}
use Rattle.ready.proofs.laws.Claims as laws

-- there is an answer, and every answer has its refusal and its number
pub exactly_one : (s : List ℕ) → (a : Ready) × IsAnswer s a × ((b : Ready) → IsAnswer s b → (b.refusal ≡ a.refusal) × (b.swaps ≡ a.swaps))
exactly_one = laws.exactly_one

module _ (s : List ℕ) where
  -- every answer has this refusal and this number
  pub one_number : (b : Ready) → IsAnswer s b → (b.refusal ≡ refusal_of s) × (b.swaps ≡ fewest_swaps s)
  one_number b q = (laws.its_refusal s b q, laws.its_number s b q)

  -- a ready hand is that many swaps away, and none is nearer
  pub nearest_hand : refusal_of s ≡ 0 → (y : Held) × IsNearest (held_of s) (fewest_swaps s) y
  nearest_hand = laws.fewest_hand s

  -- refused, "all else zero" (01)
  pub refused_zero : 0 < refusal_of s → fewest_swaps s ≡ 0
  refused_zero = laws.refused_none s
