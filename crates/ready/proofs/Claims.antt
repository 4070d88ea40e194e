-- The theorem of S-14 that the number is 0 exactly for a ready hand; `Answer` has those of the number.
use Rattle.std.specs.Prelude.{◌≡◌, ◌↔◌, List, ℕ}
use Rattle.unfinished.specs.Unfinished.{held_of, refusal_of}
use Rattle.ready.specs.Ready.{IsReady}
use Rattle.ready.specs.Answer.{fewest_swaps}
use Rattle.ready.proofs.ExactlyOne.{nearest_hand}
use Rattle.ready.proofs.laws.Claims as laws

module _ (s : List ℕ) (e : refusal_of s ≡ 0) where
  -- "0 means ready", and a ready hand is at 0
  pub zero_when_ready : (fewest_swaps s ≡ 0) ↔ IsReady (held_of s)
  zero_when_ready = let (y, q) = nearest_hand s e in laws.zero_when_ready s e (fewest_swaps s) y q
