-- What the call gives is an answer, and the only one.
use Rattle.std.specs.Prelude.{List, ◌≡◌, ℕ}
use Rattle.waits.specs.declared.Waits.{Waits}
use Rattle.waits.specs.Waits.{IsWaits}
use Rattle.waits.specs.Answer.{waits_of}
use Rattle.waits.proofs.laws.Exact.{exactly_one}

module _ (s discards : List ℕ) where
  -- it is an answer
  pub is_waits : IsWaits s discards (waits_of s discards)
  unfolding waits_of
  is_waits = (exactly_one s discards).1

  -- and the only one
  pub one_answer : (b : Waits) → IsWaits s discards b → b ≡ waits_of s discards
  unfolding waits_of
  one_answer = (exactly_one s discards).2
