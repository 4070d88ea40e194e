-- For all bytes and discards there is exactly one answer that the papers name, and that is what the call gives.
use Rattle.std.specs.Prelude.{List, ℕ}
use Rattle.tiles.specs.One.{ExactlyOne}
use Rattle.waits.specs.Waits.{IsWaits}
use Rattle.waits.specs.Answer.{waits_of}
use Rattle.waits.proofs.laws.Exact as laws
use Rattle.waits.proofs.laws.One as one

-- there is an answer, and every answer is that one
pub exactly_one : (s discards : List ℕ) → ExactlyOne (IsWaits s discards)
exactly_one = laws.exactly_one

-- `waits_of` is that one answer
pub waits_are_waits : (s discards : List ℕ) → IsWaits s discards (waits_of s discards)
waits_are_waits = one.is_waits
