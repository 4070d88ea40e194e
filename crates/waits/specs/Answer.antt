-- The one answer that the papers name for all bytes and discards (`ExactlyOne`: there is one, and every answer is that one): what the call gives.
use Rattle.std.specs.Prelude.{List, ℕ}
use Rattle.waits.specs.declared.Waits.{Waits}
use Rattle.waits.specs.search.Found.{found_of}

-- that one answer
unfoldable pub waits_of : List ℕ → List ℕ → Waits
waits_of s discards = found_of s discards
