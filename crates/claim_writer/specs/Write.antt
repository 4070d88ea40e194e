-- Write claim: the one answer for a claim and a buffer, and the one buffer that is left (`ExactlyOne`: there is one, and every other is that one).
use Rattle.std.specs.Prelude.{List, ℕ}
use Rattle.hand_record.specs.declared.Written.{Written}
use Rattle.claim_writer.specs.declared.Claim.{Claim}
use Rattle.claim_writer.specs.search.Bytes.{found_written, found_buffer}

-- that answer
unfoldable pub written_of : Claim → List ℕ → Written
written_of c buf = found_written c buf

-- that buffer
unfoldable pub buffer_of : Claim → List ℕ → List ℕ
buffer_of c buf = found_buffer c buf
