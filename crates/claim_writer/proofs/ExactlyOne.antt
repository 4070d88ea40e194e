-- Write claim: for every claim and buffer there is exactly one answer, and one buffer that is left.
use Rattle.std.specs.Prelude.{List, ◌≡◌, ℕ}
use Rattle.hand_record.specs.declared.Written.{Written}
use Rattle.claim_writer.specs.declared.Claim.{Claim}
use Rattle.claim_writer.specs.Writes.{Writes}
use Rattle.claim_writer.specs.Write.{written_of, buffer_of}
use Rattle.claim_writer.proofs.laws.Exact as laws

-- there is an answer with what is left, and every other is that one
pub exactly_one_answer : (c : Claim) (buf : List ℕ)
    → (w : Written) × (out : List ℕ) × Writes c buf w out × ((v : Written) (l : List ℕ) → Writes c buf v l → (v ≡ w) × (l ≡ out))
exactly_one_answer = laws.exactly_one

module _ (c : Claim) (buf : List ℕ) where
  -- `Writes` says so of them
  pub is_written : Writes c buf (written_of c buf) (buffer_of c buf)
  unfolding written_of buffer_of
  is_written = (laws.exactly_one c buf).2

  -- and of no other answer or buffer
  pub one_answer : (v : Written) (l : List ℕ) → Writes c buf v l → (v ≡ written_of c buf) × (l ≡ buffer_of c buf)
  unfolding written_of buffer_of
  one_answer = (laws.exactly_one c buf).3
