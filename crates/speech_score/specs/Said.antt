-- What each call that says something answers, and what its buffer then holds (SPEECH, Calls): of a language, the refusal of the call whose answer is
-- said, and the message.
use Rattle.std.specs.Prelude.{Bool, ◌&&◌, cond, List, ◌++◌, ◌≡◌, ℕ, ltb, leb, length, drop}
use Rattle.speech_score.specs.declared.Said.{Said}

-- "the refusal and 0"
abbrev pub refused_with : ℕ → Said
refused_with n = record { refusal = n; len = 0 }

-- "13, a buffer shorter than the message"; "0 and how many clips"
unfoldable pub given_of : List ℕ → List ℕ → Said
given_of message buf = cond (ltb (length buf) (length message)) (refused_with 13) (record { refusal = 0; len = length message })

-- "with no byte of the buffer changed; bytes past the message stay"
unfoldable pub buffer_of : List ℕ → List ℕ → List ℕ
buffer_of message buf = cond (ltb (length buf) (length message)) buf (message ++ drop (length message) buf)

-- "a language that is not 1 to 4"
abbrev pub is_known : ℕ → Bool
is_known language = ltb 0 language && leb language 4

-- "Refusals, first match wins: 8 ..; those of the call whose answer is said, in its order; 13"
unfoldable pub said_of : ℕ → ℕ → List ℕ → List ℕ → Said
said_of language refusal message buf = cond (is_known language) (cond (ltb 0 refusal) (refused_with refusal) (given_of message buf)) (refused_with 8)

-- what the buffer then holds
unfoldable pub said_buffer : ℕ → ℕ → List ℕ → List ℕ → List ℕ
said_buffer language refusal message buf = cond (is_known language) (cond (ltb 0 refusal) buf (buffer_of message buf)) buf

-- a call says the message m in language l, or hands on the refusal n where n is not 0: it gives r, and turns the buffer `old` into `new`
pub record Answers (l n : ℕ) (m old : List ℕ) (r : Said) (new : List ℕ) : Type 0 where
  pub answer : r ≡ said_of l n m old
  pub buffer : new ≡ said_buffer l n m old
