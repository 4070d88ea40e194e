-- What the call gives (02, S-9): its answer and the buffer after it.
use Rattle.std.specs.Prelude.{Bool, ◌||◌, not, cond, List, ◌++◌, ℕ, ltb, eqb, length, drop, Result, Ok, Err}
use Rattle.refusals.specs.declared.Refusal.{Refusal}
use Rattle.refusals.specs.Refusal.{number}
use Rattle.cards.specs.CardList.{cards_of, card_bytes}
use Rattle.card_writer.specs.declared.Cards.{Cards}

-- "2, 5 or 8 tiles"
abbrev pub is_size : ℕ → Bool
is_size size = eqb size 2 || eqb size 5 || eqb size 8

-- "a suit over 2, another size, or a buffer shorter than the whole list": a buffer of so many bytes
unfoldable pub refuses : ℕ → ℕ → ℕ → Bool
refuses suit size room = ltb 2 suit || not (is_size size) || ltb room (length (card_bytes suit size))

-- "It refuses with 19"; "a refused call returns its number with all else zero" (01)
abbrev pub refused_cards : Cards
refused_cards = record { refusal = 19; count = 0 }

-- what C is given of a result: the number of sets, or the refusal beside zero
abbrev pub answer_in : Result ℕ Refusal → Cards
answer_in (Ok n) = record { refusal = 0; count = n }
answer_in (Err r) = record { refusal = number r; count = 0 }

-- "The number of sets is returned."
unfoldable pub answer_of : ℕ → ℕ → ℕ → Cards
answer_of suit size room = cond (refuses suit size room) refused_cards (record { refusal = 0; count = length (cards_of suit size) })

-- "writing no byte", or the whole list at the start; the bytes past it stay
unfoldable pub card_buffer : ℕ → ℕ → List ℕ → List ℕ
card_buffer suit size buf = cond (refuses suit size (length buf)) buf (card_bytes suit size ++ drop (length (card_bytes suit size)) buf)
