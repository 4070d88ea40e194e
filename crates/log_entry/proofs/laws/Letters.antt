-- The letter of an entry, by the kind of its header.
use Rattle.std.specs.Prelude.{◌≡◌, refl, List, [], ◌∷◌, ℕ, ◌+◌, ◌/◌, ◌<◌, length}
use Rattle.std.proofs.Common.{sym, ap, ◌∙◌, arith}
use Rattle.position.specs.Booking.{Result}
use Rattle.position.specs.Booking as Booking
use Rattle.game.specs.Game as Game
use Rattle.log_entry.specs.Entry.{IsResult, IsEntry, letter_of}
use Rattle.log_entry.specs.Entry as Entry
use Rattle.log_entry.specs.search.Lengths.{kind_in}
use Rattle.log_entry.specs.search.Found.{letter_by}

-- of a kind's number
by_kind : (n k y : ℕ) → n ≡ k → letter_by k ≡ y → letter_by n ≡ y
by_kind n k y e h = ap letter_by e ∙ h

of_result : {s : List ℕ} {r : Result} → IsResult s r → letter_by (kind_in s) ≡ letter_of (Game.booking (Booking.result r))
of_result (Entry.win s w) = refl
of_result (Entry.draw bits h) = by_kind ((32 + bits) / 16) 2 68 (omega (arith, h)) refl
of_result (Entry.chombo seat h) = by_kind ((48 + seat) / 16) 3 67 (omega (arith, h)) refl
of_result (Entry.multi_ron n s p h w) = by_kind ((64 + n) / 16) 4 77 (omega (arith, h)) refl

pub letter_is : {s : List ℕ} {e : Game.Entry} → IsEntry s e → letter_by (kind_in s) ≡ letter_of e
letter_is (Entry.riichi seat h) = by_kind (seat / 16) 0 82 (omega (arith, h)) refl
letter_is (Entry.pao holder feeder yaku f low high) = refl
letter_is (Entry.result s r i) = of_result i
letter_is (Entry.correction s r i) = refl

-- ---- as the code has it

-- y is the letter of every entry of a kind
abbrev pub IsLetter : ℕ → ℕ → Type 0
IsLetter kind y = (header : ℕ) (rest : List ℕ) (e : Game.Entry) → IsEntry (header ∷ rest) e → kind ≡ header / 16 → y ≡ letter_of e

letter_of_lem : (y kind : ℕ) → letter_by kind ≡ y → IsLetter kind y
letter_of_lem y kind q header rest e i k = sym q ∙ ap letter_by k ∙ letter_is i

-- so it is that of an entry's bytes
pub letter_told : (s : List ℕ) (e : Game.Entry) → IsEntry s e → 0 < length s → (y : ℕ) → IsLetter (kind_in s) y → y ≡ letter_of e
letter_told [] e i h y l = absurd (omega arith)
letter_told (x ∷ s) e i h y l = l x s e i refl
