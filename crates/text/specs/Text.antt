-- Numbers as text and a line of `tally` (01, Log), as bytes: 48 to 57 the digits, 45 a minus, 32 a space, 10 a line feed.
use Rattle.std.specs.Prelude.{cond, List, [], ◌∷◌, ◌++◌, ℕ, zero, suc, ◌+◌, ◌/◌, ◌%◌, ltb, leb, length, get_or, drop, ℤ, pos, negsuc}

-- the last k digits of n, or all where it has fewer: "digit printer recurses on the number divided by ten", then n % 10
unfoldable pub last_digits : ℕ → ℕ → List ℕ
last_digits zero n = []
last_digits (suc k) n = cond (ltb n 10) [] (last_digits k (n / 10)) ++ ((48 + n % 10) ∷ [])

-- "most significant digit first": all digits, since n has at most suc n of them
unfoldable pub digits_of : ℕ → List ℕ
digits_of n = last_digits (suc n) n

-- "a minus before negatives"
unfoldable pub signed_of : ℤ → List ℕ
signed_of (pos n) = digits_of n
signed_of (negsuc n) = 45 ∷ digits_of (suc n)

-- "one space between fields, a line feed after each line"
unfoldable pub spaced : List (List ℕ) → List ℕ
spaced [] = 10 ∷ []
spaced (f ∷ []) = f ++ (10 ∷ [])
spaced (f ∷ g ∷ fs) = f ++ (32 ∷ spaced (g ∷ fs))

-- "scores of seats 0 to 3": that of a seat, as text
abbrev pub score_text : List ℤ → ℕ → List ℕ
score_text scores seat = signed_of (get_or scores seat (pos 0))

-- "entry from 1, letter R W D C, refusal (0 accepted), scores of seats 0 to 3, sticks"
unfoldable pub line_of : ℕ → ℕ → ℕ → List ℤ → ℕ → List ℕ
line_of entry letter refusal scores sticks =
    spaced (digits_of entry ∷ (letter ∷ []) ∷ digits_of refusal ∷ score_text scores 0 ∷ score_text scores 1 ∷ score_text scores 2 ∷ score_text scores 3 ∷ digits_of sticks ∷ [])

-- a text written at the start of a buffer: how long it is, or 0 where the buffer has no room for it (the papers leave this free)
abbrev pub length_in : List ℕ → List ℕ → ℕ
length_in buf text = cond (leb (length text) (length buf)) (length text) 0

-- "a refused call .. writes nothing, and bytes past what a call writes stay"
abbrev pub buffer_with : List ℕ → List ℕ → List ℕ
buffer_with buf text = cond (leb (length text) (length buf)) (text ++ drop (length text) buf) buf
