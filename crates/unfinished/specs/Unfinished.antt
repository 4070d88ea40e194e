-- An unfinished hand as bytes (02, S-1): its bits, and what its reader refuses. What the tiles held are refused for is `hand`'s.
use Rattle.std.specs.Prelude.{◌≡◌, Bool, false, ◌||◌, cond, not, Result, Ok, Err, List, [], ◌∷◌, ℕ, ◌+◌, ◌*◌, ◌-◌, ltb, eqb, length, get_or}
use Rattle.bits.specs.Bits.{unpack, bits_of}
use Rattle.hand.specs.declared.Held.{Held}
use Rattle.hand.specs.Held.{in_held, wrong_held, descends, over_four}
use Rattle.hand_record.specs.Record.{held_widths, held_by, none_held}
use Rattle.refusals.specs.declared.Refusal.{Refusal}
use Rattle.refusals.specs.Refusal.{number}

-- ---- the layout

-- "81 − 10m bits", "zero bits to the byte": the bytes for m = 0 to 4
abbrev pub length_of : ℕ → ℕ
length_of m = get_or (11 ∷ 9 ∷ 8 ∷ 7 ∷ 6 ∷ []) m 0

-- "zero bits to the byte": how many
abbrev pub pad_of : ℕ → ℕ
pad_of m = get_or (7 ∷ 1 ∷ 3 ∷ 5 ∷ 7 ∷ []) m 0

-- all widths with m melds: "meld count 3 bits, melds, 13 − 3m tiles, zero bits to the byte"
unfoldable pub widths : ℕ → List ℕ
widths m = 3 ∷ held_widths m (pad_of m)

-- "meld count 3 bits"
unfoldable pub count_in : List ℕ → ℕ
count_in s = get_or (unpack (3 ∷ []) (bits_of s)) 0 0

-- "melds, 13 − 3m tiles": the tiles held, sound or not
abbrev pub held_of : List ℕ → Held
held_of s = held_by 1 (count_in s) (unpack (widths (count_in s)) (bits_of s))

-- "zero bits to the byte", as a number, 0 where none is set
unfoldable pub padding_of : List ℕ → ℕ
padding_of s = get_or (unpack (widths (count_in s)) (bits_of s)) (1 + count_in s + (13 - 3 * count_in s)) 0

-- ---- what is refused

-- "1 is for an empty input, m over 4 or a length not m's": of n bytes
abbrev pub wrong_length : ℕ → ℕ → Bool
wrong_length n m = eqb n 0 || ltb 4 m || not (eqb n (length_of m))

-- Read's 2, 3 and 4 of tiles held, "without indicator or winning tile"; 0 where there is none
unfoldable pub held_refusal : Held → ℕ → ℕ
held_refusal x padding = cond (wrong_held x padding) 2 (cond (descends x) 3 (cond (over_four (in_held x)) 4 0))

-- "Read's checks 1 to 4 apply to these fields", "first match wins" (01); 0 where there is none
unfoldable pub refusal_of : List ℕ → ℕ
refusal_of s = cond (wrong_length (length s) (count_in s)) 1 (held_refusal (held_of s) (padding_of s))

-- an input that meets none of them
pub record IsSound (s : List ℕ) : Type 0 where
  pub len : wrong_length (length s) (count_in s) ≡ false
  pub held : wrong_held (held_of s) (padding_of s) ≡ false
  pub order : descends (held_of s) ≡ false
  pub four : over_four (in_held (held_of s)) ≡ false

-- what its reader gives: 0 and the tiles held, or the refusal and none
pub record Unfinished : Type 0 where
  pub refusal : ℕ
  pub held : Held

-- a refused input: "all else zero" (01)
abbrev pub refused_with : ℕ → Unfinished
refused_with n = record { refusal = n; held = none_held }

-- what the code's answer says: "a definition gives this paper's number and values for each of its cases" (01, The form each place takes)
abbrev pub numbered : Result Held Refusal → Unfinished
numbered (Ok x) = record { refusal = 0; held = x }
numbered (Err r) = refused_with (number r)

-- the tiles held, or why they are refused
unfoldable pub given_by : Held → ℕ → Unfinished
given_by x padding = cond (ltb 0 (held_refusal x padding)) (refused_with (held_refusal x padding)) (record { refusal = 0; held = x })

-- what its reader gives: the tiles held, or the refusal
unfoldable pub read_of : List ℕ → Unfinished
read_of s = cond (ltb 0 (refusal_of s)) (refused_with (refusal_of s)) (record { refusal = 0; held = held_of s })
