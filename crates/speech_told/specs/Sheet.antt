-- The clips of the sheet for the studio in language l (SPEECH, Clips).
use Rattle.std.specs.Prelude.{Bool, ◌&&◌, ◌||◌, ℕ, ltb}
use Rattle.speech_numerals.specs.Heard.{on_sheet}

-- the same in every language: 60 to 94, "100 to 133", "141 to 176", "200 to 222"
unfoldable pub is_phrase : ℕ → Bool
is_phrase c = (ltb 59 c && ltb c 95) || ((ltb 99 c && ltb c 134) || ((ltb 140 c && ltb c 177) || (ltb 199 c && ltb c 223)))

-- and those of numbers
abbrev pub has_clip : ℕ → ℕ → Bool
has_clip l c = on_sheet l c || is_phrase c
