-- Records that read.
use Rattle.std.specs.Prelude.{◌≡◌, List, [], ◌∷◌, ℕ}
use Rattle.hand_record.specs.Record.{refusal_in, read_of}

abbrev pub Read : List ℕ → Type 0
Read s = refusal_in (read_of s).answer ≡ 0

abbrev pub AllRead : List (List ℕ) → Type 0
AllRead [] = Unit {0}
AllRead (s ∷ ss) = Read s × AllRead ss
