-- The parts of a record by the bits at which they start, as the code reads them, here and for an unfinished hand.
use Rattle.std.specs.Prelude.{List, [], ◌∷◌, ℕ, ◌+◌, ◌*◌, ◌-◌, get_or, drop}
use Rattle.bits.specs.Bits.{unpack, eights, fill}
use Rattle.hand.specs.declared.Held.{Held}
use Rattle.hand.specs.declared.Hand.{Hand}
use Rattle.hand_record.specs.Record.{sixes, head_of}

-- m melds, from bit `at` on
unfoldable pub melds_of : ℕ → ℕ → List ℕ → List ℕ
melds_of at m bits = unpack (eights m) (drop at bits)

-- 13 − 3m tiles, after the melds
unfoldable pub tiles_of : ℕ → ℕ → List ℕ → List ℕ
tiles_of at m bits = unpack (sixes (13 - 3 * m)) (drop (at + 8 * m) bits)

-- the tiles held
unfoldable pub held_in : ℕ → ℕ → List ℕ → Held
held_in at m bits = record { m = m; melds = fill 4 (melds_of at m bits); concealed = fill 13 (tiles_of at m bits) }

-- the n bits after them, as a number
unfoldable pub padding_after : ℕ → ℕ → ℕ → List ℕ → ℕ
padding_after at m n bits = get_or (unpack (n ∷ []) (drop (at + 8 * m + 6 * (13 - 3 * m)) bits)) 0 0

-- the hand of a record: its head has 25 bits
abbrev pub hand_at : ℕ → List ℕ → Hand
hand_at m bits = record { fields = (head_of bits).fields; held = held_in 25 m bits }
