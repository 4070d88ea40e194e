-- An unfinished hand written, from its tiles held and from a record, computed.
use Rattle.std.specs.Prelude.{◌≡◌, refl, [], ◌∷◌}
use Rattle.hand.specs.declared.Held.{Held}
use Rattle.unfinished.specs.Unfinished.{widths}
use Rattle.unfinished_writer.specs.Write.{values_of, unfinished_bytes}

-- chi 234m, 567m 22456p 67s, bit by bit (docs/RECORDS.md)
abbrev held : Held
held = record { m = 1; melds = 1 ∷ 0 ∷ 0 ∷ 0 ∷ []; concealed = 4 ∷ 5 ∷ 6 ∷ 10 ∷ 10 ∷ 12 ∷ 13 ∷ 14 ∷ 23 ∷ 24 ∷ 0 ∷ 0 ∷ 0 ∷ [] }

pub worked : unfinished_bytes held ≡ 32 ∷ 34 ∷ 10 ∷ 49 ∷ 69 ∷ 24 ∷ 105 ∷ 203 ∷ 176 ∷ []
unfolding widths values_of unfinished_bytes
worked = refl
