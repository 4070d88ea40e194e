-- A hand (01, Tiles and the hand record): the fields of its record and the tiles held, and how many of each kind with the winning tile.
use Rattle.std.specs.Prelude.{Bool, List, ℕ, ◌+◌, eqb}
use Rattle.tiles.specs.Groups.{at_kind}
use Rattle.tiles.specs.Tally.{tally_of}
use Rattle.hand.specs.declared.Fields.{Fields}
use Rattle.hand.specs.declared.Hand.{Hand}
use Rattle.hand.specs.Held.{in_others, in_held}

-- "how 1 (0 tsumo, 1 ron)"
abbrev pub is_ron : Fields → Bool
is_ron f = eqb f.how 1

-- how many of kind k among "the concealed tiles with the winning tile" (01, Readings)
unfoldable pub in_concealed : Hand → ℕ → ℕ
in_concealed h k = in_others h.held k + at_kind h.fields.winning 1 k

-- in the whole hand: "each one held, kans whole" (01, Fu and points)
unfoldable pub in_hand : Hand → ℕ → ℕ
in_hand h k = in_held h.held k + at_kind h.fields.winning 1 k

-- the tally that readings go by: "A reading of the concealed tiles with the winning tile"
unfoldable pub concealed_tally : Hand → List ℕ
concealed_tally h = tally_of (in_concealed h)

-- the tally that yaku and dora go by: "the tally of all 34 kinds, which is handed over whole"
unfoldable pub hand_tally : Hand → List ℕ
hand_tally h = tally_of (in_hand h)
