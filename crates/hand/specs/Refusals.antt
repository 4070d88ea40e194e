-- What a hand is refused for (01, Read, 2 to 5; Write): what its tiles held are refused for (Held) and what its fields add, in the paper's order.
use Rattle.std.specs.Prelude.{Bool, ◌&&◌, ◌||◌, cond, not, ℕ, ◌+◌, ltb, leb, eqb}
use Rattle.tiles.specs.Groups.{at_kind}
use Rattle.hand.specs.declared.Fields.{Fields}
use Rattle.hand.specs.declared.Held.{Held}
use Rattle.hand.specs.declared.Hand.{Hand}
use Rattle.hand.specs.Held.{is_closed, has_kan, wrong_held, descends, over_four, unused_not_zero}
use Rattle.hand.specs.Hand.{is_ron, in_hand}

-- ---- 2

-- "a tile over 33": the indicator and the winning tile too
abbrev pub field_over33 : Fields → Bool
field_over33 f = ltb 33 f.indicator || ltb 33 f.winning

-- "riichi 3, situation over 4"
abbrev pub field_over : Fields → Bool
field_over f = leb 3 f.riichi || ltb 4 f.situation

-- "tsumo with discarder not 0, ron with discarder equal to winner"
abbrev pub wrong_discarder : Fields → Bool
wrong_discarder f = cond (is_ron f) (eqb f.discarder f.winner) (not (eqb f.discarder 0))

-- 2, whole, with the padding bits as a number: "a tile over 33, .., a chi with no run from that tile, a padding bit set" and these
unfoldable pub wrong_fields : Hand → ℕ → Bool
wrong_fields h padding = wrong_held h.held padding || field_over33 h.fields || field_over h.fields || wrong_discarder h.fields

-- ---- 3 is `descends` of the tiles held; 4

-- "among concealed tiles, winning tile, melds and indicator": how many of kind k
unfoldable pub in_record : Hand → ℕ → ℕ
in_record h k = in_hand h k + at_kind h.fields.indicator 1 k

-- ---- 5

-- "riichi without a closed hand; double riichi with a meld"
abbrev pub wrong_riichi : Fields → Held → Bool
wrong_riichi f x = (ltb 0 f.riichi && not (is_closed x)) || (eqb f.riichi 2 && ltb 0 x.m)

-- "rinshan on ron, with riichi or without a kan"
abbrev pub wrong_rinshan : Fields → Held → Bool
wrong_rinshan f x = is_ron f || ltb 0 f.riichi || not (has_kan x)

-- "chankan on tsumo, or with the winning tile's kind more than once among the tiles of 4": n times among them
abbrev pub wrong_chankan : Fields → ℕ → Bool
wrong_chankan f n = not (is_ron f) || ltb 1 n

-- "first turn with ron, a meld or riichi"
abbrev pub wrong_first_turn : Fields → Held → Bool
wrong_first_turn f x = is_ron f || ltb 0 x.m || ltb 0 f.riichi

-- 5 of fields, tiles held, and how often they have the winning tile's kind: "situation 3 (0 ordinary, 1 rinshan, 2 chankan, 3 last tile, 4 first turn)"
abbrev pub wrong_by : Fields → Held → ℕ → Bool
wrong_by f x n =
    wrong_riichi f x
    || (eqb f.situation 1 && wrong_rinshan f x)
    || (eqb f.situation 2 && wrong_chankan f n)
    || (eqb f.situation 4 && wrong_first_turn f x)

-- 5, whole
unfoldable pub wrong_situation : Hand → Bool
wrong_situation h = wrong_by h.fields h.held (in_record h h.fields.winning)

-- ---- Read's and Write's refusals of a hand

-- "first match wins": 2, 3, 4, 5, or 0 where there is none
unfoldable pub refusal_of : Hand → ℕ → ℕ
refusal_of h padding =
    cond (wrong_fields h padding) 2 (cond (descends h.held) 3 (cond (over_four (in_record h)) 4 (cond (wrong_situation h) 5 0)))

-- Write's 2: "m over 4, a field too large for its bits". A tile too large for its bits is over 33.
abbrev pub too_large : Hand → Bool
too_large h =
    ltb 4 h.held.m
    || ltb 1 h.fields.how
    || ltb 3 h.fields.winner
    || ltb 3 h.fields.discarder
    || ltb 3 h.fields.riichi
    || ltb 7 h.fields.situation

-- what Write refuses of a hand before it looks at the buffer: "2 (also m over 4, .., or an unused place not zero), 3, 4, 5 as above"
unfoldable pub unwritable : Hand → ℕ
unwritable h = cond (too_large h || unused_not_zero h.held) 2 (refusal_of h 0)
