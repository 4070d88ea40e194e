-- The 34 kinds of tile (01, Tiles and the hand record).
use Rattle.std.specs.Prelude.{Bool, ◌&&◌, ◌||◌, cond, not, ℕ, ◌+◌, ◌-◌, ◌*◌, ◌/◌, ◌%◌, ltb, leb, eqb}

-- "0-8 man 1-9, 9-17 pin, 18-26 sou"
abbrev pub is_number : ℕ → Bool
is_number k = ltb k 27

-- "0-8 man 1-9, 9-17 pin, 18-26 sou" by suit: s is 0 for man, 1 for pin, 2 for sou
abbrev pub in_suit : ℕ → ℕ → Bool
in_suit s k = is_number k && eqb (k / 9) s

-- "honours (27-33)"
abbrev pub is_honour : ℕ → Bool
is_honour k = leb 27 k && leb k 33

-- "27-30 East South West North"
abbrev pub is_wind : ℕ → Bool
is_wind k = leb 27 k && leb k 30

-- "31-33 white, hatsu, chun": the dragons
abbrev pub is_dragon : ℕ → Bool
is_dragon k = leb 31 k && leb k 33

-- "Terminals are 1s and 9s"
abbrev pub is_terminal : ℕ → Bool
is_terminal k = is_number k && (eqb (k % 9) 0 || eqb (k % 9) 8)

-- "yaochu are terminals and honours"
abbrev pub is_yaochu : ℕ → Bool
is_yaochu k = is_terminal k || is_honour k

-- "the rest are simples"
abbrev pub is_simple : ℕ → Bool
is_simple k = leb k 33 && not (is_yaochu k)

-- Read's 2, "a chi with no run from that tile": there is a run from k where k, k + 1 and k + 2 are of one suit
abbrev pub is_run_start : ℕ → Bool
is_run_start k = is_number k && leb (k % 9) 6

-- "Dora is the kind after the indicator (9 to 1, North to East, chun to white)" (01, Fu and points); `Claims` has it kind by kind
unfoldable pub dora_of : ℕ → ℕ
dora_of k =
    cond (ltb k 27) (9 * (k / 9) + (k % 9 + 1) % 9)
    (cond (ltb k 31) (27 + (k - 27 + 1) % 4)
    (cond (ltb k 34) (31 + (k - 31 + 1) % 3) 0))
