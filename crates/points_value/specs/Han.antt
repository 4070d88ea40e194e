-- What each yaku counts, and h (01, "h = yaku han plus dora"). y has true at n where yaku n is listed.
use Rattle.std.specs.Prelude.{Bool, false, cond, List, [], ◌∷◌, ℕ, ◌+◌, ◌-◌, get_or}
use Rattle.tiles.specs.Below.{sum_below, tabulate}
use Rattle.units.specs.declared.Han.{Han}
use Rattle.yaku.specs.Yaku.{value_han_of, yaku_of, yakuman}
use Rattle.yaku.specs.declared.Won.{Won}
use Rattle.yaku.specs.declared.FullReading.{FullReading}

-- "Han; "c" closed only; "−1" one less when open": the han of yaku n at index n; yaku 3 has as many as it counts, and a yakuman has none
abbrev pub han_for : Bool → ℕ → List ℕ
han_for closed values =
    let c : ℕ → ℕ = λ n. cond closed n 0 in
    let less : ℕ → ℕ = λ n. cond closed n (n - 1) in
    -- "1 tsumo c1. 2 all simples 1. 3 value triplet 1 each .. 4 pinfu c1 .. 5 one twin run .. c1."
    0 ∷ c 1 ∷ 1 ∷ values ∷ c 1 ∷ c 1
    -- "6 chankan 1. 7 rinshan 1. 8 last tile tsumo 1. 9 last tile ron 1. 10 riichi c1."
    ∷ 1 ∷ 1 ∷ 1 ∷ 1 ∷ c 1
    -- "11 double riichi c2 .. 12 seven pairs c2. 13 same run in three suits 2−1. 14 123 456 789 of a suit 2−1. 15 yaochu in every group .. 2−1."
    ∷ c 2 ∷ c 2 ∷ less 2 ∷ less 2 ∷ less 2
    -- "16 same triplet in three suits 2. 17 four triplets 2. 18 three concealed triplets 2. 19 three kans 2. 20 only yaochu 2."
    ∷ 2 ∷ 2 ∷ 2 ∷ 2 ∷ 2
    -- "21 two twin runs .. c3 .. 22 as 15 with no honour 3−1. 23 one suit and honours .. 3−1. 24 two dragon triplets .. 4 .. 25 one suit 6−1."
    ∷ c 3 ∷ less 3 ∷ less 3 ∷ 4 ∷ less 6 ∷ []

-- "yaku han": the sum over the listed ones
unfoldable pub yaku_han : List Bool → Bool → ℕ → ℕ
yaku_han y closed values = sum_below 37 (λ n. cond (get_or y n false) (get_or (han_for closed values) n 0) 0)

-- n han
abbrev pub han : ℕ → Han
han n = record { 0 = n }

-- the han of each listed yaku as it counts, of yaku n at index n: those that "yaku han" sums
unfoldable pub han_each : List Bool → Bool → ℕ → List Han
han_each y closed values = tabulate 37 0 (λ n. han (cond (get_or y n false) (get_or (han_for closed values) n 0) 0))

-- "h = yaku han plus dora"; "each one held, kans whole, adds 1"; with a yakuman "h and fu are 0"
unfoldable pub han_of : Won → FullReading → ℕ → ℕ
han_of w p dora = cond (yakuman w p) 0 (yaku_han (yaku_of w p) w.closed (value_han_of w p) + get_or w.tally dora 0)
