-- The table of hands to prove (01): dealer 0, East, indicator North, no riichi, ordinary, each ron from seat 3.
use Rattle.std.specs.Prelude.{List, [], ◌∷◌, ◌++◌, reverse, ◌≡◌, true, false, cond, ℕ, ◌+◌, ◌-◌, eqb, ltb, ℤ, pos, neg_ℤ, length, get_or, take, replicate}
use Prim.Native.String.{String}
use Rattle.text.specs.Words.{bytes_of}
use Rattle.points.specs.Points.{basic, gain}
use Rattle.hand.specs.declared.Hand.{Hand}
use Rattle.hand_record.specs.Record.{record_of}
use Rattle.score.specs.declared.Scored.{Scored}
use Rattle.score.specs.Named.{refused_with}
use Rattle.score.specs.Score.{score_of}

-- ---- hands in the table's writing: "m p s are suits", after their numbers

-- the kind of a suit's 1, by the code of its letter: 1m is 0, 1p is 9, 1s is 18
abbrev pub low_of : ℕ → ℕ
low_of c = cond (eqb c 112) 9 (cond (eqb c 115) 18 0)

-- the kinds that a text names, which is read from its end: `later` are those read so far, `low` is the 1 of the suit whose letter was read last
unfoldable pub kinds_from : ℕ → List ℕ → List ℕ → List ℕ
kinds_from low [] later = later
kinds_from low (c ∷ cs) later = let suit = ltb 57 c in kinds_from (cond suit (low_of c) low) cs (cond suit later ((low + (c - 49)) ∷ later))

-- the kinds that a text names, in its order
abbrev pub kinds : String → List ℕ
kinds text = kinds_from 0 (reverse (bytes_of text)) []

-- a hand of the table, with "indicator North, no riichi, ordinary": by how (0 tsumo, 1 ron), winner, discarder, melds, other concealed tiles, winning tile
abbrev pub won : ℕ → ℕ → ℕ → List ℕ → String → String → Hand
won how winner discarder melds others winning =
    let tile = get_or (kinds winning) 0 0 in
    let m = length melds in
    record {
      fields = record { how = how; winner = winner; discarder = discarder; riichi = 0; situation = 0; indicator = 30; winning = tile };
      held = record { m = m; melds = take 4 (melds ++ replicate 4 0); concealed = take 13 (kinds others ++ replicate 13 0) };
    }

-- "each ron from seat 3"
abbrev pub ron : ℕ → List ℕ → String → String → Hand
ron winner = won 1 winner 3

-- "tsumo", with discarder 0
abbrev pub tsumo : ℕ → List ℕ → String → String → Hand
tsumo winner = won 0 winner 0

-- a "Chi", by its lowest tile
abbrev pub chi : String → List ℕ
chi lowest = kinds lowest

-- ---- what a hand's record scores by "Dealer 0, East"

abbrev pub scored : Hand → Scored
scored hand = score_of (record_of hand) 0 0

-- accepted, with h, fu and the four changes
pub record Scores (hand : Hand) (h fu : ℕ) (changes : List ℤ) : Type 0 where
  pub accepted : (scored hand).refusal ≡ 0
  pub has_h : (scored hand).h.0 ≡ h
  pub has_fu : (scored hand).fu.0 ≡ fu
  pub has_changes : (scored hand).changes ≡ changes

-- what seat 1, a "child", gains by ron from seat 3 with h and fu
abbrev child_ron : ℕ → ℕ → ℕ
child_ron h fu = gain (record { winner = 1; dealer = 0; discarder = 3 }) true (basic false h fu)

-- the twelve lines
pub record Lines : Type 0 where
  -- "234567m 345p 678s 22s, closed, won by 8s. Seat 1 ron: 2,000."
  pub line_1 : Scores (ron 1 [] "234567m345p2267s" "8s") 2 30 (pos 0 ∷ pos 2000 ∷ pos 0 ∷ neg_ℤ (pos 2000) ∷ [])
  -- "Tsumo: 700, 700, dealer 1,300."
  pub line_2 : Scores (tsumo 1 [] "234567m345p2267s" "8s") 3 20 (neg_ℤ (pos 1300) ∷ pos 2700 ∷ neg_ℤ (pos 700) ∷ neg_ℤ (pos 700) ∷ [])
  -- "Seat 0 ron: 2,900."
  pub line_3 : Scores (ron 0 [] "234567m345p2267s" "8s") 2 30 (pos 2900 ∷ pos 0 ∷ pos 0 ∷ neg_ℤ (pos 2900) ∷ [])
  -- "111222333m 789s 99p, seat 1 tsumo by 9s: h 6, 3,000, 3,000, 6,000."
  pub line_4 : Scores (tsumo 1 [] "111222333m99p78s" "9s") 6 20 (neg_ℤ (pos 6000) ∷ pos 12000 ∷ neg_ℤ (pos 3000) ∷ neg_ℤ (pos 3000) ∷ [])
  -- "112233m 778899p 55s, seat 1 ron 5s: h 3, fu 40, 5,200."
  pub line_5 : Scores (ron 1 [] "112233m778899p5s" "5s") 3 40 (pos 0 ∷ pos 5200 ∷ pos 0 ∷ neg_ℤ (pos 5200) ∷ [])
  -- "Chi 234m, 567m 456p 678s 22p, seat 1 ron 8s: 1,000."
  pub line_6 : Scores (ron 1 (chi "2m") "567m22456p67s" "8s") 1 30 (pos 0 ∷ pos 1000 ∷ pos 0 ∷ neg_ℤ (pos 1000) ∷ [])
  -- "Chi 123m, 456p 789s 234s 99p, seat 1 ron 9s: 7."
  pub line_7 : scored (ron 1 (chi "1m") "45699p23478s" "9s") ≡ refused_with 7
  -- "111m 333p 555s 777s 99s, seat 1 ron 7s: h 4, fu 50, 8,000."
  pub line_8 : Scores (ron 1 [] "111m333p5557799s" "7s") 4 50 (pos 0 ∷ pos 8000 ∷ pos 0 ∷ neg_ℤ (pos 8000) ∷ [])
  -- "By tsumo: 8,000, 8,000, dealer 16,000."
  pub line_9 : Scores (tsumo 1 [] "111m333p5557799s" "7s") 0 0 (neg_ℤ (pos 16000) ∷ pos 32000 ∷ neg_ℤ (pos 8000) ∷ neg_ℤ (pos 8000) ∷ [])
  -- "Fu 30, h 4, child ron 7,700; fu 40: 8,000."
  pub line_10 : (child_ron 4 30 ≡ 7700) × (child_ron 4 40 ≡ 8000)
  -- "h 5, 6, 8, 11, child ron: 8,000, 12,000, 16,000, 24,000.", whatever the fu
  pub line_11 : (fu : ℕ) → (child_ron 5 fu ≡ 8000) × (child_ron 6 fu ≡ 12000) × (child_ron 8 fu ≡ 16000) × (child_ron 11 fu ≡ 24000)
  -- "1111m 44m 77m 22p 55p 88p, seat 1 ron 8p: 6."
  pub line_12 : scored (ron 1 [] "11114477m22558p" "8p") ≡ refused_with 6
