-- The parts of a reading that the code makes, in four places, are the reading's groups and then the melds'.
use Rattle.std.specs.Prelude.{ℕ, zero, suc, ◌+◌, ◌-◌, ◌≤◌, ◌<◌, ◌≡◌, Bool, ◌&&◌, ltb, eqb, length, get_or, take, replicate}
use Rattle.std.proofs.Common.{arith, sym, ◌∙◌, ltb-true, ltb-false, le-ltb, ne_eqb, length-append, get_or-take, get_or-append-add, length-take-le}
use Rattle.std.proofs.Math.Path.{refl, ap}
use Rattle.std.proofs.Math.Bool.{true, false, cond}
use mathlib.Core.List.{List, [], ◌∷◌, ◌++◌, map}
use Rattle.std.proofs.lemmas.List.{length-map, get_or-replicate}
use Rattle.std.proofs.Math.ListN.{get_or-append, get_or-map}
use Rattle.std.proofs.Math.Seq.{take_at, ext_get_or}
use Rattle.tiles.specs.Below.{tabulate}
use Rattle.tiles.specs.Kinds.{dora_of}
use Rattle.tiles.proofs.laws.Tabulate.{get_d_tabulate}
use Rattle.hand.specs.declared.Hand.{Hand}
use Rattle.hand.specs.Hand.{is_ron, concealed_tally}
use Rattle.reading.specs.declared.Reading.{Reading}
use Rattle.reading.specs.Reading.{Ascends, regular, pairs, orphans}
use Rattle.reading.specs.search.Readings.{readings}
use Rattle.reading.proofs.SearchClaims.{readings_sound}
use Rattle.reading.proofs.laws.Groups.{group_in}
use Rattle.yaku_basics.specs.Melds.{meld_code, meld_way}
use Rattle.yaku_basics.specs.search.Ways.{ways_at}
use Rattle.yaku.specs.declared.FullReading.{FullReading}
use Rattle.points_value.specs.Value.{value_of}
use Rattle.score_best.specs.declared.HandCommon.{HandCommon}
use Rattle.score_best.specs.declared.Best.{Best}
use Rattle.score_best.specs.search.HandCommon.{joined, full_reading_in, worth_in}
use Rattle.score_best.specs.search.Best.{none_of, search_for}
use Rattle.score_best.proofs.laws.First.{folded_same}
use Rattle.score_best.proofs.laws.Keep.{best_wanted}
use Rattle.score.specs.Readings.{all_kinds}
use Rattle.score.specs.Named.{won_of, seats_of, groups_of, ways_of, full_reading_of, worth, IsReadingOf}
use Rattle.score.specs.search.HandCommon.{meld_codes, meld_ways, hand_common_of}
use Rattle.score.specs.search.HandScore.{kept_of}

-- ---- the groups of a regular reading

-- a group is no filler
no_filler : (c : ℕ) (l : List ℕ) → Ascends c l → (i : ℕ) → i < length l → eqb (get_or l i 0) 68 ≡ false
no_filler c [] s i h = absurd (omega arith)
no_filler c (g ∷ l) s zero h = ne_eqb g 68 (λ e. omega (arith, group_in g s.1, e))
no_filler c (g ∷ l) s (suc i) h = no_filler g l s.2 i (omega arith)

module _ (m : ℕ) (codes melds : List ℕ) (few : m ≤ 4) (size : length codes ≡ 4 - m) (order : Ascends 0 codes) (four : length melds ≡ 4) where
  abbrev own : List ℕ
  own = codes ++ replicate m 68

  abbrev places : List ℕ
  places = tabulate 4 0 (λ i. cond (ltb i (4 - m)) 68 (meld_code (get_or melds (i - (4 - m)) 0)))

  abbrev after : List ℕ
  after = map meld_code (take m melds)

  taken : length (take m melds) ≡ m
  taken = length-take-le m melds (omega (arith, few, four))

  -- where the reading has a group
  at_group : (i : ℕ) → i < length codes → cond (eqb (get_or own i 0) 68) (get_or places i 0) (get_or own i 0) ≡ get_or (codes ++ after) i 0
  at_group i h = rw (get_or-append codes (replicate m 68) 0 i h, get_or-append codes after 0 i h, no_filler 0 codes order i h)

  -- and where it has none
  at_meld : (j : ℕ) → j < m → cond (eqb (get_or own (length codes + j) 0) 68) (get_or places (length codes + j) 0) (get_or own (length codes + j) 0)
      ≡ get_or (codes ++ after) (length codes + j) 0
  at_meld j h =
      let f : 4 - m + j - (4 - m) ≡ j = omega arith in
      rw (
        get_or-append-add codes (replicate m 68) j 0,
        get_or-append-add codes after j 0,
        get_or-replicate {A = ℕ} m j 68 0 h,
        get_d_tabulate 0 4
            (λ i. cond (ltb i (4 - m)) 68 (meld_code (get_or melds (i - (4 - m)) 0))) (length codes + j) (omega (arith, size, few, h)),
        size,
        le-ltb (4 - m + j)
            (4 - m) (omega arith),
        f,
      )
      (sym (get_or-map meld_code (take m melds) j 0 ∙ ap meld_code (get_or-take m melds j 0 h)))

  at_place : (i : ℕ) → i < 4 → cond (eqb (get_or own i 0) 68) (get_or places i 0) (get_or own i 0) ≡ get_or (codes ++ after) i 0
  at_place i h = go (ltb i (length codes)) refl
    where
      go : (b : Bool) → ltb i (length codes) ≡ b → cond (eqb (get_or own i 0) 68) (get_or places i 0) (get_or own i 0) ≡ get_or (codes ++ after) i 0
      go true e = at_group i (ltb-true i (length codes) e)
      go false e =
          let k = ltb-false i (length codes) e in
          let q : i ≡ length codes + (i - length codes) = omega (arith, k) in
          rw q (at_meld (i - length codes) (omega (arith, k, size, few, h)))

  long : 4 ≡ length (codes ++ after)
  long = omega (arith, few, size, length-append codes after, length-map (take m melds) meld_code, taken)

  groups_then_melds : joined own places ≡ codes ++ after
  unfolding joined
  groups_then_melds =
      ext_get_or 0 _ (codes ++ after) long (λ i h. get_d_tabulate 0 4 (λ k. cond (eqb (get_or own k 0) 68) (get_or places k 0) (get_or own k 0)) i h ∙ at_place i h)

-- ---- the ways

-- what holds at 0 to 4 holds up to 4
up_to_four : (P : ℕ → Type 0) → P 0 → P 1 → P 2 → P 3 → P 4 → (n : ℕ) → n ≤ 4 → P n
up_to_four P a b c d e zero h = a
up_to_four P a b c d e (suc zero) h = b
up_to_four P a b c d e (suc (suc zero)) h = c
up_to_four P a b c d e (suc (suc (suc zero))) h = d
up_to_four P a b c d e (suc (suc (suc (suc zero)))) h = e
up_to_four P a b c d e (suc (suc (suc (suc (suc n))))) h = absurd (omega arith)

-- the ways in four places are the list, with m melds and the winning tile at a place
abbrev WaysAre : List ℕ → Bool → ℕ → ℕ → Type 0
WaysAre melds ron m place =
    ways_at (tabulate 4 0 (λ i. cond (ltb i (4 - m)) 0 (meld_way (get_or melds (i - (4 - m)) 0)))) ron place
    ≡ tabulate (4 - m) 0 (λ i. cond (ron && eqb place (i + 1)) 1 0) ++ map meld_way (take m melds)

module _ (x y z w : ℕ) where
  abbrev melds : List ℕ
  melds = x ∷ y ∷ z ∷ w ∷ []

  by_tsumo : (place m : ℕ) → m ≤ 4 → WaysAre melds false m place
  unfolding ways_at
  by_tsumo place = up_to_four (λ m. WaysAre melds false m place) refl refl refl refl refl

  by_ron : (m : ℕ) → m ≤ 4 → (place : ℕ) → place ≤ 4 → place ≤ 4 - m → WaysAre melds true m place
  unfolding ways_at
  by_ron =
      up_to_four (λ m. (place : ℕ) → place ≤ 4 → place ≤ 4 - m → WaysAre melds true m place)
      (up_to_four (λ p. p ≤ 4 → WaysAre melds true 0 p) (λ h. refl) (λ h. refl) (λ h. refl) (λ h. refl) (λ h. refl))
      (up_to_four (λ p. p ≤ 3 → WaysAre melds true 1 p) (λ h. refl) (λ h. refl) (λ h. refl) (λ h. refl) (λ h. absurd (omega arith)))
      (up_to_four (λ p. p ≤ 2 → WaysAre melds true 2 p) (λ h. refl) (λ h. refl) (λ h. refl) (λ h. absurd (omega arith)) (λ h. absurd (omega arith)))
      (up_to_four (λ p. p ≤ 1 → WaysAre melds true 3 p) (λ h. refl) (λ h. refl)
      (λ h. absurd (omega arith)) (λ h. absurd (omega arith)) (λ h. absurd (omega arith)))
      (up_to_four (λ p. p ≤ 0 → WaysAre melds true 4 p) (λ h. refl)
      (λ h. absurd (omega arith)) (λ h. absurd (omega arith)) (λ h. absurd (omega arith)) (λ h. absurd (omega arith)))

  by_either : (ron : Bool) (m place : ℕ) → m ≤ 4 → place ≤ 4 - m → WaysAre melds ron m place
  by_either true m place h l = by_ron m h place (omega arith) l
  by_either false m place h l = by_tsumo place m h

ways_are : (melds : List ℕ) → length melds ≡ 4 → (ron : Bool) (m place : ℕ) → m ≤ 4 → place ≤ 4 - m → WaysAre melds ron m place
ways_are [] l = absurd (omega arith)
ways_are (x ∷ []) l = absurd (omega arith)
ways_are (x ∷ y ∷ []) l = absurd (omega arith)
ways_are (x ∷ y ∷ z ∷ []) l = absurd (omega arith)
ways_are (x ∷ y ∷ z ∷ w ∷ []) l = by_either x y z w
ways_are (x ∷ y ∷ z ∷ w ∷ v ∷ melds) l = absurd (omega arith)

-- ---- the groups of a shape without groups: there is no meld

none_joined : (melds : List ℕ) (m : ℕ) → m ≡ 0
    → joined (68 ∷ 68 ∷ 68 ∷ 68 ∷ []) (tabulate 4 0 (λ i. cond (ltb i (4 - m)) 68 (meld_code (get_or melds (i - (4 - m)) 0))))
    ≡ take (4 - m) (68 ∷ 68 ∷ 68 ∷ 68 ∷ []) ++ map meld_code (take m melds)
unfolding joined
none_joined melds m e = rw e refl

-- ---- of a hand

module _ (h : Hand) (few : h.held.m ≤ 4) (four : length h.held.melds ≡ 4) where
  abbrev m : ℕ
  m = h.held.m

  groups_in : (r : Reading) → IsReadingOf h r → joined r.groups (meld_codes h) ≡ groups_of h r
  unfolding meld_codes groups_of
  groups_in r (regular i) =
      ap (λ (g : List ℕ). joined g (tabulate 4 0 (λ k. cond (ltb k (4 - m)) 68 (meld_code (get_or h.held.melds (k - (4 - m)) 0))))) i.groups
      ∙ groups_then_melds m i.codes h.held.melds few i.size i.order four
      ∙ ap (λ (g : List ℕ). g ++ map meld_code (take m h.held.melds))
      (sym (ap (take (4 - m)) i.groups ∙ take_at i.codes (replicate m 68) (4 - m) i.size))
  groups_in r (pairs i) = rw i.reading (none_joined h.held.melds m i.meldless)
  groups_in r (orphans i) = rw i.reading (none_joined h.held.melds m i.meldless)

  place_in : (r : Reading) → IsReadingOf h r → r.place ≤ 4 - m
  place_in r (regular i) = i.place
  place_in r (pairs i) = rw i.reading (omega arith)
  place_in r (orphans i) = rw i.reading (omega arith)

  ways_in : (r : Reading) → IsReadingOf h r → ways_at (meld_ways h) (is_ron h.fields) r.place ≡ ways_of h r
  unfolding meld_ways ways_of
  ways_in r i = ways_are h.held.melds four (is_ron h.fields) m r.place few (place_in r i)

  -- the parts in four places are the parts
  pub full_reading_in_lem : (dealer wind : ℕ) (r : Reading) → IsReadingOf h r → full_reading_in (hand_common_of h dealer wind) r ≡ full_reading_of h r
  unfolding full_reading_in full_reading_of hand_common_of won_of
  full_reading_in_lem dealer wind r i = rw (groups_in r i, ways_in r i)

  -- and so is what the reading is worth
  pub worth_in_lem : (dealer wind : ℕ) (r : Reading) → IsReadingOf h r → worth_in (hand_common_of h dealer wind) r ≡ worth h dealer wind r
  unfolding worth_in worth hand_common_of
  worth_in_lem dealer wind r i =
      ap (λ (p : FullReading). value_of (won_of h dealer wind) p (dora_of h.fields.indicator) (seats_of h dealer)) (full_reading_in_lem dealer wind r i)

  module _ (dealer wind : ℕ) (t : HandCommon) (c : List ℕ) (b : Best) (et : t ≡ hand_common_of h dealer wind) (ec : c ≡ concealed_tally h) where
    -- so that the search keeps the same, whatever is wanted
    pub search_in : (wanted : ℕ) → b ≡ search_for (worth_in t) wanted c m h.fields.winning
        → b ≡ search_for (worth h dealer wind) wanted (concealed_tally h) m h.fields.winning
    unfolding search_for
    search_in wanted eb =
        rw (et, ec) at eb
        ∙ folded_same (worth_in (hand_common_of h dealer wind)) (worth h dealer wind) (none_of wanted) (readings (concealed_tally h) m h.fields.winning)
        (λ q n. worth_in_lem dealer wind q (readings_sound (concealed_tally h) m h.fields.winning (all_kinds h) q n))

    -- the best
    pub kept_in : b ≡ search_for (worth_in t) 0 c m h.fields.winning → b ≡ kept_of h dealer wind
    unfolding kept_of
    kept_in eb = search_in 0 eb ∙ best_wanted (worth h dealer wind) (concealed_tally h) m h.fields.winning
