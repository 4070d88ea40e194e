-- Of the yaku that a feeder is named for (02, S-8): 28 and 29 are not listed together, "four wind triplets, not three and a pair" are told by the tally,
-- and the winner's gain with a yakuman is one of two numbers.
use Prim.Native.Nat.{ℕ, zero, suc, ◌+◌, ◌*◌, ◌-◌, ◌%◌, ◌≤◌, ◌<◌}
use Rattle.std.specs.Prelude.{◌≡◌, length, get_or, take, replicate}
use Rattle.std.proofs.Math.Path.{refl, ap}
use Rattle.std.proofs.Common.{sym, ◌∙◌, arith, length-append, length-take-le, get_or-take}
use mathlib.Core.Bool.{Bool, true, false, ◌&&◌, ◌||◌, not, cond, and-false, false≢true}
use mathlib.Core.List.{List, [], ◌∷◌, ◌++◌, map}
use borrow.Author.Tests.{ltb-true, ltb-false, leb-true, le-leb, lt-leb, eqb-true, eqb-false, ne_eqb, not-false}
use Rattle.std.proofs.Math.Dec.{ltb, leb, eqb}
use Rattle.std.proofs.Math.IntN.{pos}
use Rattle.std.proofs.lemmas.List.{length-map}
use Rattle.std.proofs.Math.Seq.{take_at}
use Rattle.tiles.specs.Below.{all, count, sum, all_below, any_below, count_below, tabulate}
use Rattle.tiles.specs.Kinds.{is_run_start, is_wind, dora_of}
use Rattle.tiles.specs.Groups.{is_group, at_kind, uses}
use Rattle.tiles.proofs.laws.Below.{and_true, or_both, same_test, any_of, any_counted, number_le, some_at, every_cong}
use Rattle.tiles.proofs.laws.Tabulate.{get_d_tabulate}
use Rattle.tiles.proofs.laws.Tally.{get_d_tally, at_le}
use Rattle.tiles.proofs.laws.Sums.{sum_cong, sum_swap, sum_over, over_map, over_places}
use Rattle.hand.specs.declared.Held.{Held}
use Rattle.hand.specs.declared.Hand.{Hand}
use Rattle.hand.specs.Held.{meld_kind, meld_tile, meld_holds, in_melds, in_held, tile_over33, chi_without_run, wrong_held}
use Rattle.hand.specs.Hand.{is_ron, in_concealed, in_hand, concealed_tally, hand_tally}
use Rattle.hand.specs.Refusals.{field_over33, field_over, wrong_discarder, wrong_fields}
use Rattle.hand_record.specs.Record.{refusal_in, hand_of, read_of}
use Rattle.hand_record.proofs.laws.Bounds.{other_seat, read_bounds}
use Rattle.hand_record.proofs.laws.Claims.{read_sound}
use Rattle.hand_record.proofs.laws.Sound.{read_accepted, read_is_hand}
use Rattle.reading.specs.declared.Reading.{Reading}
use Rattle.reading.specs.Reading.{used_by, Ascends, of_shape, IsRegular, regular, pairs, orphans}
use Rattle.reading.proofs.laws.Groups.{at_other}
use Rattle.yaku_basics.specs.Melds.{meld_code}
use Rattle.yaku_basics.specs.Tests.{has, dragons, winds, four_winds}
use Rattle.yaku.specs.Yaku.{tests_of, is_yakuman, listed, yaku_of}
use Rattle.points.specs.declared.Seats.{Seats}
use Rattle.points.specs.Points.{hundreds, gain}
use Rattle.points.proofs.Claims.{gain_by_ron, gain_by_tsumo, gain_is_payments}
use Rattle.points_value.specs.Value.{value_of}
use Rattle.points_value.proofs.Claims.{yakuman_pays_as_one}
use Rattle.score.specs.Named.{won_of, seats_of, groups_of, full_reading_of, worth, IsReadingOf, gain_in, scored_as}

-- ---- lists

-- what is listed was met
met : (y : List Bool) (n : ℕ) → n < 37 → get_or (listed y) n false ≡ true → get_or y n false ≡ true
unfolding listed
met y n h e = go (is_yakuman y) e
  where
    go : (b : Bool) → get_or (cond b (tabulate 37 0 (λ k. leb 26 k && get_or y k false)) y) n false ≡ true → get_or y n false ≡ true
    go true q = (and_true (leb 26 n) (get_or y n false) (sym (get_d_tabulate false 37 (λ k. leb 26 k && get_or y k false) n h) ∙ q)).1
    go false q = q

yakuman_in : (y : List Bool) (n : ℕ) → 26 ≤ n → n ≤ 36 → get_or y n false ≡ true → is_yakuman y ≡ true
unfolding is_yakuman
yakuman_in y n a b e =
    let q : 26 + (n - 26) ≡ n = omega arith in
    any_of (λ i. get_or y (26 + i) false) 11 (n - 26) (omega arith) (ap (λ (k : ℕ). get_or y k false) q ∙ e)

-- all have p where as many as there are have it
all_counted : (p : ℕ → Bool) (n : ℕ) → all n p ≡ eqb (count n p) n
unfolding count_below
all_counted p zero = refl
all_counted p (suc n) = go (all_counted p n) (p n)
  where
    go : all n p ≡ eqb (count n p) n → (b : Bool) → all n p && b ≡ eqb (count n p + cond b 1 0) (suc n)
    go h true = mathlib.Core.Bool.and-true (all n p) ∙ h ∙ same_test (count n p) n (count n p + 1) (suc n) (λ q. omega arith) (λ q. omega arith)
    go h false = and-false (all n p) ∙ sym (ne_eqb (count n p + 0) (suc n) (λ q. omega (arith, number_le p n)))

-- ---- four groups are at most four triplets of honours

-- x is one of n numbers in a row, once at most
once : (x b n : ℕ) → (sum n (λ j. at_kind x 1 (b + j)) ≤ 1) × (b + n ≤ x → sum n (λ j. at_kind x 1 (b + j)) ≡ 0)
once x b zero = (omega arith, λ h. refl)
once x b (suc n) = go (once x b n) (eqb x (b + n)) refl
  where
    -- s of the n, and one more
    go : {s : ℕ} → (s ≤ 1) × (b + n ≤ x → s ≡ 0) → (t : Bool) → eqb x (b + n) ≡ t → (s + at_kind x 1 (b + n) ≤ 1) × (b + suc n ≤ x → s + at_kind x 1 (b + n) ≡ 0)
    go i true e =
        let q = eqb-true x (b + n) e in
        (omega (arith, at_le x 1 (b + n), i.1 (omega arith)), λ h. absurd (omega arith))
    go i false e =
        let z = at_other x 1 (b + n) (eqb-false x (b + n) e) in
        (omega (arith, i.0), λ h. omega (arith, i.1 (omega arith)))

module _ (g : List ℕ) where
  -- how many of the four groups are c
  abbrev number_of : ℕ → ℕ
  number_of c = sum 4 (λ i. at_kind (get_or g i 0) 1 c)

  has_number : (c : ℕ) → has g c ≡ ltb 0 (number_of c)
  unfolding at_kind
  has_number c = any_counted (λ i. eqb (get_or g i 0) c) 4

  has_le : (c : ℕ) → cond (has g c) 1 0 ≤ number_of c
  has_le c = go (has g c) (has_number c)
    where
      go : (b : Bool) → b ≡ ltb 0 (number_of c) → cond b 1 0 ≤ number_of c
      go true e = ltb-true 0 (number_of c) (sym e)
      go false e = omega arith

  four_at_most : winds g + dragons g ≤ 4
  four_at_most =
      let one : (i : ℕ) → sum 7 (λ j. at_kind (get_or g i 0) 1 (61 + j)) ≤ 1 = λ i. (once (get_or g i 0) 61 7).0 in
      let l = has_le in
      omega (arith, sum_swap (λ j i. at_kind (get_or g i 0) 1 (61 + j)) 7 4, l 61, l 62, l 63, l 64, l 65, l 66, l 67, one 0, one 1, one 2, one 3)

  three_winds : (pair : ℕ) → four_winds g pair ≡ true → 3 ≤ winds g
  unfolding four_winds
  three_winds pair e = go (eqb (winds g) 3) (is_wind pair) refl e
    where
      go : (a b : Bool) → eqb (winds g) 3 ≡ a → (a && b) || eqb (winds g) 4 ≡ true → 3 ≤ winds g
      go true b p q = omega (arith, eqb-true (winds g) 3 p)
      go false b p q = omega (arith, eqb-true (winds g) 4 q)

-- ---- the yaku of a reading

module _ (h : Hand) (dealer wind : ℕ) (r : Reading) where
  -- yaku n is in the "yaku set" of the reading
  abbrev pub lists : ℕ → Bool
  lists n = get_or (worth h dealer wind r).yaku n false

  -- 28 "three dragon triplets"
  pub listed_dragons : lists 28 ≡ true → dragons (groups_of h r) ≡ 3
  unfolding worth value_of yaku_of tests_of full_reading_of
  listed_dragons e = eqb-true (dragons (groups_of h r)) 3 (met (tests_of (won_of h dealer wind) (full_reading_of h r)) 28 (omega arith) e)

  -- 29 "three wind triplets and a wind pair, or four"
  pub listed_winds : lists 29 ≡ true → four_winds (groups_of h r) r.pair ≡ true
  unfolding worth value_of yaku_of tests_of full_reading_of
  listed_winds e = met (tests_of (won_of h dealer wind) (full_reading_of h r)) 29 (omega arith) e

  -- they are six triplets
  pub not_both : lists 28 ≡ true → lists 29 ≡ true → ⊥
  not_both d w = omega (arith, listed_dragons d, three_winds (groups_of h r) r.pair (listed_winds w), four_at_most (groups_of h r))

  -- "Yakuman 8,000"
  pub yakuman_paid : (n : ℕ) → 26 ≤ n → n ≤ 36 → lists n ≡ true → (worth h dealer wind r).basic.0 ≡ 8000
  unfolding worth value_of
  yakuman_paid n a b e =
      let y = yakuman_in (worth h dealer wind r).yaku n a b e in
      (yakuman_pays_as_one (won_of h dealer wind) (full_reading_of h r) (dora_of h.fields.indicator) (seats_of h dealer) y).2

-- ---- how many tiles of an honour k there are, by the groups of code 34 + k

-- n at a kind is n times one
at_times : (a n k : ℕ) → at_kind a n k ≡ n * at_kind a 1 k
unfolding at_kind
at_times a n k = go (eqb a k)
  where
    go : (b : Bool) → cond b n 0 ≡ n * cond b 1 0
    go true = omega arith
    go false = omega arith

-- 1 where a code is the triplet of k
abbrev of_triplet : ℕ → ℕ → ℕ
of_triplet k c = at_kind c 1 (34 + k)

triplet_of : (k a : ℕ) → of_triplet k (34 + a) ≡ at_kind a 1 k
unfolding at_kind
triplet_of k a = rw (same_test (34 + a) (34 + k) a k (λ q. omega arith) (λ q. omega arith))

-- t tiles where n groups are triplets of the kind: three a triplet, four a kan
abbrev Within : ℕ → ℕ → Type 0
Within n t = (3 * n ≤ t) × (t ≤ 4 * n)

-- how many of kind k a run from a has
abbrev in_run : ℕ → ℕ → ℕ
in_run k a = at_kind a 1 k + at_kind (a + 1) 1 k + at_kind (a + 2) 1 k

module _ (k : ℕ) (honour : 27 ≤ k) where
  -- a run has no honour
  run_none : (a : ℕ) → is_run_start a ≡ true → (in_run k a ≡ 0) × (of_triplet k a ≡ 0)
  run_none a e =
      let b = and_true (ltb a 27) (leb (a % 9) 6) e in
      let l = ltb-true a 27 b.0 in
      let m = leb-true (a % 9) 6 b.1 in
      let none : (x j : ℕ) → x < j → at_kind x 1 j ≡ 0 = λ x j g. at_other x 1 j (λ q. omega arith) in
      (omega (arith, none a k (omega arith), none (a + 1) k (omega arith), none (a + 2) k (omega arith)), none a (34 + k) (omega arith))

  group_holds : (c : ℕ) → is_group c ≡ true → uses c k ≡ 3 * of_triplet k c
  unfolding uses is_group
  group_holds c e = go (ltb c 34) refl e
    where
      go : (b : Bool) → ltb c 34 ≡ b → cond b (is_run_start c) (ltb c 68) ≡ true → cond b (in_run k c) (at_kind (c - 34) 3 k) ≡ 3 * of_triplet k c
      go true q w = omega (arith, (run_none c w).0, (run_none c w).1)
      go false q w =
          let z : 34 + (c - 34) ≡ c = omega (arith, ltb-false c 34 q) in
          at_times (c - 34) 3 k ∙ ap (λ (n : ℕ). 3 * n) (sym (triplet_of k (c - 34)) ∙ ap (of_triplet k) z)

  groups_hold : (lo : ℕ) (l : List ℕ) → Ascends lo l → used_by l k ≡ 3 * sum_over (of_triplet k) l
  unfolding used_by sum_over
  groups_hold lo [] s = refl
  groups_hold lo (c ∷ l) s = omega (arith, group_holds c s.1, groups_hold c l s.2)

  -- a chi from a, a pon, a kan
  meld_by : (chi pon : Bool) (a : ℕ) → chi && not (is_run_start a) ≡ false
      → Within (of_triplet k (cond chi a (34 + a))) (cond chi (in_run k a) (cond pon (at_kind a 3 k) (at_kind a 4 k)))
  meld_by true y a e = let n = run_none a (not-false (is_run_start a) e) in (omega (arith, n.0, n.1), omega (arith, n.0, n.1))
  meld_by false true a e = let t = triplet_of k a in let n = at_times a 3 k in (omega arith, omega arith)
  meld_by false false a e = let t = triplet_of k a in let n = at_times a 4 k in (omega arith, omega arith)

  module _ (x : Held) (runs : chi_without_run x ≡ false) where
    place_holds : (i : ℕ) → i < 4
        → Within (cond (ltb i x.m) (of_triplet k (meld_code (get_or x.melds i 0))) 0) (cond (ltb i x.m) (meld_holds (get_or x.melds i 0) k) 0)
    unfolding meld_holds any_below
    place_holds i l = go (get_or x.melds i 0) (ltb i x.m) (some_at (λ j. ltb j x.m && wrong (get_or x.melds j 0)) 4 i runs l)
      where
        wrong : ℕ → Bool
        wrong b = eqb (meld_kind b) 0 && not (is_run_start (meld_tile b))

        go : (b : ℕ) (t : Bool) → t && wrong b ≡ false → Within (cond t (of_triplet k (meld_code b)) 0) (cond t (meld_holds b k) 0)
        go b true e = meld_by (eqb (meld_kind b) 0) (eqb (meld_kind b) 1) (meld_tile b) e
        go b false e = (omega arith, omega arith)

    melds_hold : Within (sum 4 (λ i. cond (ltb i x.m) (of_triplet k (meld_code (get_or x.melds i 0))) 0)) (in_melds x k)
    unfolding in_melds
    melds_hold =
        let a = place_holds 0 (omega arith) in
        let b = place_holds 1 (omega arith) in
        let c = place_holds 2 (omega arith) in
        let d = place_holds 3 (omega arith) in
        (omega (arith, a.0, b.0, c.0, d.0), omega (arith, a.1, b.1, c.1, d.1))

-- ---- the four groups: those of the reading, then the melds

over_append : (φ : ℕ → ℕ) (a b : List ℕ) → sum_over φ (a ++ b) ≡ sum_over φ a + sum_over φ b
unfolding sum_over
over_append φ [] b = omega arith
over_append φ (x ∷ a) b = omega (arith, over_append φ a b)

first_of_four : (φ : ℕ → ℕ) (m : ℕ) → m ≤ 4 → sum 4 (λ i. cond (ltb i m) (φ i) 0) ≡ sum m φ
first_of_four φ zero h = refl
first_of_four φ (suc zero) h = omega arith
first_of_four φ (suc (suc zero)) h = omega arith
first_of_four φ (suc (suc (suc zero))) h = omega arith
first_of_four φ (suc (suc (suc (suc zero)))) h = omega arith
first_of_four φ (suc (suc (suc (suc (suc m))))) h = absurd (omega arith)

over_first : (φ : ℕ → ℕ) (l : List ℕ) (m : ℕ) → m ≤ 4 → m ≤ length l → sum_over φ (take m l) ≡ sum 4 (λ i. cond (ltb i m) (φ (get_or l i 0)) 0)
over_first φ l m h g =
    sym (over_places φ (take m l))
    ∙ ap (λ (n : ℕ). sum n (λ i. φ (get_or (take m l) i 0))) (length-take-le m l g)
    ∙ sum_cong (λ i. φ (get_or (take m l) i 0)) (λ i. φ (get_or l i 0)) m (λ i b. ap φ (get_or-take m l i 0 b))
    ∙ sym (first_of_four (λ i. φ (get_or l i 0)) m h)

-- from t tiles whether there is a triplet: a pair is none
told : (t n : ℕ) → 3 * n ≤ t → t ≤ 4 * n + 2 → leb 3 t ≡ ltb 0 n
told t n a b = go (ltb 0 n) refl
  where
    go : (c : Bool) → ltb 0 n ≡ c → leb 3 t ≡ c
    go true e = le-leb 3 t (omega (arith, ltb-true 0 n e))
    go false e = lt-leb 3 t (omega (arith, ltb-false 0 n e))

module _ (h : Hand) (few : h.held.m ≤ 4) (four : length h.held.melds ≡ 4) (runs : chi_without_run h.held ≡ false)
    (r : Reading) (x : IsRegular (concealed_tally h) h.held.m h.fields.winning r) where
  abbrev melds : List ℕ
  melds = take h.held.m h.held.melds

  groups_are : groups_of h r ≡ x.codes ++ map meld_code melds
  unfolding groups_of
  groups_are = rw (x.groups, take_at x.codes (replicate h.held.m 68) (4 - h.held.m) x.size)

  long : length (x.codes ++ map meld_code melds) ≡ 4
  long =
      let t = length-take-le h.held.m h.held.melds (omega arith) in
      omega (arith, length-append x.codes (map meld_code melds), length-map melds meld_code, t, x.size)

  module _ (k : ℕ) (honour : 27 ≤ k) (kind : k < 34) where
    counted : number_of (groups_of h r) (34 + k)
        ≡ sum_over (of_triplet k) x.codes + sum 4 (λ i. cond (ltb i h.held.m) (of_triplet k (meld_code (get_or h.held.melds i 0))) 0)
    counted =
        ap (λ (g : List ℕ). number_of g (34 + k)) groups_are
        ∙ ap (λ (n : ℕ). sum n (λ i. of_triplet k (get_or (x.codes ++ map meld_code melds) i 0))) (sym long)
        ∙ over_places (of_triplet k) (x.codes ++ map meld_code melds)
        ∙ over_append (of_triplet k) x.codes (map meld_code melds)
        ∙ ap (λ (n : ℕ). sum_over (of_triplet k) x.codes + n)
        (over_map (of_triplet k) meld_code melds ∙ over_first (λ b. of_triplet k (meld_code b)) h.held.melds h.held.m few (omega arith))

    tallied : get_or (hand_tally h) k 0 ≡ at_kind r.pair 2 k + used_by x.codes k + in_melds h.held k
    unfolding hand_tally concealed_tally in_hand in_held in_concealed
    tallied = omega (arith, get_d_tally (in_hand h) k kind, get_d_tally (in_concealed h) k kind, x.tiles k)

    three_is_triplet : leb 3 (get_or (hand_tally h) k 0) ≡ has (groups_of h r) (34 + k)
    three_is_triplet =
        let u = groups_hold k honour 0 x.codes x.order in
        let m = melds_hold k honour h.held runs in
        told (get_or (hand_tally h) k 0) (number_of (groups_of h r) (34 + k))
        (omega (arith, tallied, counted, u, m.0)) (omega (arith, tallied, counted, u, m.1, at_le r.pair 2 k))
        ∙ sym (has_number (groups_of h r) (34 + k))

  four_by_tiles : all 4 (λ w. leb 3 (get_or (hand_tally h) (27 + w) 0)) ≡ eqb (winds (groups_of h r)) 4
  unfolding all_below
  four_by_tiles =
      every_cong (λ w. leb 3 (get_or (hand_tally h) (27 + w) 0)) (λ w. has (groups_of h r) (34 + (27 + w))) 4
      (λ w l. three_is_triplet (27 + w) (omega arith) (omega arith))
      ∙ all_counted (λ w. has (groups_of h r) (34 + (27 + w))) 4

-- ---- 8,000 basic points, by ron or by tsumo

gain_of_lem : (s : Seats) (ron : Bool) → s.winner ≤ 3 → s.dealer ≤ 3 → s.discarder ≤ 3 → (ron ≡ true → s.winner ≡ s.discarder → ⊥)
    → gain s ron 8000 ≡ cond (eqb s.winner s.dealer) 48000 32000
unfolding hundreds
gain_of_lem s true w d x n = gain_by_ron s 8000 (omega arith) (n refl) ∙ go (eqb s.winner s.dealer)
  where
    go : (b : Bool) → hundreds (cond b 6 4 * 8000) ≡ cond b 48000 32000
    go true = refl
    go false = refl
gain_of_lem s false w d x n = gain_by_tsumo s 8000 (omega arith) (omega arith)

-- ---- of a record that reads

module _ (s : List ℕ) (e : refusal_in (read_of s).answer ≡ 0) (dealer wind : ℕ) where
  abbrev h : Hand
  h = hand_of (read_of s)

  -- past Read's 2 a chi is a run
  chi_runs : chi_without_run h.held ≡ false
  unfolding wrong_fields wrong_held
  chi_runs =
      let x = h.held in
      let f = h.fields in
      second (tile_over33 x) (chi_without_run x) (ltb 0 0) (field_over33 f) (field_over f) (wrong_discarder f) (read_accepted s (read_sound s e)).clean.fields
    where
      second : (a b c d u v : Bool) → a || b || c || d || u || v ≡ false → b ≡ false
      second a b c d u v q =
          let q3 = or_both (a || b || c) d (or_both (a || b || c || d) u (or_both (a || b || c || d || u) v q).0).0 in
          (or_both a b (or_both (a || b) c q3.0).0).1

  module _ (r : Reading) where
    -- no groups, so no wind
    no_groups : {j : ℕ} → h.held.m ≡ 0 → r ≡ of_shape j → lists h dealer wind r 29 ≡ true → ⊥
    unfolding four_winds groups_of
    no_groups m q l = false≢true (rw (q, m) at (listed_winds h dealer wind r l))

    -- "for 29, with four wind triplets, not three and a pair": three tiles or more of each wind
    pub winds_by_tiles : IsReadingOf h r → lists h dealer wind r 29 ≡ true
        → all 4 (λ w. leb 3 (get_or (hand_tally h) (27 + w) 0)) ≡ eqb (winds (groups_of h r)) 4
    winds_by_tiles (regular x) l = four_by_tiles h (read_bounds s e).few (read_is_hand s (read_sound s e)).melds chi_runs r x
    winds_by_tiles (pairs x) l = absurd (no_groups x.meldless x.reading l)
    winds_by_tiles (orphans x) l = absurd (no_groups x.meldless x.reading l)

    module _ (d : dealer ≤ 3) (n : ℕ) (low : 26 ≤ n) (high : n ≤ 36) (l : lists h dealer wind r n ≡ true) where
      -- "ron, 4A to a child, 6A to the dealer", and as much by tsumo
      pub yakuman_gain : gain_in h dealer wind r ≡ cond (eqb h.fields.winner dealer) 48000 32000
      unfolding worth value_of won_of
      yakuman_gain =
          let b = read_bounds s e in
          ap (gain (seats_of h dealer) (is_ron h.fields)) (yakuman_paid h dealer wind r n low high l)
          ∙ gain_of_lem (seats_of h dealer) (is_ron h.fields) b.winner d b.discarder (other_seat h.fields b.other)

      pub yakuman_change : get_or (scored_as h dealer wind r).changes h.fields.winner (pos 0) ≡ pos (cond (eqb h.fields.winner dealer) 48000 32000)
      unfolding worth value_of won_of
      yakuman_change =
          (gain_is_payments (seats_of h dealer) (is_ron h.fields) (worth h dealer wind r).basic.0).got (omega (arith, (read_bounds s e).winner))
          ∙ ap pos yakuman_gain
