-- A reading's image is worth what it is: its four groups with their ways are those of the reading, renamed.
use Prim.Native.Nat.{ℕ, suc, ◌+◌, ◌-◌, ◌≤◌, ◌<◌}
use Rattle.std.specs.Prelude.{◌≡◌, Bool, true, false, ◌&&◌, cond, eqb, length, get_or, take, replicate}
use Rattle.std.proofs.Math.Path.{refl, sym, ap, subst}
use Rattle.std.proofs.Common.{◌∙◌, eq-eqb, ne_eqb, length-take-le, get_or-take, get_or-append-add}
use Rattle.std.proofs.lemmas.Bool.{false≢true, eqb-false}
use mathlib.Core.List.{List, ◌++◌, map}
use native.Mathlib.Omega.{arith}
use Rattle.std.proofs.Math.ListN.{get_or-append}
use Rattle.std.proofs.Math.Seq.{take_at}
use Rattle.tiles.specs.Below.{sum, tabulate}
use Rattle.tiles.specs.Kinds.{dora_of}
use Rattle.tiles.proofs.laws.Tabulate.{length_tabulate, get_d_tabulate, get_d_mapped}
use Rattle.hand.specs.declared.Hand.{Hand}
use Rattle.hand.specs.Hand.{is_ron, hand_tally}
use Rattle.reading.specs.declared.Reading.{Reading}
use Rattle.reading.specs.Reading.{of_shape}
use Rattle.yaku_basics.specs.Melds.{meld_code, meld_way}
use Rattle.yaku.specs.declared.FullReading.{FullReading}
use Rattle.yaku_tiles.specs.OfTiles.{only, is_green}
use Rattle.points_value.specs.declared.Value.{Value}
use Rattle.points_value.specs.Value.{value_of}
use Rattle.score.specs.Named.{won_of, seats_of, groups_of, ways_of, full_reading_of, worth}
use Rattle.symmetry.specs.Renamed.{renamed}
use Rattle.symmetry.proofs.laws.Kinds.{Renaming, renamed_other, dora_stays, dora_lt}
use Rattle.symmetry.proofs.laws.Codes.{renamed_code, code_other}
use Rattle.symmetry.proofs.laws.Alike.{Moved, SamePlace}
use Rattle.symmetry.proofs.laws.Worth.{SameWorth, renamed_won, value_stays}
use Rattle.tiles.proofs.laws.Sums.{sum_over, sum_cong, sum_parts, sum_differ, over_places}
use Rattle.reading.proofs.laws.Order.{group_at}
use Rattle.symmetry.proofs.laws.Groups.{Placed, Carries, at_pair, at_group}
use Rattle.symmetry.proofs.laws.Hands.{Renames, way_stays, code_renamed, hand_tally_lem, won_renamed}
use Rattle.symmetry.proofs.laws.Readings.{Regular, Image, plain, grouped}

-- ---- the groups of a reading, with their ways

-- "A triplet completed by ron is open": the sum over the groups l, of which the one at the place i may be
abbrev own : (ℕ → ℕ → ℕ) → Bool → List ℕ → ℕ → ℕ
own P ron l i = sum (length l) (λ z. P (get_or l z 0) (cond (ron && eqb i (z + 1)) 1 0))

-- none is open
own_closed : (P : ℕ → ℕ → ℕ) (ron : Bool) (l : List ℕ) (i : ℕ) → ((z : ℕ) → (ron && eqb i (z + 1)) ≡ false) → own P ron l i ≡ sum_over (λ c. P c 0) l
own_closed P ron l i h =
    sum_cong (λ z. P (get_or l z 0) (cond (ron && eqb i (z + 1)) 1 0)) (λ z. P (get_or l z 0) 0) (length l) (λ z g. rw (h z)) ∙ over_places (λ c. P c 0) l

-- the one at the place is
own_open : (P : ℕ → ℕ → ℕ) (l : List ℕ) (p i : ℕ) → i ≡ suc p → p < length l → own P true l i + P (get_or l p 0) 0 ≡ sum_over (λ c. P c 0) l + P (get_or l p 0) 1
own_open P l p i e h =
    let way : (z : ℕ) (b : Bool) → eqb i (z + 1) ≡ b → P (get_or l z 0) (cond (eqb i (z + 1)) 1 0) ≡ P (get_or l z 0) (cond b 1 0) = λ z b q. rw q in
    let d = sum_differ (λ z. P (get_or l z 0) (cond (eqb i (z + 1)) 1 0)) (λ z. P (get_or l z 0) 0) (length l) p h
    (λ z g n. way z false (ne_eqb i (z + 1) (λ q. n (omega arith)))) in
    omega (arith, way p true (eq-eqb i (p + 1) (omega arith)), over_places (λ c. P c 0) l)

module _ (u : Renaming) (P : ℕ → ℕ → ℕ) where
  abbrev Q : ℕ → ℕ → ℕ
  Q c x = P (renamed_code u.to c) x

  own_moved : (ron : Bool) (a b : List ℕ) (i j : ℕ) → Carries u a b i j → own P ron b j ≡ own Q ron a i
  own_moved false a b i j c = own_closed P false b j (λ z. refl) ∙ c.sums (λ x. P x 0) ∙ sym (own_closed Q false a i (λ z. refl))
  own_moved true a b i j c = go c.place
    where
      none : (i : ℕ) → i ≡ 0 → (z : ℕ) → eqb i (z + 1) ≡ false
      none i e z = ne_eqb i (z + 1) (λ q. omega arith)

      go : Placed u a b i j → own P true b j ≡ own Q true a i
      go (at_pair p q) = own_closed P true b j (none j q) ∙ c.sums (λ x. P x 0) ∙ sym (own_closed Q true a i (none i p))
      go (at_group p q ei ej lp lq e r) =
          let z : (x : ℕ) → P (get_or b q 0) x ≡ Q (get_or a p 0) x = λ x. ap (λ (n : ℕ). P n x) e in
          omega (arith, own_open P b q j ej lq, own_open Q a p i ei lp, c.sums (λ x. P x 0), z 0, z 1)

-- ---- with the melds

module _ (h : Hand) (few : h.held.m ≤ 4) (long : length h.held.melds ≡ 4) (r : Reading) (x : Regular h r) where
  abbrev m : ℕ
  m = h.held.m

  abbrev n : ℕ
  n = 4 - h.held.m

  abbrev melds : List ℕ
  melds = take h.held.m h.held.melds

  taken : length melds ≡ h.held.m
  taken = length-take-le m h.held.melds (omega arith)

  groups_are : groups_of h r ≡ x.codes ++ map meld_code melds
  unfolding groups_of
  groups_are = rw (x.groups, take_at x.codes (replicate m 68) n x.size)

  abbrev way : ℕ → ℕ
  way i = cond (is_ron h.fields && eqb r.place (i + 1)) 1 0

  abbrev ways : List ℕ
  ways = tabulate n 0 way

  group_of : (i : ℕ) → i < n → get_or (x.codes ++ map meld_code melds) i 0 ≡ get_or x.codes i 0
  group_of i l = get_or-append x.codes (map meld_code melds) 0 i (omega (arith, x.size))

  way_of : (i : ℕ) → i < n → get_or (ways ++ map meld_way melds) i 0 ≡ way i
  way_of i l = get_or-append ways (map meld_way melds) 0 i (omega (arith, length_tabulate n 0 way)) ∙ get_d_tabulate 0 n way i l

  meld_of : (f : ℕ → ℕ) (l : List ℕ) → length l ≡ n → (i : ℕ) → i < m → get_or (l ++ map f melds) (n + i) 0 ≡ f (get_or h.held.melds i 0)
  meld_of f l e i g =
      ap (λ (k : ℕ). get_or (l ++ map f melds) (k + i) 0) (sym e)
      ∙ get_or-append-add l (map f melds) i 0
      ∙ get_d_mapped f melds i (omega (arith, taken))
      ∙ ap f (get_or-take m h.held.melds i 0 g)

  module _ (P : ℕ → ℕ → ℕ) where
    -- P at the group at i and its way, and at the meld at i
    abbrev at_four : ℕ → ℕ
    at_four i = P (get_or (x.codes ++ map meld_code melds) i 0) (get_or (ways ++ map meld_way melds) i 0)

    abbrev at_meld : ℕ → ℕ
    at_meld i = P (meld_code (get_or h.held.melds i 0)) (meld_way (get_or h.held.melds i 0))

    first_ones : sum n at_four ≡ own P (is_ron h.fields) x.codes r.place
    first_ones =
        sum_cong at_four (λ i. P (get_or x.codes i 0) (way i)) n (λ i l. rw (group_of i l, way_of i l))
        ∙ ap (λ (k : ℕ). sum k (λ i. P (get_or x.codes i 0) (way i))) (sym x.size)

    last_ones : sum m (λ i. at_four (n + i)) ≡ sum m at_meld
    last_ones =
        sum_cong (λ i. at_four (n + i)) at_meld m (λ i l. rw (meld_of meld_code x.codes x.size i l, meld_of meld_way ways (length_tabulate n 0 way) i l))

    four_sum : sum 4 (λ i. P (get_or (groups_of h r) i 0) (get_or (ways_of h r) i 0)) ≡ own P (is_ron h.fields) x.codes r.place + sum m at_meld
    unfolding ways_of
    four_sum =
        let e : n + m ≡ 4 = omega arith in
        ap (λ (l : List ℕ). sum 4 (λ i. P (get_or l i 0) (get_or (ways ++ map meld_way melds) i 0))) groups_are
        ∙ ap (λ (k : ℕ). sum k at_four) (sym e)
        ∙ sum_parts at_four n m
        ∙ omega (arith, first_ones, last_ones)

  group_at_place : (p : ℕ) → r.place ≡ suc p → p < length x.codes → get_or (groups_of h r) (r.place - 1) 0 ≡ get_or x.codes p 0
  group_at_place p e l =
      let q : r.place - 1 ≡ p = omega arith in
      rw (groups_are, q) (get_or-append x.codes (map meld_code melds) 0 p l)

-- ---- what an image is worth

module _ (u : Renaming) (h k : Hand) (s : Renames u h k) (green : only (hand_tally k) is_green ≡ only (hand_tally h) is_green) (dealer wind : ℕ) where
  few' : k.held.m ≤ 4
  few' = rw s.m s.few

  -- by the four groups
  worth_by : (r q : Reading) → q.shape ≡ r.shape → q.pair ≡ renamed u.to r.pair → Moved u (groups_of h r) (ways_of h r) (groups_of k q) (ways_of k q)
      → SamePlace u (groups_of h r) (groups_of k q) r.place q.place → SameWorth (worth h dealer wind r) (worth k dealer wind q)
  unfolding worth full_reading_of won_of
  worth_by r q es ep m here =
      let e = hand_tally_lem u h k s in
      let dora : ℕ = dora_of h.fields.indicator in
      subst (λ (v : Value). SameWorth (worth h dealer wind r) v) (sym is)
      (value_stays u (won_of h dealer wind) (hand_tally k) e green (omega arith) (omega arith) r.shape r.pair
      (groups_of h r) (ways_of h r) (groups_of k q) (ways_of k q) m r.place q.place here dora (dora_lt h.fields.indicator) (seats_of h dealer))
    where
      parts : FullReading
      parts = record { shape = r.shape; pair = renamed u.to r.pair; groups = groups_of k q; ways = ways_of k q; place = q.place }

      is : value_of (won_of k dealer wind) (full_reading_of k q) (dora_of k.fields.indicator) (seats_of k dealer)
          ≡ value_of (renamed_won u.to (won_of h dealer wind) (hand_tally k)) parts (renamed u.to (dora_of h.fields.indicator)) (seats_of h dealer)
      is = rw (won_renamed u h k s dealer wind, es, ep, ← dora_stays u h.fields.indicator s.indicator, s.fields)

  module _ (r q : Reading) (x : Regular h r) (y : Regular k q) (c : Carries u x.codes y.codes r.place q.place) where
    melds_moved : (P : ℕ → ℕ → ℕ) → sum h.held.m (at_meld k few' s.long' q y P)
        ≡ sum h.held.m (at_meld h s.few s.long r x (λ c w. P (renamed_code u.to c) w))
    melds_moved P =
        sum_cong (at_meld k few' s.long' q y P) (at_meld h s.few s.long r x (λ c w. P (renamed_code u.to c) w)) h.held.m
        (λ i l. rw (s.melds i l, code_renamed u (get_or h.held.melds i 0) (s.good i l), way_stays u (get_or h.held.melds i 0)))

    moved : Moved u (groups_of h r) (ways_of h r) (groups_of k q) (ways_of k q)
    moved P =
        four_sum k few' s.long' q y P
        ∙ rw (s.m, s.fields) (omega (arith, own_moved u P (is_ron h.fields) x.codes y.codes r.place q.place c, melds_moved P))
        ∙ sym (four_sum h s.few s.long r x (λ c w. P (renamed_code u.to c) w))

    same_place : SamePlace u (groups_of h r) (groups_of k q) r.place q.place
    same_place = go c.place
      where
        go : Placed u x.codes y.codes r.place q.place → SamePlace u (groups_of h r) (groups_of k q) r.place q.place
        go (at_pair i j) = record { pair = rw (i, j); group = λ n. absurd (eqb-false r.place 0 n i) }
        go (at_group i j ei ej li lj e z) =
            let a = group_at_place h s.few s.long r x i ei li in
            let b = group_at_place k few' s.long' q y j ej lj in
            record {
              pair = ne_eqb q.place 0 (λ w. omega arith) ∙ sym (ne_eqb r.place 0 (λ w. omega arith));
              group = λ n. (b ∙ e ∙ ap (renamed_code u.to) (sym a), rw a (group_at 0 x.codes i x.order li));
            }

  pub image_worth : (r q : Reading) → Image u h k r q → SameWorth (worth h dealer wind r) (worth k dealer wind q)
  unfolding groups_of ways_of
  image_worth r q (grouped x y e c) = worth_by r q (y.shape ∙ sym x.shape) e (moved r q x y c) (same_place r q x y c)
  image_worth r q (plain f em en er eq) =
      rw (er, eq)
      (worth_by (of_shape (suc f)) (of_shape (suc f)) refl (sym (renamed_other u.to 34 (omega arith)))
      (λ P. rw (em, en, code_other u.to 68 (omega arith), s.fields)) (record { pair = refl; group = λ n. absurd (false≢true (sym n)) }))
