-- A sound record has one with its suits renamed, and each such one scores the same.
use Rattle.std.specs.Prelude.{ℕ, zero, suc, ◌+◌, ◌-◌, ◌*◌, ◌≤◌, ◌<◌, ◌≡◌, Bool, ◌&&◌, ◌||◌, not, List, [], ◌∷◌, map, ◌⊎◌, eqb, length, take, replicate}
use Rattle.std.proofs.Math.Path.{refl, sym, ap}
use Rattle.std.proofs.Common.{◌∙◌, subst, inl, inr, arith, length-take-le, get_or-take}
use Rattle.std.proofs.Math.Bool.{true, false}
use Rattle.std.proofs.Math.Numerals.{add-one}
use borrow.Author.Tests.{ltb-true, ltb-false, lt-ltb, le-ltb, eq-eqb, eqb-true, not-false}
use Rattle.std.proofs.Math.Dec.{ltb}
use Rattle.std.proofs.Math.ListN.{get_or, get_or-append}
use Rattle.std.proofs.lemmas.List.{length-map}
use Rattle.tiles.specs.Below.{sum, any_below, count_below, sum_below}
use Rattle.tiles.specs.Kinds.{is_run_start}
use Rattle.tiles.specs.Groups.{at_kind}
use Rattle.tiles.proofs.laws.Below.{or_both, some_at, some_of, number_total}
use Rattle.bits.specs.Bits.{fill}
use Rattle.bits.proofs.laws.Pack.{length_fill, below_fill, below_take, below_map}
use Rattle.hand.specs.declared.Held.{Held}
use Rattle.hand.specs.declared.Hand.{Hand}
use Rattle.hand.specs.Held.{meld_kind, meld_tile, others, some_meld, in_others, tile_over33, chi_without_run, wrong_held, descends, over_four}
use Rattle.hand.specs.Refusals.{field_over33, field_over, wrong_discarder, wrong_fields, in_record, wrong_situation, unwritable}
use Rattle.hand_record.specs.Record.{hand_of, read_of, record_of, IsSound, IsHand}
use Rattle.hand_record.proofs.laws.Clean.{kinds_of, Accepted, of_clean}
use Rattle.hand_record.proofs.laws.Fill.{take_fill, fill_past, unused_of}
use Rattle.hand_record.proofs.laws.Bounds.{bounds_of}
use Rattle.hand.specs.Hand.{hand_tally}
use Rattle.reading.specs.declared.Reading.{Reading}
use Rattle.yaku_tiles.specs.OfTiles.{only, is_green}
use Rattle.score.specs.declared.Scored.{Scored}
use Rattle.score.specs.Named.{IsReadingOf, Named, six}
use Rattle.score.specs.Score.{score_of}
use Rattle.score.proofs.Claims.{only_one, scored}
use Rattle.symmetry.specs.Renamed.{IsRenaming, renamed, renamed_meld, renamed_fields, IsRenamed, is_all_green, SameScore}
use Rattle.symmetry.proofs.laws.Kinds.{Renaming, back, renaming, there_back, lt_stays}
use Rattle.symmetry.proofs.laws.Codes.{at_kind_lem}
use Rattle.tiles.proofs.laws.Sums.{sum_over, sum_cong, over_places, over_map, over_cong, over_length}
use Rattle.symmetry.proofs.laws.Sorted.{in_order, All, Ordered, over_in_order, ordered, ordered_at, ordered_next}
use Rattle.symmetry.proofs.laws.Hands.{IsMeld, byte_stays, meld_stays, Renames, hand_holds, closed_stays, kan_stays}
use Rattle.symmetry.proofs.laws.Readings.{image_of, image_from}
use Rattle.symmetry.proofs.laws.Reported.{same_refused, renamed_named}
use Rattle.symmetry.proofs.laws.Green.{green_no_reading}
use Rattle.hand_record.proofs.laws.Sound.{read_accepted, read_is_hand, written_back, written_sound}
use Rattle.score.proofs.laws.Written.{score_eight}
use Rattle.tiles.proofs.laws.Tabulate.{get_d_mapped}

-- ---- the renamed hand that there is

-- the m melds, and the 13 − 3m concealed tiles in order; an unused place is zero
unfoldable pub renamed_held : (ℕ → ℕ) → Held → Held
renamed_held σ x = record {
  m = x.m;
  melds = fill 4 (map (renamed_meld σ) (take x.m x.melds));
  concealed = fill 13 (in_order (map (renamed σ) (take (others x) x.concealed)));
}

-- a hand with every tile renamed
abbrev pub renamed_hand : (ℕ → ℕ) → Hand → Hand
renamed_hand σ h = record { fields = renamed_fields σ h.fields; held = renamed_held σ h.held }

-- the record of that hand
unfoldable pub renamed_record : (ℕ → ℕ) → List ℕ → List ℕ
renamed_record σ s = record_of (renamed_hand σ (hand_of (read_of s)))

-- ---- lists

all_map : (P : ℕ → Type 0) (f : ℕ → ℕ) (n : ℕ) (l : List ℕ) → ((i : ℕ) → i < n → P (f (get_or l i 0))) → All P (map f (take n l))
all_map P f zero l h = tt
all_map P f (suc n) [] h = tt
all_map P f (suc n) (x ∷ l) h = (h 0 (omega arith), all_map P f n l (λ i g. h (suc i) (omega arith)))

-- how many of the first n of a list are of a kind
first_kinds : (l : List ℕ) (k n : ℕ) → n ≤ length l → count_below n (λ i. eqb (get_or l i 0) k) ≡ sum_over (λ x. at_kind x 1 k) (take n l)
unfolding sum_below at_kind
first_kinds l k n h =
    number_total (λ i. eqb (get_or l i 0) k) n
    ∙ sum_cong (λ i. at_kind (get_or l i 0) 1 k) (λ i. at_kind (get_or (take n l) i 0) 1 k) n (λ i g. ap (λ (x : ℕ). at_kind x 1 k) (sym (get_or-take n l i 0 g)))
    ∙ ap (λ (z : ℕ). sum z (λ i. at_kind (get_or (take n l) i 0) 1 k)) (sym (length-take-le n l h))
    ∙ over_places (λ x. at_kind x 1 k) (take n l)

-- ---- melds of a hand that is accepted

module _ (x : Held) (p : ℕ → Bool) where
  no_meld : x.m ≤ 4 → some_meld x p ≡ false → (i : ℕ) → i < x.m → p (get_or x.melds i 0) ≡ false
  unfolding any_below
  no_meld f e i h = rw (lt-ltb i x.m h) at (some_at (λ i. ltb i x.m && p (get_or x.melds i 0)) 4 i e (omega arith))

  meld_none : ((i : ℕ) → i < x.m → p (get_or x.melds i 0) ≡ false) → some_meld x p ≡ false
  unfolding any_below
  meld_none h = some_of (λ i. ltb i x.m && p (get_or x.melds i 0)) 4 (λ i l. go i (ltb i x.m) refl)
    where
      go : (i : ℕ) (b : Bool) → ltb i x.m ≡ b → b && p (get_or x.melds i 0) ≡ false
      go i true e = h i (ltb-true i x.m e)
      go i false e = refl

no_chi : (b : ℕ) → (eqb (meld_kind b) 0 && not (is_run_start (meld_tile b))) ≡ false → meld_kind b ≡ 0 → is_run_start (meld_tile b) ≡ true
no_chi b e z = not-false (is_run_start (meld_tile b)) (rw (eq-eqb (meld_kind b) 0 z) at e)

chi_run : (b : ℕ) → IsMeld b → (eqb (meld_kind b) 0 && not (is_run_start (meld_tile b))) ≡ false
chi_run b v = go (eqb (meld_kind b) 0) refl
  where
    go : (x : Bool) → eqb (meld_kind b) 0 ≡ x → x && not (is_run_start (meld_tile b)) ≡ false
    go true e = rw (v.1 (eqb-true (meld_kind b) 0 e))
    go false e = refl

module _ (h : Hand) (y : Accepted h) where
  abbrev x₀ : Held
  x₀ = h.held

  abbrev n : ℕ
  n = 13 - 3 * x₀.m

  few : x₀.m ≤ 4
  few = (bounds_of h y).few

  -- what 2 says of its parts
  parts : (tile_over33 x₀ ≡ false) × (chi_without_run x₀ ≡ false) × (field_over h.fields ≡ false) × (wrong_discarder h.fields ≡ false)
  unfolding wrong_fields wrong_held
  parts = six (tile_over33 x₀) (chi_without_run x₀) (ltb 0 0) (field_over33 h.fields) (field_over h.fields) (wrong_discarder h.fields) y.clean.fields
    where
      six : (a b c d e f : Bool) → a || b || c || d || e || f ≡ false → (a ≡ false) × (b ≡ false) × (e ≡ false) × (f ≡ false)
      six a b c d e f q =
          let q4 = or_both (a || b || c || d || e) f q in
          let q3 = or_both (a || b || c || d) e q4.0 in
          let q0 = or_both a b (or_both (a || b) c (or_both (a || b || c) d q3.0).0).0 in
          (q0.0, q0.1, q3.1, q4.1)

  melds_low : some_meld x₀ (λ b. ltb 33 (meld_tile b)) ≡ false
  unfolding tile_over33
  melds_low = (or_both (some_meld x₀ (λ b. ltb 33 (meld_tile b))) (any_below n (λ i. ltb 33 (get_or x₀.concealed i 0))) parts.0).0

  good : (j : ℕ) → j < x₀.m → IsMeld (get_or x₀.melds j 0)
  good j l = (
    omega (arith, ltb-false 33 (meld_tile (get_or x₀.melds j 0)) (no_meld x₀ (λ b. ltb 33 (meld_tile b)) few melds_low j l)),
    no_chi (get_or x₀.melds j 0) (no_meld x₀ (λ b. eqb (meld_kind b) 0 && not (is_run_start (meld_tile b))) few parts.1 j l),
  )

  -- a hand that is it renamed, with what a hand that is accepted has
  pub renames_of : (u : Renaming) (k : Hand) → length x₀.melds ≡ 4 → length k.held.melds ≡ 4 → IsRenamed u.to h k → Renames u h k
  renames_of u k long long' z = record {
    fields = z.fields;
    m = z.m;
    melds = z.melds;
    tiles = z.tiles;
    few = few;
    long = long;
    long' = long';
    winning = omega (arith, (bounds_of h y).winning);
    indicator = omega (arith, (bounds_of h y).indicator);
    good = good;
  }

  -- ---- the renamed hand

  module _ (u : Renaming) (i : IsHand h) where
    abbrev f : ℕ → ℕ
    f = renamed u.to

    abbrev melds : List ℕ
    melds = map (renamed_meld u.to) (take h.held.m h.held.melds)

    abbrev tiles : List ℕ
    tiles = in_order (map f (take n x₀.concealed))

    abbrev k : Hand
    k = record { fields = renamed_fields u.to h.fields; held = record { m = x₀.m; melds = fill 4 melds; concealed = fill 13 tiles } }

    taken : length (take x₀.m x₀.melds) ≡ x₀.m
    taken = length-take-le x₀.m x₀.melds (omega (arith, few, i.melds))

    melds_long : length melds ≡ x₀.m
    melds_long = length-map (take x₀.m x₀.melds) (renamed_meld u.to) ∙ taken

    tiles_long : length tiles ≡ n
    tiles_long =
        sym (over_length tiles)
        ∙ over_in_order (λ z. 1) (map f (take n x₀.concealed))
        ∙ over_length (map f (take n x₀.concealed))
        ∙ length-map (take n x₀.concealed) f
        ∙ length-take-le n x₀.concealed (omega (arith, i.concealed))

    meld_at_lem : (j : ℕ) → j < x₀.m → get_or (fill 4 melds) j 0 ≡ renamed_meld u.to (get_or x₀.melds j 0)
    meld_at_lem j l =
        get_or-append melds (replicate (4 - length melds) 0) 0 j (omega (arith, melds_long))
        ∙ get_d_mapped (renamed_meld u.to) (take x₀.m x₀.melds) j (omega (arith, taken))
        ∙ ap (renamed_meld u.to) (get_or-take x₀.m x₀.melds j 0 l)

    tile_at : (j : ℕ) → j < n → get_or (fill 13 tiles) j 0 ≡ get_or tiles j 0
    tile_at j l = get_or-append tiles (replicate (13 - length tiles) 0) 0 j (omega (arith, tiles_long))

    counted : (j : ℕ) → in_others k.held (f j) ≡ in_others x₀ j
    unfolding in_others
    counted j =
        first_kinds (fill 13 tiles) (f j) n (omega (arith, length_fill 13 tiles (omega (arith, tiles_long))))
        ∙ ap (sum_over (λ z. at_kind z 1 (f j))) (take_fill 13 n tiles tiles_long)
        ∙ over_in_order (λ z. at_kind z 1 (f j)) (map f (take n x₀.concealed))
        ∙ over_map (λ z. at_kind z 1 (f j)) f (take n x₀.concealed)
        ∙ over_cong (λ z. at_kind (f z) 1 (f j)) (λ z. at_kind z 1 j) (take n x₀.concealed) (λ z. at_kind_lem u z 1 j)
        ∙ sym (first_kinds x₀.concealed j n (omega (arith, i.concealed)))

    pub renamed_is_hand : IsHand k
    renamed_is_hand = record {
      melds = length_fill 4 melds (omega (arith, melds_long, few));
      concealed = length_fill 13 tiles (omega (arith, tiles_long));
      bytes =
          below_fill 256 4 melds
          (below_map 256 (renamed_meld u.to) (take x₀.m x₀.melds) (omega arith) (λ b l. byte_stays u b l)
          (below_take 256 x₀.m x₀.melds i.bytes));
    }

    -- ---- it is accepted as it was

    low : (j : ℕ) → j ≤ 33 → f j ≤ 33
    low j l = omega (arith, lt_stays u 34 j (omega arith) (omega arith))

    in_order_lem : Ordered (λ z. z ≤ 33) 0 tiles
    in_order_lem =
        ordered (λ z. z ≤ 33) (map f (take n x₀.concealed))
        (all_map (λ z. z ≤ 33) f n x₀.concealed (λ j l. low (get_or x₀.concealed j 0) ((kinds_of h 0 y.clean.fields).tiles j l)))

    order_stays : descends k.held ≡ false
    unfolding descends
    order_stays =
        some_of (λ j. ltb (get_or (fill 13 tiles) (j + 1) 0) (get_or (fill 13 tiles) j 0)) (n - 1) (λ j l.
        let a = ordered_next (λ z. z ≤ 33) 0 tiles j in_order_lem (omega (arith, tiles_long)) in
        let b : get_or tiles j 0 ≤ get_or tiles (j + 1) 0 = rw add-one a in
        le-ltb (get_or (fill 13 tiles) (j + 1) 0) (get_or (fill 13 tiles) j 0) (omega (arith, tile_at j (omega arith), tile_at (j + 1) (omega arith))))

    pub is_renamed : IsRenamed u.to h k
    is_renamed = record { fields = refl; m = refl; melds = meld_at_lem; tiles = counted; order = order_stays }

    renames : Renames u h k
    renames = renames_of u k i.melds renamed_is_hand.melds is_renamed

    record_holds : (j : ℕ) → in_record k (f j) ≡ in_record h j
    unfolding in_record
    record_holds j = rw (hand_holds u h k renames j, at_kind_lem u h.fields.indicator 1 j)

    four_stays : over_four (in_record k) ≡ false
    unfolding over_four
    four_stays =
        some_of (λ j. ltb 4 (in_record k j)) 34 (λ j l.
        ap (λ (z : ℕ). ltb 4 (in_record k z)) (sym (there_back (back u) j))
        ∙ ap (ltb 4) (record_holds (renamed u.from j))
        ∙ some_at (λ j. ltb 4 (in_record h j)) 34 (renamed u.from j) y.clean.four (lt_stays (back u) 34 j (omega arith) l))

    situation_stays : wrong_situation k ≡ false
    unfolding wrong_situation
    situation_stays = rw (closed_stays u h k renames, kan_stays u h k renames, record_holds h.fields.winning) y.clean.situation

    is_meld : (j : ℕ) → j < x₀.m → IsMeld (get_or (fill 4 melds) j 0)
    is_meld j l = rw (meld_at_lem j l) (meld_stays u (get_or x₀.melds j 0) (good j l))

    low_stays : tile_over33 k.held ≡ false
    unfolding tile_over33
    low_stays =
        rw (
          meld_none k.held (λ b. ltb 33 (meld_tile b)) (λ j l. le-ltb 33 (meld_tile (get_or (fill 4 melds) j 0)) (omega (arith, (is_meld j l).0))),
          some_of (λ j. ltb 33 (get_or (fill 13 tiles) j 0)) n (λ j l. ap (ltb 33) (tile_at j l) ∙ le-ltb 33 (get_or tiles j 0) (tile_low j l)),
        )
      where
        tile_low : (j : ℕ) → j < n → get_or tiles j 0 ≤ 33
        tile_low j l = ordered_at (λ z. z ≤ 33) 0 tiles j in_order_lem (omega (arith, tiles_long))

    chi_stays : chi_without_run k.held ≡ false
    chi_stays = meld_none k.held (λ b. eqb (meld_kind b) 0 && not (is_run_start (meld_tile b))) (λ j l. chi_run (get_or (fill 4 melds) j 0) (is_meld j l))

    fields_stay : wrong_fields k 0 ≡ false
    unfolding wrong_fields wrong_held
    fields_stay =
        let b = bounds_of h y in
        let li = le-ltb 33 (f h.fields.indicator) (low h.fields.indicator b.indicator) in
        let lw = le-ltb 33 (f h.fields.winning) (low h.fields.winning b.winning) in
        rw (low_stays, chi_stays, li, lw, parts.2, parts.3)

    pub renamed_accepted : unwritable k ≡ 0
    unfolding unwritable
    renamed_accepted =
        rw (y.large, unused_of k.held (λ j l. fill_past 4 melds j (omega (arith, melds_long))) (λ j l. fill_past 13 tiles j (omega (arith, tiles_long))))
        (of_clean k 0 (record { fields = fields_stay; order = order_stays; four = four_stays; situation = situation_stays }))

-- ---- of a record

module _ (σ : ℕ → ℕ) (r : IsRenaming σ) (s : List ℕ) (i : IsSound s) where
  abbrev h₀ : Hand
  h₀ = hand_of (read_of s)

  accepted : unwritable (renamed_hand σ h₀) ≡ 0
  unfolding renamed_held
  accepted = renamed_accepted h₀ (read_accepted s i) (renaming σ r) (read_is_hand s i)

  is_hand : IsHand (renamed_hand σ h₀)
  unfolding renamed_held
  is_hand = renamed_is_hand h₀ (read_accepted s i) (renaming σ r) (read_is_hand s i)

  hand_renamed : IsRenamed σ h₀ (renamed_hand σ h₀)
  unfolding renamed_held
  hand_renamed = is_renamed h₀ (read_accepted s i) (renaming σ r) (read_is_hand s i)

  -- there is a sound record of the hand renamed
  pub renamed_exists : (t : List ℕ) × IsSound t × IsRenamed σ h₀ (hand_of (read_of t))
  renamed_exists =
      let k : Hand = renamed_hand σ h₀ in
      (record_of k, written_sound k accepted is_hand, subst (λ (x : Hand). IsRenamed σ h₀ x) (sym (written_back k accepted is_hand)) hand_renamed)

  -- and any such one scores the same
  module _ (t : List ℕ) (j : IsSound t) where
    abbrev k₀ : Hand
    k₀ = hand_of (read_of t)

    module _ (x : IsRenamed σ h₀ k₀) (dealer wind : ℕ) where
      renames_records : Renames (renaming σ r) h₀ k₀
      renames_records = renames_of h₀ (read_accepted s i) (renaming σ r) k₀ (read_is_hand s i).melds (read_is_hand t j).melds x

      abbrev Same : Type 0
      Same = SameScore (score_of s dealer wind) (score_of t dealer wind)

      eight : (3 < dealer) ⊎ (1 < wind) → Same
      eight o = rw (score_eight s dealer wind o, score_eight t dealer wind o) (same_refused 8)

      module _ (d : dealer ≤ 3) (w : wind ≤ 1) where
        before : Named h₀ dealer wind (score_of s dealer wind)
        before = scored s dealer wind d w i

        after : Named k₀ dealer wind (score_of t dealer wind)
        after = scored t dealer wind d w j

        -- neither is a hand of green tiles, or both are
        alike : only (hand_tally k₀) is_green ≡ only (hand_tally h₀) is_green → Same
        alike g =
            let (y, n, same) = renamed_named (renaming σ r) h₀ k₀ renames_records g dealer wind before in
            subst (λ (z : Scored). SameScore (score_of s dealer wind) z) (only_one k₀ dealer wind n after) same

        neither_reads : ((q : Reading) → IsReadingOf h₀ q → ⊥) → ((q : Reading) → IsReadingOf k₀ q → ⊥) → Same
        neither_reads n m = rw (only_one h₀ dealer wind before (six n), only_one k₀ dealer wind after (six m)) (same_refused 6)

        by_tiles : is_all_green (score_of s dealer wind) ≡ false → is_all_green (score_of t dealer wind) ≡ false → Same
        by_tiles e f = go (only (hand_tally h₀) is_green) (only (hand_tally k₀) is_green) refl refl
          where
            go : (a b : Bool) → only (hand_tally h₀) is_green ≡ a → only (hand_tally k₀) is_green ≡ b → Same
            go true b p q =
                let n = green_no_reading h₀ dealer wind p before e in
                neither_reads n (λ c l. let (z, y, m) = image_from (renaming σ r) h₀ k₀ renames_records c l in n z y)
            go false true p q =
                let n = green_no_reading k₀ dealer wind q after f in
                neither_reads (λ c l. let (z, y, m) = image_of (renaming σ r) h₀ k₀ renames_records c l in n z y) n
            go false false p q = alike (q ∙ sym p)

      pub renamed_score : is_all_green (score_of s dealer wind) ≡ false → is_all_green (score_of t dealer wind) ≡ false → Same
      renamed_score e f = go (ltb 3 dealer) (ltb 1 wind) refl refl
        where
          go : (a b : Bool) → ltb 3 dealer ≡ a → ltb 1 wind ≡ b → Same
          go true b p q = eight (inl (ltb-true 3 dealer p))
          go false true p q = eight (inr (ltb-true 1 wind q))
          go false false p q = by_tiles (ltb-false 3 dealer p) (ltb-false 1 wind q) e f
