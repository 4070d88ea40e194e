-- A hand with its suits renamed: its melds, its tallies, how it was won.
use Prim.Native.Nat.{ℕ, ◌+◌, ◌%◌, ◌≤◌, ◌<◌}
use Rattle.std.specs.Prelude.{◌≡◌, ◌&&◌, ◌||◌, leb, eqb, length}
use Rattle.std.proofs.Math.Path.{refl, sym, ap}
use Rattle.std.proofs.Common.{◌∙◌, arith}
use Rattle.std.proofs.Math.Bool.{Bool, true, false, cond}
use borrow.Author.Tests.{ltb-true, ltb-false, leb-true, leb-false, eqb-true}
use Rattle.std.proofs.Math.Dec.{ltb}
use Rattle.std.proofs.Math.ListN.{get_or, get_or-eq_default}
use Rattle.tiles.specs.Kinds.{is_run_start}
use Rattle.tiles.specs.Groups.{at_kind}
use Rattle.tiles.specs.Tally.{tally_of}
use Rattle.tiles.proofs.laws.Below.{and_true}
use Rattle.tiles.proofs.laws.Tally.{get_d_tally, length_tally}
use Rattle.hand.specs.declared.Fields.{Fields}
use Rattle.hand.specs.declared.Hand.{Hand}
use Rattle.hand.specs.Held.{meld_kind, meld_tile, is_closed, has_kan, meld_holds, in_melds, in_others, in_held}
use Rattle.hand.specs.Hand.{in_concealed, in_hand, concealed_tally, hand_tally}
use Rattle.yaku_basics.specs.Melds.{meld_code, meld_way}
use Rattle.score.specs.Named.{won_of}
use Rattle.symmetry.specs.Renamed.{renamed, renamed_meld, renamed_fields}
use Rattle.symmetry.proofs.laws.Kinds.{Renaming, back, renamed_other, lt_stays, next_stays, there_back, is_run_start_stays}
use Rattle.symmetry.proofs.laws.Codes.{renamed_code, code_run, code_triplet, at_kind_lem}
use Rattle.symmetry.proofs.laws.Worth.{renamed_won}

-- ---- a meld

-- its tile is a kind, and a chi's starts a run
abbrev pub IsMeld : ℕ → Type 0
IsMeld b = (meld_tile b < 34) × (meld_kind b ≡ 0 → is_run_start (meld_tile b) ≡ true)

module _ (u : Renaming) (b : ℕ) where
  tile_lt : renamed u.to (meld_tile b) < 64
  tile_lt = lt_stays u 64 (b % 64) (omega arith) (omega arith)

  pub kind_stays : meld_kind (renamed_meld u.to b) ≡ meld_kind b
  unfolding renamed_meld
  kind_stays = omega (arith, tile_lt)

  pub tile_renamed : meld_tile (renamed_meld u.to b) ≡ renamed u.to (meld_tile b)
  unfolding renamed_meld
  tile_renamed = omega (arith, tile_lt)

  pub way_stays : meld_way (renamed_meld u.to b) ≡ meld_way b
  way_stays = rw kind_stays

  pub byte_stays : b < 256 → renamed_meld u.to b < 256
  unfolding renamed_meld
  byte_stays h = omega (arith, tile_lt)

  pub meld_back : renamed_meld u.from (renamed_meld u.to b) ≡ b
  unfolding renamed_meld
  meld_back = rw (kind_stays, tile_renamed, there_back u (b % 64)) (omega arith)

  pub code_renamed : IsMeld b → meld_code (renamed_meld u.to b) ≡ renamed_code u.to (meld_code b)
  code_renamed v = rw (kind_stays, tile_renamed) (go (eqb (meld_kind b) 0))
    where
      go : (x : Bool) → cond x (renamed u.to (meld_tile b)) (34 + renamed u.to (meld_tile b)) ≡ renamed_code u.to (cond x (meld_tile b) (34 + meld_tile b))
      go true = sym (code_run u.to (meld_tile b) v.0)
      go false = sym (code_triplet u.to (34 + meld_tile b) (omega arith) ∙ ap (λ (x : ℕ). 34 + renamed u.to x) (omega arith))

  pub meld_holds_lem : IsMeld b → (k : ℕ) → meld_holds (renamed_meld u.to b) (renamed u.to k) ≡ meld_holds b k
  unfolding meld_holds
  meld_holds_lem v k = rw (kind_stays, tile_renamed) (go (eqb (meld_kind b) 0) (eqb (meld_kind b) 1) refl)
    where
      -- the tiles of a chi, of a pon, of a kan
      holds : Bool → Bool → ℕ → ℕ → ℕ
      holds x y a k = cond x (at_kind a 1 k + at_kind (a + 1) 1 k + at_kind (a + 2) 1 k) (cond y (at_kind a 3 k) (at_kind a 4 k))

      go : (x y : Bool) → eqb (meld_kind b) 0 ≡ x → holds x y (renamed u.to (meld_tile b)) (renamed u.to k) ≡ holds x y (meld_tile b) k
      go true y e =
          let a : ℕ = meld_tile b in
          let s = and_true (ltb a 27) (leb (a % 9) 6) (v.1 (eqb-true (meld_kind b) 0 e)) in
          let l = ltb-true a 27 s.0 in
          let n = leb-true (a % 9) 6 s.1 in
          rw (← next_stays u a 1 l (omega arith), ← next_stays u a 2 l (omega arith), at_kind_lem u a 1 k, at_kind_lem u (a + 1) 1 k, at_kind_lem u (a + 2) 1 k)
      go false true e = at_kind_lem u (meld_tile b) 3 k
      go false false e = at_kind_lem u (meld_tile b) 4 k

  pub meld_stays : IsMeld b → IsMeld (renamed_meld u.to b)
  meld_stays v = (
    rw tile_renamed (lt_stays u 34 (meld_tile b) (omega arith) v.0),
    λ e. rw tile_renamed (is_run_start_stays u (meld_tile b) ∙ v.1 (sym kind_stays ∙ e)),
  )

-- ---- a hand

-- k has the tiles of h renamed, the concealed ones in any order; the kinds of h are kinds, and its chis are runs
pub record Renames (u : Renaming) (h k : Hand) : Type 0 where
  pub fields : k.fields ≡ renamed_fields u.to h.fields
  pub m : k.held.m ≡ h.held.m
  pub melds : (i : ℕ) → i < h.held.m → get_or k.held.melds i 0 ≡ renamed_meld u.to (get_or h.held.melds i 0)
  pub tiles : (j : ℕ) → in_others k.held (renamed u.to j) ≡ in_others h.held j
  pub few : h.held.m ≤ 4
  pub long : length h.held.melds ≡ 4
  pub long' : length k.held.melds ≡ 4
  pub winning : h.fields.winning < 34
  pub indicator : h.fields.indicator < 34
  pub good : (i : ℕ) → i < h.held.m → IsMeld (get_or h.held.melds i 0)

module _ (u : Renaming) (h k : Hand) (s : Renames u h k) where
  pub win_renamed : k.fields.winning ≡ renamed u.to h.fields.winning
  win_renamed = ap (λ (x : Fields). x.winning) s.fields

  pub indicator_renamed : k.fields.indicator ≡ renamed u.to h.fields.indicator
  indicator_renamed = ap (λ (x : Fields). x.indicator) s.fields

pub renames_back : (u : Renaming) (h k : Hand) → Renames u h k → Renames (back u) k h
renames_back u h k s = record {
  fields = fields_back;
  m = sym s.m;
  melds = λ i l. sym (ap (renamed_meld u.from) (s.melds i (within i l)) ∙ meld_back u (get_or h.held.melds i 0));
  tiles = λ j. sym (s.tiles (renamed u.from j)) ∙ ap (in_others k.held) (there_back (back u) j);
  few = rw s.m s.few;
  long = s.long';
  long' = s.long;
  winning = rw (win_renamed u h k s) (lt_stays u 34 h.fields.winning (omega arith) s.winning);
  indicator = rw (indicator_renamed u h k s) (lt_stays u 34 h.fields.indicator (omega arith) s.indicator);
  good = λ i l. rw (s.melds i (within i l)) (meld_stays u (get_or h.held.melds i 0) (s.good i (within i l)));
}
  where
    within : (i : ℕ) → i < k.held.m → i < h.held.m
    within i l = omega (arith, s.m)

    fields_back : h.fields ≡ renamed_fields u.from k.fields
    fields_back = rw (s.fields, there_back u h.fields.indicator, there_back u h.fields.winning)

module _ (u : Renaming) (h k : Hand) (s : Renames u h k) where
  abbrev f₀ : ℕ → ℕ
  f₀ = renamed u.to

  melds_hold : (j : ℕ) → in_melds k.held (f₀ j) ≡ in_melds h.held j
  unfolding in_melds
  melds_hold j = rw (s.m, one 0, one 1, one 2, one 3)
    where
      one : (i : ℕ) → cond (ltb i h.held.m) (meld_holds (get_or k.held.melds i 0) (f₀ j)) 0
          ≡ cond (ltb i h.held.m) (meld_holds (get_or h.held.melds i 0) j) 0
      one i = go (ltb i h.held.m) refl
        where
          go : (b : Bool) → ltb i h.held.m ≡ b → cond b (meld_holds (get_or k.held.melds i 0) (f₀ j)) 0
              ≡ cond b (meld_holds (get_or h.held.melds i 0) j) 0
          go true e = let l = ltb-true i h.held.m e in rw (s.melds i l) (meld_holds_lem u (get_or h.held.melds i 0) (s.good i l) j)
          go false e = refl

  concealed_holds : (j : ℕ) → in_concealed k (f₀ j) ≡ in_concealed h j
  unfolding in_concealed
  concealed_holds j = rw (s.tiles j, win_renamed u h k s, at_kind_lem u h.fields.winning 1 j)

  pub hand_holds : (j : ℕ) → in_hand k (f₀ j) ≡ in_hand h j
  unfolding in_hand in_held
  hand_holds j = rw (s.tiles j, melds_hold j, win_renamed u h k s, at_kind_lem u h.fields.winning 1 j)

  pub hand_tally_lem : (j : ℕ) → j < 34 → get_or (hand_tally k) (f₀ j) 0 ≡ get_or (hand_tally h) j 0
  unfolding hand_tally
  hand_tally_lem j l = get_d_tally (in_hand k) (f₀ j) (lt_stays u 34 j (omega arith) l) ∙ hand_holds j ∙ sym (get_d_tally (in_hand h) j l)

  pub concealed_tally_lem : (j : ℕ) → get_or (concealed_tally k) (f₀ j) 0 ≡ get_or (concealed_tally h) j 0
  unfolding concealed_tally
  concealed_tally_lem j = go (ltb j 34) refl
    where
      go : (b : Bool) → ltb j 34 ≡ b → get_or (tally_of (in_concealed k)) (f₀ j) 0 ≡ get_or (tally_of (in_concealed h)) j 0
      go true e =
          let l = ltb-true j 34 e in
          get_d_tally (in_concealed k) (f₀ j) (lt_stays u 34 j (omega arith) l) ∙ concealed_holds j ∙ sym (get_d_tally (in_concealed h) j l)
      go false e =
          let l = ltb-false j 34 e in
          ap (λ (x : ℕ). get_or (tally_of (in_concealed k)) x 0) (renamed_other u.to j (omega arith))
          ∙ get_or-eq_default (tally_of (in_concealed k)) 0 {n = j} (omega (arith, length_tally (in_concealed k)))
          ∙ sym (get_or-eq_default (tally_of (in_concealed h)) 0 {n = j} (omega (arith, length_tally (in_concealed h))))

  -- tests of the kinds of melds
  abbrev kind : Hand → ℕ → ℕ
  kind x i = meld_kind (get_or x.held.melds i 0)

  kind_at : (i : ℕ) → i < h.held.m → kind k i ≡ kind h i
  kind_at i l = ap meld_kind (s.melds i l) ∙ kind_stays u (get_or h.held.melds i 0)

  each_kind : (p : ℕ → Bool) (i : ℕ) → (leb k.held.m i || p (kind k i)) ≡ (leb h.held.m i || p (kind h i))
  each_kind p i = rw s.m (go (leb h.held.m i) refl)
    where
      go : (b : Bool) → leb h.held.m i ≡ b → (b || p (kind k i)) ≡ (b || p (kind h i))
      go true e = refl
      go false e = ap p (kind_at i (leb-false h.held.m i e))

  some_kind : (p : ℕ → Bool) (i : ℕ) → (ltb i k.held.m && p (kind k i)) ≡ (ltb i h.held.m && p (kind h i))
  some_kind p i = rw s.m (go (ltb i h.held.m) refl)
    where
      go : (b : Bool) → ltb i h.held.m ≡ b → (b && p (kind k i)) ≡ (b && p (kind h i))
      go true e = ap p (kind_at i (ltb-true i h.held.m e))
      go false e = refl

  pub closed_stays : is_closed k.held ≡ is_closed h.held
  closed_stays = rw (each_kind (λ x. eqb x 3) 0, each_kind (λ x. eqb x 3) 1, each_kind (λ x. eqb x 3) 2, each_kind (λ x. eqb x 3) 3)

  pub kan_stays : has_kan k.held ≡ has_kan h.held
  kan_stays = rw (some_kind (λ x. leb 2 x) 0, some_kind (λ x. leb 2 x) 1, some_kind (λ x. leb 2 x) 2, some_kind (λ x. leb 2 x) 3)

  pub won_renamed : (dealer wind : ℕ) → won_of k dealer wind ≡ renamed_won u.to (won_of h dealer wind) (hand_tally k)
  unfolding won_of
  won_renamed dealer wind = rw (s.fields, closed_stays, s.m)
