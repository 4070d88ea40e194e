-- What a reader that refuses nothing says of the tiles held.
use Prim.Native.Nat.{ℕ, ◌*◌, ◌-◌, ◌≤◌, ◌<◌}
use Rattle.std.specs.Prelude.{◌≡◌, Bool, ◌||◌}
use Rattle.std.proofs.Math.Path.{refl, sym, ap}
use Rattle.std.proofs.Common.{◌∙◌, arith}
use Rattle.std.proofs.Math.Bool.{true, false, cond}
use mathlib.Core.List.{List}
use borrow.Author.Tests.{ltb-false}
use Rattle.std.proofs.Math.Dec.{ltb}
use Rattle.std.proofs.Math.ListN.{length, get_or}
use Rattle.tiles.specs.Below.{any_below}
use Rattle.tiles.proofs.laws.Below.{or_both, some_at, cond_le}
use Rattle.bits.specs.Bits.{bits_of, fill}
use Rattle.bits.proofs.laws.Pack.{length_fill}
use Rattle.hand.specs.declared.Held.{Held}
use Rattle.hand.specs.Held.{some_meld, meld_tile, others, in_held, tile_over33, chi_without_run, wrong_held, descends, over_four, unused_not_zero}
use Rattle.hand_record.specs.Record.{held_by, none_held}
use Rattle.hand_record.specs.search.Offsets.{melds_of, tiles_of, held_in}
use Rattle.hand_record.proofs.laws.Offsets.{melds_length, tiles_length}
use Rattle.hand_record.proofs.laws.Fill.{fill_past, unused_of}
use Rattle.unfinished.specs.Unfinished.{Unfinished}
use Rattle.unfinished.specs.Unfinished.{count_in, held_of, padding_of, wrong_length, held_refusal, refusal_of, read_of, IsSound}
use Rattle.unfinished.proofs.laws.Read.{RightLength, length_of_lem, held_at}

-- ---- tiles held that are not refused

pub record Clean (x : Held) (padding : ℕ) : Type 0 where
  pub held : wrong_held x padding ≡ false
  pub order : descends x ≡ false
  pub four : over_four (in_held x) ≡ false

pub clean_of : (x : Held) (p : ℕ) → held_refusal x p ≡ 0 → Clean x p
unfolding held_refusal
clean_of x p e = let q = conds (wrong_held x p) (descends x) (over_four (in_held x)) e in record { held = q.0; order = q.1; four = q.2 }
  where
    conds : (a b c : Bool) → ◌≡◌ {A = ℕ} (cond a 2 (cond b 3 (cond c 4 0))) 0 → (a ≡ false) × (b ≡ false) × (c ≡ false)
    conds true b c e = absurd (omega arith)
    conds false true c e = absurd (omega arith)
    conds false false true e = absurd (omega arith)
    conds false false false e = (refl, refl, refl)

pub of_clean : (x : Held) (p : ℕ) → Clean x p → held_refusal x p ≡ 0
unfolding held_refusal
of_clean x p c = rw (c.held, c.order, c.four)

-- each is a kind, and there are at most four of one
module _ (x : Held) (p : ℕ) (c : Clean x p) where
  pub no_padding : p ≡ 0
  unfolding wrong_held
  no_padding = omega (arith, ltb-false 0 p (or_both (tile_over33 x || chi_without_run x) (ltb 0 p) c.held).1)

  pub are_kinds : (i : ℕ) → i < 13 - 3 * x.m → get_or x.concealed i 0 ≤ 33
  unfolding wrong_held tile_over33
  are_kinds i l =
      let t = (or_both (tile_over33 x) (chi_without_run x) (or_both (tile_over33 x || chi_without_run x) (ltb 0 p) c.held).0).0 in
      let o = (or_both (some_meld x (λ b. ltb 33 (meld_tile b))) (any_below (others x) (λ i. ltb 33 (get_or x.concealed i 0))) t).1 in
      ltb-false 33 (get_or x.concealed i 0) (some_at (λ j. ltb 33 (get_or x.concealed j 0)) (13 - 3 * x.m) i o l)

  pub at_most_four : (k : ℕ) → k < 34 → in_held x k ≤ 4
  unfolding over_four
  at_most_four k l = ltb-false 4 (in_held x k) (some_at (λ j. ltb 4 (in_held x j)) 34 k c.four l)

-- ---- an input that is not refused

module _ (s : List ℕ) where
  pub sound_read : IsSound s → refusal_of s ≡ 0
  unfolding refusal_of
  sound_read y = rw y.len (of_clean (held_of s) (padding_of s) (record { held = y.held; order = y.order; four = y.four }))

  unrefused : refusal_of s ≡ 0 → (wrong_length (length s) (count_in s) ≡ false) × (held_refusal (held_of s) (padding_of s) ≡ 0)
  unfolding refusal_of
  unrefused e = go (wrong_length (length s) (count_in s)) (held_refusal (held_of s) (padding_of s)) e
    where
      go : (b : Bool) (n : ℕ) → cond b 1 n ≡ 0 → (b ≡ false) × (n ≡ 0)
      go true n e = absurd (omega arith)
      go false n e = (refl, e)

  pub read_sound : refusal_of s ≡ 0 → IsSound s
  read_sound e =
      let u = unrefused e in
      let c = clean_of (held_of s) (padding_of s) u.1 in
      record { len = u.0; held = c.held; order = c.order; four = c.four }

  -- what the tiles held then have
  pub record SoundHeld : Type 0 where
    pub count : (held_of s).m ≡ count_in s
    pub few : (held_of s).m ≤ 4
    pub right : RightLength (length s) (count_in s)
    pub unrefused : held_refusal (held_of s) 0 ≡ 0
    pub unused : unused_not_zero (held_of s) ≡ false
    pub melds : length (held_of s).melds ≡ 4
    pub concealed : length (held_of s).concealed ≡ 13
    pub kinds : (i : ℕ) → i < 13 - 3 * (held_of s).m → get_or (held_of s).concealed i 0 ≤ 33
    pub four : (k : ℕ) → k < 34 → in_held (held_of s) k ≤ 4

  pub sound_held : refusal_of s ≡ 0 → SoundHeld
  unfolding held_in held_by
  sound_held e =
      let m : ℕ = count_in s in
      let b : List ℕ = bits_of s in
      let ml = melds_length 3 m b in
      let tl = tiles_length 3 m b in
      let em : (held_of s).melds ≡ fill 4 (melds_of 3 m b) = ap (λ (x : Held). x.melds) (held_at s) in
      let et : (held_of s).concealed ≡ fill 13 (tiles_of 3 m b) = ap (λ (x : Held). x.concealed) (held_at s) in
      let u = unrefused e in
      let f = length_of_lem (length s) (count_in s) u.0 in
      let c = clean_of (held_of s) (padding_of s) u.1 in
      let z = no_padding (held_of s) (padding_of s) c in
      record {
        count = refl;
        few = f.few;
        right = f;
        unrefused = ap (held_refusal (held_of s)) (sym z) ∙ u.1;
        unused =
            unused_of (held_of s) (λ i g. ap (λ (l : List ℕ). get_or l i 0) em ∙ fill_past 4 (melds_of 3 m b) i (omega (arith, ml)))
            (λ i g. ap (λ (l : List ℕ). get_or l i 0) et ∙ fill_past 13 (tiles_of 3 m b) i (omega (arith, tl)));
        melds = ap (λ (l : List ℕ). length l) em ∙ length_fill 4 (melds_of 3 m b) (omega (arith, ml, f.few));
        concealed = ap (λ (l : List ℕ). length l) et ∙ length_fill 13 (tiles_of 3 m b) (omega (arith, tl));
        kinds = are_kinds (held_of s) (padding_of s) c;
        four = at_most_four (held_of s) (padding_of s) c;
      }

-- "Read's checks 1 to 4"
pub refusal_le : (s : List ℕ) → refusal_of s ≤ 4
unfolding refusal_of held_refusal
refusal_le s =
    cond_le (wrong_length (length s) (count_in s)) _ _ 4 (omega arith)
    (cond_le (wrong_held (held_of s) (padding_of s)) _ _ 4 (omega arith)
    (cond_le (descends (held_of s)) _ _ 4 (omega arith) (cond_le (over_four (in_held (held_of s))) _ _ 4 (omega arith) (omega arith))))

-- ---- what a reader's caller has: r is what it gave

module _ (s : List ℕ) (r : Unfinished) (e : r ≡ read_of s) where
  pub refusal_is : r.refusal ≡ refusal_of s
  unfolding read_of
  refusal_is = ap (λ (x : Unfinished). x.refusal) e ∙ go (refusal_of s) none_held (held_of s) (ltb 0 (refusal_of s)) refl
    where
      go : (n : ℕ) (x y : Held) (b : Bool) → ltb 0 n ≡ b
          → (cond {A = Unfinished} b (record { refusal = n; held = x }) (record { refusal = 0; held = y })).refusal ≡ n
      go n x y true q = refl
      go n x y false q = omega (arith, ltb-false 0 n q)

  pub held_is : r.refusal ≡ 0 → r.held ≡ held_of s
  unfolding read_of
  held_is z =
      let q : refusal_of s ≡ 0 = sym refusal_is ∙ z in
      ap (λ (x : Unfinished). x.held) (rw q at e)
