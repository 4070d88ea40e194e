-- A yakuman "can't be beaten" (02, S-4), where it is paid: its gain is above that of every reading without one, and of two with one all figures are equal.
use Rattle.std.specs.Prelude.{Bool, ◌||◌, cond, List, [], ◌∷◌, ◌⊎◌, ◌≡◌, ℕ, ◌+◌, ◌*◌, ◌≤◌, ◌<◌, leb, ltb, get_or}
use Rattle.std.proofs.Math.Bool.{true, false}
use Rattle.std.proofs.lemmas.Bool.{false≢true}
use Rattle.std.proofs.Math.Logic.{inl, inr}
use Rattle.std.proofs.Math.Path.{refl}
use Rattle.std.proofs.Common.{sym, ap, ◌∙◌, arith, ltb-false}
use Rattle.std.proofs.Math.Nat.{mul-le-mul}
use Rattle.tiles.specs.Below.{any_below}
use Rattle.tiles.proofs.laws.Below.{cond_le, some_at, some_of}
use Rattle.reading.specs.declared.Reading.{Reading}
use Rattle.reading.specs.Order.{Lex}
use Rattle.yaku.specs.declared.Won.{Won}
use Rattle.yaku.specs.declared.FullReading.{FullReading}
use Rattle.yaku.specs.Yaku.{is_yakuman, has_yaku, yakuman}
use Rattle.points.specs.declared.Seats.{Seats}
use Rattle.points.specs.Points.{plain, limit, ordinary, basic, hundreds, times_a, pays, gain}
use Rattle.points_value.specs.declared.Value.{Value}
use Rattle.points_value.specs.Value.{value_of}
use Rattle.points_value.proofs.Claims.{yakuman_pays_as_one}
use Rattle.score_best.specs.Best.{with_yaku, with_yakuman, figures}

-- ---- basic points: at most 6,000 without a yakuman, and 8,000 with one

limit_le : (h : ℕ) → limit h ≤ 6000
unfolding limit
limit_le h = cond_le (leb h 5) _ _ 6000 (omega arith) (cond_le (leb h 7) _ _ 6000 (omega arith) (cond_le (leb h 10) _ _ 6000 (omega arith) (omega arith)))

ordinary_le : (h f : ℕ) → ordinary h f ≤ 6000
unfolding ordinary
ordinary_le h f = go (leb 5 h) (ltb 2000 (plain h f)) refl
  where
    go : (a b : Bool) → ltb 2000 (plain h f) ≡ b → cond (a || b) (limit h) (plain h f) ≤ 6000
    go true b e = limit_le h
    go false true e = limit_le h
    go false false e = omega (arith, ltb-false 2000 (plain h f) e)

pub basic_le : (y : Bool) (h f : ℕ) → basic y h f ≤ 8000
unfolding basic
basic_le y h f = cond_le y _ _ 8000 (omega arith) (omega (arith, ordinary_le h f))

-- ---- payments of at most 6,000 are at most three quarters of those of 8,000

hundreds_le : (x n : ℕ) → x ≤ 100 * n → hundreds x ≤ 100 * n
unfolding hundreds
hundreds_le x n h = omega arith

le_hundreds : (x : ℕ) → x ≤ hundreds x
unfolding hundreds
le_hundreds x = omega arith

module _ (s : Seats) (ron : Bool) (a : ℕ) (h : a ≤ 6000) where
  pays_less : (seat : ℕ) → 4 * pays s ron a seat ≤ 3 * pays s ron 8000 seat
  unfolding pays
  pays_less seat =
      let k = times_a s ron seat in
      let p : k * a ≤ k * 6000 = mul-le-mul (omega arith) h in
      omega (arith, hundreds_le (k * a) (k * 60) (omega arith), le_hundreds (k * 8000))

  gain_less : 0 < gain s ron 8000 → gain s ron a < gain s ron 8000
  unfolding gain
  gain_less l = omega (arith, pays_less 0, pays_less 1, pays_less 2, pays_less 3)

-- ---- figures

-- w is above v, or they are equal
abbrev pub AtMost : Value → Value → Type 0
AtMost v w = Lex (figures v) (figures w) ⊎ (figures v ≡ figures w)

pub equal : (a b c d x y : ℕ) → a ≡ b → c ≡ d → x ≡ y → a ∷ c ∷ x ∷ [] ≡ b ∷ d ∷ y ∷ []
equal a b c d x y p q r = cc

module _ (w : Won) (p : FullReading) (dora : ℕ) (s : Seats) where
  gain_of_lem : (value_of w p dora s).gain.0 ≡ gain s w.ron (value_of w p dora s).basic.0
  unfolding value_of
  gain_of_lem = refl

  plain_le : yakuman w p ≡ false → (value_of w p dora s).basic.0 ≤ 6000
  unfolding value_of basic
  plain_le e = rw e (ordinary_le _ _)

  gained : yakuman w p ≡ true → (value_of w p dora s).gain.0 ≡ gain s w.ron 8000
  gained e = gain_of_lem ∙ ap (gain s w.ron) (yakuman_pays_as_one w p dora s e).2

-- a yakuman is paid where 8,000 basic points are
module _ (w : Won) (dora : ℕ) (s : Seats) (paid : 0 < gain s w.ron 8000) where
  -- another yakuman has the same figures, and what is none is below
  tied : (p q : FullReading) → yakuman w p ≡ true → yakuman w q ≡ true → figures (value_of w q dora s) ≡ figures (value_of w p dora s)
  tied p q e f =
      let x = yakuman_pays_as_one w p dora s e in
      let y = yakuman_pays_as_one w q dora s f in
      equal _ _ _ _ _ _ (gained w q dora s f ∙ sym (gained w p dora s e)) (y.0 ∙ sym x.0) (y.1 ∙ sym x.1)

  below : (p q : FullReading) → yakuman w p ≡ true → yakuman w q ≡ false → Lex (figures (value_of w q dora s)) (figures (value_of w p dora s))
  below p q e f = inl (rw (gain_of_lem w q dora s, gained w p dora s e) (gain_less s w.ron (value_of w q dora s).basic.0 (plain_le w q dora s f) paid))

  -- "A yakuman can't be beaten", whatever the parts of a reading are
  module _ (of : Reading → FullReading) (x q : Reading) (e : with_yakuman (λ r. value_of w (of r) dora s) x ≡ true) where
    pub over_plain : with_yakuman (λ r. value_of w (of r) dora s) q ≡ false → Lex (figures (value_of w (of q) dora s)) (figures (value_of w (of x) dora s))
    unfolding value_of
    over_plain f = below (of x) (of q) e f

    pub top : AtMost (value_of w (of q) dora s) (value_of w (of x) dora s)
    unfolding value_of
    top = go (yakuman w (of q)) refl
      where
        go : (c : Bool) → yakuman w (of q) ≡ c → AtMost (value_of w (of q) dora s) (value_of w (of x) dora s)
        go true f = inr (tied (of x) (of q) e f)
        go false f = inl (below (of x) (of q) e f)

-- ---- a yakuman is a yaku

no_yakuman : (y : List Bool) → has_yaku y ≡ false → is_yakuman y ≡ false
unfolding has_yaku is_yakuman any_below
no_yakuman y e = some_of (λ i. get_or y (26 + i) false) 11 (λ i l. some_at (λ n. get_or y n false) 37 (26 + i) e (omega arith))

pub yakuman_yaku : (worth : Reading → Value) (x : Reading) → with_yakuman worth x ≡ true → with_yaku worth x ≡ true
yakuman_yaku worth x e = go (with_yaku worth x) refl
  where
    go : (c : Bool) → with_yaku worth x ≡ c → with_yaku worth x ≡ true
    go true f = f
    go false f = absurd (false≢true (sym (no_yakuman (worth x).yaku f) ∙ e))
