-- What a reading is worth stays where suits are renamed and groups stand in another order; all green alone may come or go.
use Prim.Native.Nat.{ℕ, ◌+◌, ◌-◌, ◌≤◌, ◌<◌}
use Rattle.std.specs.Prelude.{◌≡◌, ◌&&◌, ltb}
use Rattle.std.proofs.Math.Path.{refl, ap}
use Rattle.std.proofs.Common.{◌∙◌, arith}
use Rattle.std.proofs.Math.Bool.{Bool, true, false, not, cond}
use mathlib.Core.List.{List, ◌∷◌}
use Rattle.std.proofs.Math.Dec.{eqb}
use Rattle.std.proofs.Math.ListN.{get_or}
use Rattle.tiles.specs.Kinds.{is_number, is_honour, is_terminal, is_yaochu, is_simple}
use Rattle.yaku_basics.specs.Tests.{little_dragons, value_han, outside}
use Rattle.yaku.specs.declared.Won.{Won}
use Rattle.yaku.specs.declared.FullReading.{FullReading}
use Rattle.yaku_tiles.specs.OfTiles.{only, honour_present, is_green}
use Rattle.yaku.specs.Yaku.{value_han_of, pinfu, tests_of, is_yakuman, listed, yaku_of, yakuman}
use Rattle.points.specs.Points.{gain}
use Rattle.points.specs.declared.Seats.{Seats}
use Rattle.points_value.specs.declared.Value.{Value}
use Rattle.points_value.specs.Han.{yaku_han, han_of}
use Rattle.points_fu.specs.Fu.{fu, group_fu, added, rounded, base_alone, regular_items, items_of, fu_of}
use Rattle.points_fu.specs.search.Items.{items_by, earned}
use Rattle.points_fu.proofs.laws.Items.{regular_rounded}
use Rattle.points_value.specs.Value.{basic_of, value_of}
use Rattle.symmetry.specs.Renamed.{renamed, SameItems}
use Rattle.symmetry.proofs.laws.Kinds.{Renaming, is_number_stays, is_honour_stays, is_terminal_stays, is_yaochu_stays, is_simple_stays}
use Rattle.symmetry.proofs.laws.Codes.{renamed_code, group_fu_code}
use Rattle.symmetry.proofs.laws.Tallies.{only_stays, flush_stays, half_stays, gates_stays}
use Rattle.symmetry.proofs.laws.Alike.{Moved, SamePlace, count_moved, dragons_moved, little_moved, winds_stay, value_han_moved, twins_moved, runs_moved}
use Rattle.symmetry.proofs.laws.Alike.{triplets_three, straight_moved, outside_moved, triplets_moved, concealed_moved, kans_moved, value_pair}
use Rattle.symmetry.proofs.laws.Alike.{wait_moved, pinfu_moved}

-- w is worth what v is, but for the order of the groups' items
pub record SameWorth (v w : Value) : Type 0 where
  pub yaku : w.yaku ≡ v.yaku
  pub han : w.han.0 ≡ v.han.0
  pub items : SameItems v.items w.items
  pub fu : w.fu.0 ≡ v.fu.0
  pub basic : w.basic.0 ≡ v.basic.0
  pub gain : w.gain.0 ≡ v.gain.0

pub same_alone : (n : ℕ) → SameItems (base_alone n) (base_alone n)
same_alone n = record { base = refl; ron = refl; pair = refl; group = λ k. refl; wait = refl; tsumo = refl; rounding = refl }

cons : {a b : Bool} {l k : List Bool} → a ≡ b → l ≡ k → a ∷ l ≡ b ∷ k
cons {a} {b} {l} {k} p q = cc

-- how a hand was won, with its tiles renamed
abbrev pub renamed_won : (ℕ → ℕ) → Won → List ℕ → Won
renamed_won σ w t = record {
  tally = t;
  win = renamed σ w.win;
  round = w.round;
  own = w.own;
  riichi = w.riichi;
  situation = w.situation;
  ron = w.ron;
  closed = w.closed;
  meldless = w.meldless;
}

module _ (u : Renaming) (w : Won) (t : List ℕ) (e : (k : ℕ) → k < 34 → get_or t (renamed u.to k) 0 ≡ get_or w.tally k 0)
    (green : only t is_green ≡ only w.tally is_green) (hr : 27 ≤ w.round) (ho : 27 ≤ w.own)
    (shape pair : ℕ) (g ws r v : List ℕ) (m : Moved u g ws r v) (place at : ℕ) (here : SamePlace u g r place at) where
  abbrev w' : Won
  w' = renamed_won u.to w t

  abbrev p : FullReading
  p = record { shape = shape; pair = pair; groups = g; ways = ws; place = place }

  abbrev q : FullReading
  q = record { shape = shape; pair = renamed u.to pair; groups = r; ways = v; place = at }

  han_stays : value_han_of w' q ≡ value_han_of w p
  han_stays =
      value_han_moved u g ws r v m w.round w.own (little_dragons r (renamed u.to pair)) hr ho
      ∙ ap (value_han g w.round w.own) (little_moved u g ws r v m pair)

  numbers_stay : only t is_number ≡ only w.tally is_number
  numbers_stay = only_stays u w.tally t e is_number is_number (is_number_stays u)

  pinfu_stays : pinfu w' q ≡ pinfu w p
  unfolding pinfu
  pinfu_stays = pinfu_moved u g ws r v m place at here w.win w.closed pair w.round w.own hr ho

  tests_stay : tests_of w' q ≡ tests_of w p
  unfolding tests_of
  tests_stay =
      (cons refl
      (cons refl
      (cons (only_stays u w.tally t e is_simple is_simple (is_simple_stays u))
      (cons (ap (ltb 0) han_stays)
      (cons pinfu_stays
      (cons (ap (λ (x : ℕ). w.closed && eqb x 1) (twins_moved u g ws r v m))
      (cons refl
      (cons refl
      (cons refl
      (cons refl
      (cons refl
      (cons refl
      (cons refl
      (cons (runs_moved u g ws r v m)
      (cons (straight_moved u g ws r v m)
      (cons (ap (λ (x : Bool). x && honour_present t) (outside_moved u g ws r v m pair) ∙ ap (λ (x : Bool). outside g pair && not x) numbers_stay)
      (cons (triplets_three u g ws r v m)
      (cons (triplets_moved u g ws r v m)
      (cons (ap (λ (x : ℕ). eqb x 3) (concealed_moved u g ws r v m))
      (cons (ap (λ (x : ℕ). eqb x 3) (kans_moved u g ws r v m))
      (cons (only_stays u w.tally t e is_yaochu is_yaochu (is_yaochu_stays u))
      (cons (ap (λ (x : ℕ). w.closed && eqb x 2) (twins_moved u g ws r v m))
      (cons (ap (λ (x : Bool). x && not (honour_present t)) (outside_moved u g ws r v m pair) ∙ ap (λ (x : Bool). outside g pair && not (not x)) numbers_stay)
      (cons (half_stays u w.tally t e)
      (cons (little_moved u g ws r v m pair)
      (cons (flush_stays u w.tally t e)
      (cons refl
      (cons refl
      (cons (ap (λ (x : ℕ). eqb x 3) (dragons_moved u g ws r v m))
      (cons (winds_stay u g ws r v m pair)
      (cons (ap (λ (x : ℕ). w.closed && eqb x 4) (concealed_moved u g ws r v m))
      (cons (ap (λ (x : ℕ). eqb x 4) (kans_moved u g ws r v m))
      (cons (only_stays u w.tally t e is_honour is_honour (is_honour_stays u))
      (cons (only_stays u w.tally t e is_terminal is_terminal (is_terminal_stays u))
      (cons green
      (cons (gates_stays u w.tally t e w.meldless)
      (cons refl
      refl)))))))))))))))))))))))))))))))))))))

  yaku_stays : yaku_of w' q ≡ yaku_of w p
  unfolding yaku_of
  yaku_stays = ap listed tests_stay

  -- ---- fu, item by item

  earned_items : (n : ℕ) → SameItems (earned w p n) (earned w' q n)
  unfolding earned items_by
  earned_items n = record {
    base = refl;
    ron = refl;
    pair = ap (λ (x : Bool). fu (cond x 2 0)) (value_pair u g ws r v m w.round w.own pair hr ho);
    group = λ k. let p : ℕ → ℕ → Bool = λ c x. eqb (group_fu c x) k in count_moved u g ws r v m p p (λ c x. ap (λ (z : ℕ). eqb z k) (group_fu_code u c x));
    wait = ap (λ (x : Bool). fu (cond x 2 0)) (wait_moved u g ws r v m place at here w.win);
    tsumo = ap (λ (x : Bool). fu (cond (not w.ron && not x) 2 0)) pinfu_stays;
    rounding = refl;
  }

  earned_stays : (n : ℕ) → added (earned w' q n) ≡ added (earned w p n)
  unfolding earned added items_by
  earned_stays n =
      let s = m group_fu in
      rw (
        value_pair u g ws r v m w.round w.own pair hr ho,
        wait_moved u g ws r v m place at here w.win,
        pinfu_stays,
      )
      (omega (arith, item 0, item 1, item 2, item 3))
    where
      item : (i : ℕ) → group_fu (renamed_code u.to (get_or g i 0)) (get_or ws i 0) ≡ group_fu (get_or g i 0) (get_or ws i 0)
      item i = group_fu_code u (get_or g i 0) (get_or ws i 0)

  -- what rounding adds to n
  abbrev rounding : ℕ → ℕ
  rounding n = rounded w.closed n - n

  regular_stays : SameItems (regular_items w p) (regular_items w' q)
  regular_stays = rw (regular_rounded w p, regular_rounded w' q, earned_stays 0) (earned_items (rounding (added (earned w p 0))))

  sum_stays : added (regular_items w' q) ≡ added (regular_items w p)
  sum_stays = rw (regular_rounded w p, regular_rounded w' q, earned_stays 0) (earned_stays (rounding (added (earned w p 0))))

  yakuman_stays : yakuman w' q ≡ yakuman w p
  yakuman_stays = ap is_yakuman yaku_stays

  items_stay : SameItems (items_of w p) (items_of w' q)
  unfolding items_of
  items_stay = rw yakuman_stays (go (yakuman w p) (eqb shape 1))
    where
      go : (y s : Bool) →
          SameItems (cond y (base_alone 0) (cond s (base_alone 25) (regular_items w p))) (cond y (base_alone 0) (cond s (base_alone 25) (regular_items w' q)))
      go true s = same_alone 0
      go false true = same_alone 25
      go false false = regular_stays

  fu_stays : fu_of w' q ≡ fu_of w p
  unfolding fu_of items_of
  fu_stays = rw yakuman_stays (go (yakuman w p) (eqb shape 1))
    where
      go : (y s : Bool) →
          added (cond y (base_alone 0) (cond s (base_alone 25) (regular_items w' q))) ≡ added (cond y (base_alone 0) (cond s (base_alone 25) (regular_items w p)))
      go true s = refl
      go false true = refl
      go false false = sum_stays

  -- ---- h, A and the gain

  han_all : (dora : ℕ) → dora < 34 → han_of w' q (renamed u.to dora) ≡ han_of w p dora
  unfolding han_of
  han_all dora h =
      ap (λ (x : List Bool). cond (is_yakuman x) 0 (yaku_han x w.closed (value_han_of w' q) + get_or t (renamed u.to dora) 0)) yaku_stays
      ∙ ap (λ (x : ℕ). cond (yakuman w p) 0 (yaku_han (yaku_of w p) w.closed x + get_or t (renamed u.to dora) 0)) han_stays
      ∙ ap (λ (x : ℕ). cond (yakuman w p) 0 (yaku_han (yaku_of w p) w.closed (value_han_of w p) + x)) (e dora h)

  pub value_stays : (dora : ℕ) → dora < 34 → (s : Seats) → SameWorth (value_of w p dora s) (value_of w' q (renamed u.to dora) s)
  unfolding value_of
  value_stays dora h s =
      let a = han_all dora h in
      let c : basic_of w' q (renamed u.to dora) ≡ basic_of w p dora = rw (a, fu_stays, yakuman_stays) in
      record { yaku = yaku_stays; han = a; items = items_stay; fu = fu_stays; basic = c; gain = ap (gain s w.ron) c }
