-- What the yaku and fu ask of four groups stays where the groups are renamed and stand in another order with their ways.
use Rattle.std.specs.Prelude.{ℕ, ◌+◌, ◌-◌, ◌*◌, ◌/◌, ◌≤◌, ◌<◌, ◌≡◌, Bool, ◌&&◌, ◌||◌, not, List, ltb, get_or}
use Rattle.std.proofs.Math.Path.{refl, ap}
use Rattle.std.proofs.Common.{sym, ◌∙◌, arith, add-zero}
use Rattle.std.proofs.Math.Bool.{true, false, cond}
use Rattle.std.proofs.Math.Dec.{leb, eqb}
use Rattle.tiles.specs.Below.{all, any, count, sum, all_below}
use Rattle.tiles.specs.Kinds.{is_yaochu, is_dragon, is_wind}
use Rattle.tiles.specs.Groups.{is_run, is_triplet, is_group}
use Rattle.tiles.proofs.laws.Below.{both_ways, any_counted, all_any, any_at, any_of, every_at, every_of}
use Rattle.yaku_basics.specs.Tests.{has, is_value, dragons, winds, little_dragons, value_han, earns_wait, copies, twins, in_three_suits, straight}
use Rattle.yaku_basics.specs.Tests.{has_yaochu, outside, triplets, is_concealed, concealed, kans, four_winds}
use Rattle.symmetry.specs.Renamed.{renamed}
use Rattle.symmetry.proofs.laws.Kinds.{Renaming, at_suit, test_other, is_dragon_stays, is_wind_stays, is_yaochu_stays}
use Rattle.symmetry.proofs.laws.Codes.{renamed_code, code_run, code_triplet, code_test, code_test_other, is_run_code, is_triplet_code, has_yaochu_code}
use Rattle.symmetry.proofs.laws.Codes.{wait_code}
use Rattle.symmetry.proofs.laws.Tallies.{any_suits, total_kinds}

-- the groups g with ways w, renamed, are the groups r with ways v in some order: each sum over them is the same
abbrev pub Moved : Renaming → List ℕ → List ℕ → List ℕ → List ℕ → Type 0
Moved u g w r v = (P : ℕ → ℕ → ℕ) → sum 4 (λ i. P (get_or r i 0) (get_or v i 0)) ≡ sum 4 (λ i. P (renamed_code u.to (get_or g i 0)) (get_or w i 0))

-- the place `at` among the groups r is the place among g: the pair's, 0, or that of the group renamed
pub record SamePlace (u : Renaming) (g r : List ℕ) (place at : ℕ) : Type 0 where
  pub pair : eqb at 0 ≡ eqb place 0
  pub group : eqb place 0 ≡ false → (get_or r (at - 1) 0 ≡ renamed_code u.to (get_or g (place - 1) 0)) × (is_group (get_or g (place - 1) 0) ≡ true)

-- ---- "in three suits": the code of some number is there in each suit

abbrev InEach : ℕ → List ℕ → Type 0
InEach low g = (j : ℕ) × (j < 9) × ((s : ℕ) → s < 3 → has g (low + j + 9 * s) ≡ true)

each_of : (low : ℕ) (g : List ℕ) → in_three_suits low g ≡ true → InEach low g
unfolding in_three_suits all_below
each_of low g e =
    let (j, l, h) = any_at (λ i. all 3 (λ s. has g (low + i + 9 * s))) 9 e in
    (j, l, λ s k. every_at (λ s. has g (low + j + 9 * s)) 3 s h k)

of_each : (low : ℕ) (g : List ℕ) → InEach low g → in_three_suits low g ≡ true
unfolding in_three_suits all_below
of_each low g (j, l, h) =
    any_of (λ i. all 3 (λ s. has g (low + i + 9 * s))) 9 j l (every_of (λ s. has g (low + j + 9 * s)) 3 h)

-- ---- the tests

module _ (u : Renaming) (g w r v : List ℕ) (m : Moved u g w r v) where
  abbrev F : ℕ → ℕ
  F = renamed_code u.to

  module _ (p q : ℕ → ℕ → Bool) (e : (c x : ℕ) → q (F c) x ≡ p c x) where
    pub count_moved : count 4 (λ i. q (get_or r i 0) (get_or v i 0)) ≡ count 4 (λ i. p (get_or g i 0) (get_or w i 0))
    count_moved = m (λ c x. cond (q c x) 1 0) ∙ rw (at_place 0, at_place 1, at_place 2, at_place 3)
      where
        at_place : (i : ℕ) → q (F (get_or g i 0)) (get_or w i 0) ≡ p (get_or g i 0) (get_or w i 0)
        at_place i = e (get_or g i 0) (get_or w i 0)

    any_moved : any 4 (λ i. q (get_or r i 0) (get_or v i 0)) ≡ any 4 (λ i. p (get_or g i 0) (get_or w i 0))
    any_moved = any_counted (λ i. q (get_or r i 0) (get_or v i 0)) 4 ∙ ap (ltb 0) count_moved ∙ sym (any_counted (λ i. p (get_or g i 0) (get_or w i 0)) 4)

  all_moved : (p : ℕ → Bool) → ((c : ℕ) → p (F c) ≡ p c) → all 4 (λ i. p (get_or r i 0)) ≡ all 4 (λ i. p (get_or g i 0))
  all_moved p e =
      all_any (λ i. p (get_or r i 0)) 4 ∙ ap not (any_moved (λ c x. not (p c)) (λ c x. not (p c)) (λ c x. ap not (e c))) ∙ sym (all_any (λ i. p (get_or g i 0)) 4)

  has_moved : (b : ℕ) → has r (F b) ≡ has g b
  has_moved b = any_moved (λ c x. eqb c b) (λ c x. eqb c (F b)) (λ c x. code_test u c b)

  has_other : (b : ℕ) → 61 ≤ b → has r b ≡ has g b
  has_other b h = any_moved (λ c x. eqb c b) (λ c x. eqb c b) (λ c x. code_test_other u c b h)

  pub dragons_moved : dragons r ≡ dragons g
  dragons_moved = rw (has_other 65 (omega arith), has_other 66 (omega arith), has_other 67 (omega arith))

  winds_moved : winds r ≡ winds g
  winds_moved = rw (has_other 61 (omega arith), has_other 62 (omega arith), has_other 63 (omega arith), has_other 64 (omega arith))

  pub little_moved : (k : ℕ) → little_dragons r (renamed u.to k) ≡ little_dragons g k
  unfolding little_dragons
  little_moved k = ap (λ (x : ℕ). eqb x 2 && is_dragon (renamed u.to k)) dragons_moved ∙ ap (λ (b : Bool). eqb (dragons g) 2 && b) (is_dragon_stays u k)

  pub winds_stay : (k : ℕ) → four_winds r (renamed u.to k) ≡ four_winds g k
  unfolding four_winds
  winds_stay k =
      ap (λ (x : ℕ). (eqb x 3 && is_wind (renamed u.to k)) || eqb x 4) winds_moved
      ∙ ap (λ (b : Bool). (eqb (winds g) 3 && b) || eqb (winds g) 4) (is_wind_stays u k)

  pub value_han_moved : (round own : ℕ) (little : Bool) → 27 ≤ round → 27 ≤ own → value_han r round own little ≡ value_han g round own little
  unfolding value_han
  value_han_moved round own little a b =
      ap (λ (x : ℕ). cond little 0 x + cond (has r (34 + round)) 1 0 + cond (has r (34 + own)) 1 0) dragons_moved
      ∙ ap (λ (x : Bool). cond little 0 (dragons g) + cond x 1 0 + cond (has r (34 + own)) 1 0) (has_other (34 + round) (omega arith))
      ∙ ap (λ (x : Bool). cond little 0 (dragons g) + cond (has g (34 + round)) 1 0 + cond x 1 0) (has_other (34 + own) (omega arith))

  pub twins_moved : twins r ≡ twins g
  unfolding twins
  twins_moved =
      total_kinds u 27 (omega arith) (λ c. copies g c / 2) (λ c. copies r c / 2)
      (λ k l.
      ap (λ (x : ℕ). x / 2)
      (ap (copies r) (sym (code_run u.to k (omega arith))) ∙ count_moved (λ c x. eqb c k) (λ c x. eqb c (F k)) (λ c x. code_test u c k)))

  three_moved : (low : ℕ) → ((s j : ℕ) → s < 3 → j < 9 → F (low + j + 9 * s) ≡ low + j + 9 * u.to s) → in_three_suits low r ≡ in_three_suits low g
  three_moved low h =
      both_ways (in_three_suits low r) (in_three_suits low g)
      (λ e.
      let (j, l, y) = each_of low r e in
      of_each low g (j, l, λ s k. sym (has_moved (low + j + 9 * s)) ∙ ap (has r) (h s j k l) ∙ y (u.to s) (u.to_lt s k)))
      (λ e.
      let (j, l, y) = each_of low g e in
      of_each low r (
        j,
        l,
        λ s k.
            ap (λ (t : ℕ). has r (low + j + 9 * t)) (sym (u.to_from s k))
            ∙ ap (has r) (sym (h (u.from s) j (u.from_lt s k) l))
            ∙ has_moved (low + j + 9 * u.from s)
            ∙ y (u.from s) (u.from_lt s k),
      ))

  suit_kind : (s j : ℕ) → s < 3 → j < 9 → renamed u.to (j + 9 * s) ≡ j + 9 * u.to s
  suit_kind s j h l = let e : j + 9 * s ≡ 9 * s + j = omega arith in ap (renamed u.to) e ∙ at_suit u s j h l ∙ (omega arith)

  pub runs_moved : in_three_suits 0 r ≡ in_three_suits 0 g
  runs_moved =
      three_moved 0 (λ s j h l.
      let e : 0 + j + 9 * s ≡ j + 9 * s = omega arith in
      code_run u.to (0 + j + 9 * s) (omega arith) ∙ ap (renamed u.to) e ∙ suit_kind s j h l ∙ (omega arith))

  pub triplets_three : in_three_suits 34 r ≡ in_three_suits 34 g
  triplets_three =
      three_moved 34 (λ s j h l.
      let e : 34 + j + 9 * s - 34 ≡ j + 9 * s = omega arith in
      code_triplet u.to (34 + j + 9 * s) (omega arith)
      ∙ ap (λ (x : ℕ). 34 + renamed u.to x) e
      ∙ ap (λ (x : ℕ). 34 + x) (suit_kind s j h l)
      ∙ (omega arith))

  at_run : (s i : ℕ) → s < 3 → i < 9 → has r (9 * u.to s + i) ≡ has g (9 * s + i)
  at_run s i h l = ap (has r) (sym (code_run u.to (9 * s + i) (omega arith) ∙ at_suit u s i h l)) ∙ has_moved (9 * s + i)

  pub straight_moved : straight r ≡ straight g
  unfolding straight
  straight_moved =
      any_suits u (λ s. has g (9 * s) && has g (9 * s + 3) && has g (9 * s + 6)) (λ s. has r (9 * s) && has r (9 * s + 3) && has r (9 * s + 6))
      (λ s h.
      let z : has r (9 * u.to s) ≡ has g (9 * s) = ap (has r) (sym (add-zero (9 * u.to s))) ∙ at_run s 0 h (omega arith) ∙ ap (has g) (add-zero (9 * s)) in
      three z (at_run s 3 h (omega arith)) (at_run s 6 h (omega arith)))
    where
      three : {p q x y z w : Bool} → p ≡ q → x ≡ y → z ≡ w → p && x && z ≡ q && y && w
      three e f g = rw (e, f, g)

  pub outside_moved : (k : ℕ) → outside r (renamed u.to k) ≡ outside g k
  unfolding outside
  outside_moved k =
      ap (λ (x : Bool). x && is_yaochu (renamed u.to k) && any 4 (λ i. is_run (get_or r i 0))) (all_moved has_yaochu (has_yaochu_code u))
      ∙ ap (λ (x : Bool). all 4 (λ i. has_yaochu (get_or g i 0)) && x && any 4 (λ i. is_run (get_or r i 0))) (is_yaochu_stays u k)
      ∙ ap (λ (x : Bool). all 4 (λ i. has_yaochu (get_or g i 0)) && is_yaochu k && x) (any_moved (λ c x. is_run c) (λ c x. is_run c) (λ c x. is_run_code u c))

  pub triplets_moved : triplets r ≡ triplets g
  triplets_moved = all_moved is_triplet (is_triplet_code u)

  pub concealed_moved : concealed r v ≡ concealed g w
  unfolding concealed
  concealed_moved = count_moved is_concealed is_concealed (λ c x. ap (λ (b : Bool). b && (eqb x 0 || eqb x 3)) (is_triplet_code u c))

  pub kans_moved : kans v ≡ kans w
  unfolding kans
  kans_moved = count_moved (λ c x. leb 2 x) (λ c x. leb 2 x) (λ c x. refl)

  pub value_pair : (round own k : ℕ) → 27 ≤ round → 27 ≤ own → is_value round own (renamed u.to k) ≡ is_value round own k
  value_pair round own k a b = rw (is_dragon_stays u k, test_other u k round a, test_other u k own b)

  module _ (place at : ℕ) (s : SamePlace u g r place at) (win : ℕ) where
    pub wait_moved : earns_wait at (get_or r (at - 1) 0) (renamed u.to win) ≡ earns_wait place (get_or g (place - 1) 0) win
    unfolding earns_wait
    wait_moved = go (eqb place 0) refl
      where
        go : (b : Bool) → eqb place 0 ≡ b → earns_wait at (get_or r (at - 1) 0) (renamed u.to win) ≡ earns_wait place (get_or g (place - 1) 0) win
        go true e = rw (s.pair, e)
        go false e = let z = s.group e in rw (s.pair, z.0) (wait_code u place (get_or g (place - 1) 0) win z.1)

    pub pinfu_moved : (closed : Bool) (k round own : ℕ) → 27 ≤ round → 27 ≤ own
        → closed && all 4 (λ i. is_run (get_or r i 0)) && not (earns_wait at (get_or r (at - 1) 0) (renamed u.to win))
        && not (is_value round own (renamed u.to k))
        ≡ closed && all 4 (λ i. is_run (get_or g i 0)) && not (earns_wait place (get_or g (place - 1) 0) win) && not (is_value round own k)
    pinfu_moved closed k round own a b = four (all_moved is_run (is_run_code u)) wait_moved (value_pair round own k a b)
      where
        four : {p q x y z w : Bool} → p ≡ q → x ≡ y → z ≡ w → closed && p && not x && not z ≡ closed && q && not y && not w
        four e f g = rw (e, f, g)
