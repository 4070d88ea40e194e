-- Without a pair to come the lowest tile has one part that it can be in: a triplet where there are three of it, else a run. And with a pair to
-- come it is one of the kinds that can be the pair.
use Rattle.std.specs.Prelude.{◌≡◌, refl, Bool, false, ◌&&◌, ◌||◌, cond, List, ◌∷◌, ℕ, suc, ◌+◌, ◌-◌, ◌*◌, ◌%◌, ◌≤◌, ◌<◌, ltb, eqb, length, get_or}
use Rattle.std.proofs.Common.{sym, ◌∙◌, ⊎_elim, arith, lt-ltb, le-ltb, le-leb, ltb-true, ltb-false}
use Rattle.std.proofs.Math.Path.{ap}
use Rattle.std.proofs.Math.Bool.{true}
use Rattle.std.proofs.lemmas.Bool.{false≢true, lt-leb}
use Rattle.tiles.specs.Groups.{is_group, at_kind, uses}
use Rattle.reading.specs.Reading.{used_by}
use Rattle.reading.specs.All.{Each, also as each}
use Rattle.reading.specs.search.Readings.{less, fits, without}
use Rattle.reading.specs.search.Pairs.{Among, OnlyPairs}
use Rattle.reading.proofs.laws.Groups.{run_in, fits_group, without_at, without_long, less_long, at_same, at_other}
use Rattle.reading_splits.specs.search.SplitsInto.{also, lowest, splits_into}
use Rattle.reading_splits.proofs.laws.SplitsInto.{SplitsInto, Taken, take_group, lowest_code, lowest_below, add_pair}
use Rattle.reading_splits.proofs.laws.SplitsInto.{without_two, also_of, also_with, also_none, splits_into_step, splits_into_sound, splits_into_complete}

-- ---- tiles of groups
uses_run : (k i : ℕ) → k < 34 → uses k i ≡ at_kind k 1 i + at_kind (k + 1) 1 i + at_kind (k + 2) 1 i
unfolding uses
uses_run k i l = rw (lt-ltb k 34 l)

uses_three : (k i : ℕ) → uses (34 + k) i ≡ 3 * at_kind k 1 i
unfolding uses at_kind
uses_three k i = let e : 34 + k - 34 ≡ k = omega arith in rw (le-ltb (34 + k) 34 (omega arith), e) (go (eqb k i))
  where
    go : (b : Bool) → cond b 3 0 ≡ 3 * cond b 1 0
    go true = refl
    go false = refl

is_three : (k : ℕ) → k < 34 → is_group (34 + k) ≡ true
unfolding is_group
is_three k h = rw (le-ltb (34 + k) 34 (omega arith)) (lt-ltb (34 + k) 68 (omega arith))

-- three of a kind are a triplet's tiles
pub fits_three : (t : List ℕ) (k : ℕ) → k < 34 → 3 ≤ get_or t k 0 → fits t (34 + k) ≡ true
unfolding fits
fits_three t k l h =
    let e : 34 + k - 34 ≡ k = omega arith in
    rw (is_three k l, le-ltb (34 + k) 34 (omega arith), e) (le-leb 3 (get_or t k 0) h)

-- fewer are not
fits_no_three : (t : List ℕ) (k : ℕ) → get_or t k 0 < 3 → fits t (34 + k) ≡ false
unfolding fits
fits_no_three t k h =
    let e : 34 + k - 34 ≡ k = omega arith in
    rw (le-ltb (34 + k) 34 (omega arith), e, lt-leb 3 (get_or t k 0) h) (go (is_group (34 + k)))
  where
    go : (b : Bool) → b && false ≡ false
    go true = refl
    go false = refl

-- ---- a run from the lowest kind and its others can be a triplet of it and others: another run of a triplet, or three runs are three triplets
module _ (n k : ℕ) (t : List ℕ) (l : k < 34) (low : (i : ℕ) → i < k → get_or t i 0 ≡ 0) (three : 3 ≤ get_or t k 0) (f : fits t k ≡ true)
    (s : SplitsInto n false (λ i. get_or (without t k) i 0)) where
  tiles : (i : ℕ) → get_or t i 0 ≡ uses k i + used_by s.groups i
  tiles i = omega (arith, without_at t k f i, s.tiles i)

  left : (i : ℕ) → get_or t i 0 ≡ 3 * at_kind k 1 i + get_or (without t (34 + k)) i 0
  left i = omega (arith, without_at t (34 + k) (fits_three t k l three) i, uses_three k i)

  run_once : uses k k ≡ 1
  run_once = omega (arith, uses_run k k l, at_same k 1, at_other (k + 1) 1 k (omega arith), at_other (k + 2) 1 k (omega arith))

  -- with the groups gs beside it
  with_these : (gs : List ℕ) → length gs ≡ n → Each (λ g. is_group g ≡ true) gs → ((i : ℕ) → 3 * at_kind k 1 i + used_by gs i ≡ get_or t i 0) → SplitsInto n false
      (λ i. get_or (without t (34 + k)) i 0)
  with_these gs e o h = record { pair = 0; groups = gs; number = omega arith; codes = o; tiles = λ i. omega (arith, left i, h i) }

  group_of : (gs : List ℕ) (r : Taken gs k) → ((i : ℕ) → i < k → used_by gs i ≡ 0) → (r.code ≡ 34 + k → SplitsInto n false (λ i. get_or (without t
      (34 + k)) i 0)) → (r.code ≡ k → SplitsInto n false (λ i. get_or (without t (34 + k)) i 0)) →
      SplitsInto n false (λ i. get_or (without t (34 + k)) i 0)
  group_of gs r z x y = ⊎_elim x y (lowest_code r.code k r.has (λ i g. omega (arith, z i g, r.tiles i)))

  pub triplet_first : SplitsInto n false (λ i. get_or (without t (34 + k)) i 0)
  unfolding used_by
  triplet_first =
      let r = take_group s.groups k s.codes (omega (arith, tiles k, run_once)) in
      let run : is_group k ≡ true = fits_group t k f in
      let w = run_in k run l in
      group_of s.groups r (λ i g. omega (arith, tiles i, low i g))
      (λ e.
      let u : (i : ℕ) → uses r.code i ≡ uses (34 + k) i = λ i. ap (λ (x : ℕ). uses x i) e in
      with_these (k ∷ r.others) (omega (arith, r.number, s.number)) (each run r.codes) (λ i. omega (arith, tiles i, r.tiles i, u i, uses_three k i)))
      (λ e.
      let u : (i : ℕ) → uses r.code i ≡ uses k i = λ i. ap (λ (x : ℕ). uses x i) e in
      let q = take_group r.others k r.codes (omega (arith, tiles k, r.tiles k, u k, run_once)) in
      group_of r.others q (λ i g. omega (arith, tiles i, low i g, r.tiles i))
      (λ d.
      let v : (i : ℕ) → uses q.code i ≡ uses (34 + k) i = λ i. ap (λ (x : ℕ). uses x i) d in
      with_these (k ∷ k ∷ q.others) (omega (arith, r.number, q.number, s.number)) (each run (each run q.codes))
      (λ i. omega (arith, tiles i, r.tiles i, u i, q.tiles i, v i, uses_three k i)))
      (λ d.
      let v : (i : ℕ) → uses q.code i ≡ uses k i = λ i. ap (λ (x : ℕ). uses x i) d in
      with_these ((34 + (k + 1)) ∷ (34 + (k + 2)) ∷ q.others) (omega (arith, r.number, q.number, s.number))
      (each (is_three (k + 1) (omega arith)) (each (is_three (k + 2) (omega arith)) q.codes))
      (λ i. omega (arith, tiles i, r.tiles i, u i, q.tiles i, v i, uses_run k i l, uses_three (k + 1) i, uses_three (k + 2) i))))

-- ---- the test without a pair to come, as the code makes it
module _ (pieces : ℕ) (t : List ℕ) (k : ℕ) (h : pieces ≡ 0 → ⊥) (long : length t ≡ 34) (e : k ≡ lowest 34 0 t) (l : k < 34) where
  step : (b d : Bool) → b ≡ also (fits t (34 + k)) (λ _. splits_into (pieces - 1) false (without t (34 + k)))
      → d ≡ also (fits t k) (λ _. splits_into (pieces - 1) false (without t k)) → b || d ≡ splits_into pieces false t
  step b d p q = splits_into_step pieces false t k false b d h e l refl p q

  -- three of the lowest kind
  pub groups_three : (r : Bool) → 3 ≤ get_or t k 0 → r ≡ splits_into (pieces - 1) false (without t (34 + k)) → r ≡ splits_into pieces false t
  groups_three r g p =
      let d = also (fits t k) (λ _. splits_into (pieces - 1) false (without t k)) in
      go r d refl refl ∙ step r d (also_with _ (pieces - 1) false (without t (34 + k)) (without t (34 + k)) r (fits_three t k l g) p refl) refl
    where
      so : also (fits t k) (λ _. splits_into (pieces - 1) false (without t k)) ≡ true → r ≡ true
      so q =
          let w = also_of (fits t k) _ q in
          p ∙ splits_into_complete (pieces - 1) false (without t (34 + k)) (without_long t (34 + k) long)
          (triplet_first (pieces - 1) k t l (λ i z. lowest_below t 34 0 i (omega arith) (rw (← e) z)) g w.0
          (splits_into_sound (pieces - 1) false (without t k) (without_long t k long) w.1))

      go : (b d : Bool) → r ≡ b → also (fits t k) (λ _. splits_into (pieces - 1) false (without t k)) ≡ d → r ≡ r || d
      go true d x y = x ∙ rw x
      go false true x y = absurd (false≢true (sym x ∙ so y))
      go false false x y = x ∙ rw x

  -- fewer, and a run
  pub groups_run : (r : Bool) → get_or t k 0 < 3 → fits t k ≡ true → r ≡ splits_into (pieces - 1) false (without t k) → r ≡ splits_into pieces false t
  groups_run r g f p =
      step false r (also_none _ (λ _. splits_into (pieces - 1) false (without t (34 + k))) (fits_no_three t k g))
      (also_with _ (pieces - 1) false (without t k) (without t k) r f p refl)

  -- fewer, and no run
  pub groups_none : get_or t k 0 < 3 → fits t k ≡ false → false ≡ splits_into pieces false t
  groups_none g f =
      step false false (also_none _ (λ _. splits_into (pieces - 1) false (without t (34 + k))) (fits_no_three t k g))
      (also_none _ (λ _. splits_into (pieces - 1) false (without t k)) f)

-- ---- with a pair to come
pub pair_found : (n k : ℕ) (t : List ℕ) → length t ≡ 34 → 2 ≤ get_or t k 0 → splits_into n false (less t k 2) ≡ true → splits_into (suc n) true t ≡ true
pair_found n k t l h e = splits_into_complete (suc n) true t l (add_pair n k t h (splits_into_sound n false (less t k 2) (less_long t k 2 l) e))

-- no kind of those that can be the pair leaves groups
pub pair_none : (n first last : ℕ) (t : List ℕ) → length t ≡ 34 → OnlyPairs t first last
    → ((k : ℕ) → Among first last k → 2 ≤ get_or t k 0 → splits_into n false (less t k 2) ≡ false) → splits_into (suc n) true t ≡ false
pair_none n first last t l only h = go (splits_into (suc n) true t) refl
  where
    go : (b : Bool) → splits_into (suc n) true t ≡ b → splits_into (suc n) true t ≡ false
    go true e =
        let s = splits_into_sound (suc n) true t l e in
        let k = s.pair in
        let a = only k s.groups (record { codes = s.codes; tiles = s.tiles }) in
        let w = without_two n k t s refl in
        absurd (false≢true (sym (h k a w.0) ∙ splits_into_complete n false (less t k 2) (less_long t k 2 l) w.1))
    go false e = e

-- one kind more is tried
pub tried_more : (n first last k : ℕ) (t : List ℕ) → k % 3 ≡ first % 3
    → ((j : ℕ) → Among first last j → j < k → 2 ≤ get_or t j 0 → splits_into n false (less t j 2) ≡ false)
    → (2 ≤ get_or t k 0 → splits_into n false (less t k 2) ≡ false)
    → (j : ℕ) → Among first last j → j < k + 3 → 2 ≤ get_or t j 0 → splits_into n false (less t j 2) ≡ false
tried_more n first last k t m h o j a l g = go (ltb j k) refl
  where
    go : (b : Bool) → ltb j k ≡ b → splits_into n false (less t j 2) ≡ false
    go true e = h j a (ltb-true j k e) g
    go false e =
        let u = ltb-false j k e in
        let q : j ≡ k = omega (arith, a.2) in
        rw q (o (rw q at g))
