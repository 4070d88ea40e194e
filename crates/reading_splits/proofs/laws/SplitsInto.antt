-- The test `splits_into` holds of a tally exactly where it splits into a pair and groups.
use Rattle.std.specs.Prelude.{◌≡◌, refl, Bool, true, ◌&&◌, ◌||◌, not, cond, ◌⊎◌, ◌↔◌, List, [], ◌∷◌, ltb, eqb, length, get_or}
use Rattle.std.proofs.Common.{ap, ◌∙◌, subst, inl, inr, eq-or-lt_of_le, add-one, arith, lt-ltb, le-ltb, le-leb, ne_eqb, leb-true, ltb-true, ltb-false, eqb-true}
use Rattle.std.proofs.Math.Bool.{false}
use Rattle.std.proofs.lemmas.Bool.{false≢true, eqb-false}
use Rattle.std.proofs.Math.Logic.{⊎_elim}
use Prim.Native.Nat.{ℕ, zero, suc, ◌+◌, ◌-◌, ◌≤◌, ◌<◌}
use Rattle.std.proofs.Math.Dec.{leb}
use Rattle.tiles.specs.Groups.{is_group, at_kind, uses}
use Rattle.tiles.proofs.laws.Below.{and_true}
use Rattle.reading.specs.Reading.{used_by}
use Rattle.reading.specs.All.{Each, none, also as each}
use Rattle.reading.specs.search.Readings.{is_empty, less, fits, without, NoneFrom}
use Rattle.reading.proofs.laws.Groups.{run_or, fits_group, fits_of, without_at, without_long, less_at, less_long, at_same, at_other, get_d_pos, empty_at}
use Rattle.reading.proofs.laws.Groups.{empty_of}
use Rattle.reading_splits.specs.Splits.{Splits}
use Rattle.reading_splits.specs.search.SplitsInto.{also, lowest, piece_at, splits_into}

-- f k tiles of kind k are so many parts: groups, and a pair where one is to come
pub record SplitsInto (pieces : ℕ) (two : Bool) (f : ℕ → ℕ) : Type 0 where
  pub pair : ℕ
  pub groups : List ℕ
  pub number : length groups + cond two 1 0 ≡ pieces
  pub codes : Each (λ g. is_group g ≡ true) groups
  pub tiles : (k : ℕ) → f k ≡ cond two (at_kind pair 2 k) 0 + used_by groups k

-- ---- tests
pub also_of : (b : Bool) (f : Unit {0} → Bool) → also b f ≡ true → (b ≡ true) × (f tt ≡ true)
also_of true f e = (refl, e)
also_of false f e = absurd (false≢true e)

of_also : (b : Bool) (f : Unit {0} → Bool) → b ≡ true → f tt ≡ true → also b f ≡ true
of_also b f e h = rw e h

or_true : {P : Type 0} (a b : Bool) → a || b ≡ true → (a ≡ true → P) → (b ≡ true → P) → P
or_true true b e f g = f refl
or_true false b e f g = g e

or_left : (a b c : Bool) → a ≡ true → a || b || c ≡ true
or_left a b c e = rw e

or_mid : (a b c : Bool) → b ≡ true → a || b || c ≡ true
or_mid true b c e = refl
or_mid false b c e = rw e

or_right : (a b c : Bool) → c ≡ true → a || b || c ≡ true
or_right true true c e = refl
or_right true false c e = refl
or_right false true c e = refl
or_right false false c e = e

-- ---- the lowest kind

-- a test of a kind: none is held, or some
pub none_or : {P : Type 0} (n : ℕ) → (n ≡ 0 → P) → (0 < n → P) → P
none_or zero f g = f refl
none_or (suc n) f g = g (omega arith)

module _ (t : List ℕ) (j k : ℕ) where
  lowest_next : get_or t k 0 ≡ 0 → lowest (suc j) k t ≡ lowest j (k + 1) t
  unfolding lowest
  lowest_next e = rw e

  lowest_here : 0 < get_or t k 0 → lowest (suc j) k t ≡ k
  unfolding lowest
  lowest_here h = rw (ne_eqb (get_or t k 0) 0 (omega arith))

-- a loop through the kinds: found, past a kind, through
pub lowest_found : (t : List ℕ) (k : ℕ) → k < 34 → (get_or t k 0 ≡ 0 → ⊥) → k ≡ lowest (34 - k) k t
lowest_found t k h e = let s : 34 - k ≡ suc (34 - (k + 1)) = omega arith in rw (s, lowest_here t (34 - (k + 1)) k (omega arith))

pub lowest_turn : (t : List ℕ) (k : ℕ) → k < 34 → get_or t k 0 ≡ 0 → lowest (34 - (k + 1)) (k + 1) t ≡ lowest (34 - k) k t
lowest_turn t k h e = let s : 34 - k ≡ suc (34 - (k + 1)) = omega arith in rw (s, lowest_next t (34 - (k + 1)) k e)

-- past kinds that t has no tile of
pub lowest_past : (t : List ℕ) (from k : ℕ) → from ≤ k → k ≤ 34 → NoneFrom t from k → lowest (34 - k) k t ≡ lowest (34 - from) from t
lowest_past t from k l h absent = go (k - from) from (omega arith) absent
  where
    go : (d i : ℕ) → i + d ≡ k → NoneFrom t i k → lowest (34 - k) k t ≡ lowest (34 - i) i t
    go zero i e z = let q : k ≡ i = omega arith in ap (λ (j : ℕ). lowest (34 - j) j t) q
    go (suc d) i e z = go d (i + 1) (omega arith) (λ j u v. z j (omega arith) v) ∙ lowest_turn t i (omega arith) (z i (omega arith) (omega arith))

-- the first kind with a tile is the lowest, where that is not below `from`
pub lowest_is : (t : List ℕ) (from k : ℕ) → from ≤ k → k < 34 → (get_or t k 0 ≡ 0 → ⊥) → NoneFrom t from k → lowest (34 - from) from t ≡ lowest 34 0 t
    → k ≡ lowest 34 0 t
lowest_is t from k l h e absent q = lowest_found t k h e ∙ lowest_past t from k l (omega arith) absent ∙ q

pub lowest_none : (t : List ℕ) (k : ℕ) → 34 ≤ k → k ≡ lowest (34 - k) k t
unfolding lowest
lowest_none t k h = let s : 34 - k ≡ 0 = omega arith in rw s

module _ (t : List ℕ) where
  -- none below it is held
  pub lowest_below : (j k i : ℕ) → k ≤ i → i < lowest j k t → get_or t i 0 ≡ 0
  unfolding lowest
  lowest_below zero k i h l = absurd (omega arith)
  lowest_below (suc j) k i h l =
      none_or (get_or t k 0)
      (λ e. ⊎_elim (λ (z : k ≡ i). rw (← z) e) (λ (z : k < i). lowest_below j (k + 1) i (omega arith) (rw (lowest_next t j k e) at l)) (eq-or-lt_of_le h))
      (λ p. let q = rw (lowest_here t j k p) at l in absurd (omega arith))

  -- where a kind is held, it is not past that, and is held
  lowest_held : (j k i : ℕ) → k ≤ i → i < k + j → 0 < get_or t i 0 → (lowest j k t ≤ i) × (0 < get_or t (lowest j k t) 0)
  unfolding lowest
  lowest_held zero k i h l p = absurd (omega arith)
  lowest_held (suc j) k i h l p =
      none_or (get_or t k 0)
      (λ e. rw (lowest_next t j k e) (⊎_elim (λ (z : k ≡ i). absurd (omega (arith, rw z at e)))
      (λ (z : k < i). lowest_held j (k + 1) i (omega arith) (omega arith) p) (eq-or-lt_of_le h)))
      (λ q. rw (lowest_here t j k q) (h, q))

  -- from a kind with none below it on
  pub lowest_from : (k : ℕ) → k ≤ 34 → ((i : ℕ) → i < k → get_or t i 0 ≡ 0) → lowest (34 - k) k t ≡ lowest 34 0 t
  lowest_from zero h z = refl
  lowest_from (suc k) h z = rw (← add-one k) (lowest_turn t k h (z k (omega arith))) ∙ lowest_from k (omega arith) (λ i g. z i (omega arith))

-- so it is once tiles are taken away, from the lowest on
module _ (t u : List ℕ) (k : ℕ) (e : k ≡ lowest 34 0 t) (h : k ≤ 34) where
  fewer_from : ((i : ℕ) → get_or u i 0 ≤ get_or t i 0) → lowest (34 - k) k u ≡ lowest 34 0 u
  fewer_from l = lowest_from u k h (λ i g. omega (arith, l i, lowest_below t 34 0 i (omega arith) (rw (← e) g)))

  pub without_from : (c : ℕ) → u ≡ without t c → fits t c ≡ true → lowest (34 - k) k u ≡ lowest 34 0 u
  without_from c q f = fewer_from (λ i. rw q (omega (arith, without_at t c f i)))

-- ---- each tally that passes the test is parts
pub add_pair : (n k : ℕ) (t : List ℕ) → 2 ≤ get_or t k 0 → SplitsInto n false (λ i. get_or (less t k 2) i 0) → SplitsInto (suc n) true (λ i. get_or t i 0)
add_pair n k t h s =
    record {
      pair = k;
      groups = s.groups;
      number = omega (arith, s.number);
      codes = s.codes;
      tiles = λ i. omega (arith, less_at t k 2 (omega arith) h i, s.tiles i);
    }

add_group : (n c : ℕ) (two : Bool) (t : List ℕ) → fits t c ≡ true → SplitsInto n two (λ i. get_or (without t c) i 0) → SplitsInto (suc n) two (λ i. get_or t i 0)
unfolding used_by
add_group n c two t h s =
    record {
      pair = s.pair;
      groups = c ∷ s.groups;
      number = omega (arith, s.number);
      codes = each (fits_group t c h) s.codes;
      tiles = λ i. omega (arith, without_at t c h i, s.tiles i);
    }

-- the part that a test found
part_case : {P : Type 0} (rest : Bool → List ℕ → Bool) (two : Bool) (k : ℕ) (t : List ℕ) → piece_at rest two k t ≡ true
    → (two ≡ true → 2 ≤ get_or t k 0 → rest false (less t k 2) ≡ true → P)
    → ((c : ℕ) → fits t c ≡ true → rest two (without t c) ≡ true → P) → P
unfolding piece_at
part_case rest two k t e f g =
    let x = also (two && leb 2 (get_or t k 0)) (λ _. rest false (less t k 2)) in
    let y = also (fits t (34 + k)) (λ _. rest two (without t (34 + k))) in
    let z = also (fits t k) (λ _. rest two (without t k)) in
    or_true (x || y) z e
    (λ q. or_true x y q
    (λ q.
    let a = also_of (two && leb 2 (get_or t k 0)) _ q in
    let b = and_true two (leb 2 (get_or t k 0)) a.0 in
    f b.0 (leb-true 2 _ b.1) a.1)
    (λ q. let a = also_of (fits t (34 + k)) _ q in g (34 + k) a.0 a.1))
    (λ q. let a = also_of (fits t k) _ q in g k a.0 a.1)

pub splits_into_sound : (n : ℕ) (two : Bool) (t : List ℕ) → length t ≡ 34 → splits_into n two t ≡ true → SplitsInto n two (λ k. get_or t k 0)
unfolding splits_into used_by
splits_into_sound zero true t l e = absurd (false≢true e)
splits_into_sound zero false t l e = record { pair = 0; groups = []; number = refl; codes = none; tiles = empty_at t l e }
splits_into_sound (suc n) two t l e =
    part_case (splits_into n) two (lowest 34 0 t) t (also_of (ltb (lowest 34 0 t) 34) _ e).1
    (λ b h q. rw b (add_pair n (lowest 34 0 t) t h (splits_into_sound n false (less t (lowest 34 0 t) 2) (less_long t (lowest 34 0 t) 2 l) q)))
    (λ c h q. add_group n c two t h (splits_into_sound n two (without t c) (without_long t c l) q))

-- ---- each tally that is parts passes the test

-- a group of a list that has a tile of the kind k, and the others
pub record Taken (gs : List ℕ) (k : ℕ) : Type 0 where
  pub code : ℕ
  pub others : List ℕ
  pub number : length gs ≡ suc (length others)
  pub group : is_group code ≡ true
  pub codes : Each (λ g. is_group g ≡ true) others
  pub tiles : (i : ℕ) → used_by gs i ≡ uses code i + used_by others i
  pub has : 0 < uses code k

pub take_group : (gs : List ℕ) (k : ℕ) → Each (λ g. is_group g ≡ true) gs → 0 < used_by gs k → Taken gs k
unfolding used_by
take_group [] k o h = absurd (omega arith)
take_group (g ∷ gs) k (each p o) h =
    none_or (uses g k)
    (λ z.
    let r = take_group gs k o (omega arith) in
    record {
      code = r.code;
      others = g ∷ r.others;
      number = omega (arith, r.number);
      group = r.group;
      codes = each p r.codes;
      tiles = λ i. omega (arith, r.tiles i);
      has = r.has;
    })
    (λ q. record { code = g; others = gs; number = refl; group = p; codes = o; tiles = λ i. refl; has = q })

-- a group that has a tile of the kind k, and none below, is k's triplet or the run from k
pub lowest_code : (c k : ℕ) → 0 < uses c k → ((i : ℕ) → i < k → uses c i ≡ 0) → (c ≡ 34 + k) ⊎ (c ≡ k)
unfolding uses
lowest_code c k h z =
    run_or c
    (λ r. inr (run r (rw (lt-ltb c 34 r) at h) (λ q. rw (lt-ltb c 34 r) at (z c q))))
    (λ r. inl (three r (rw (le-ltb c 34 r) at h)))
  where
    run : c < 34 → 0 < at_kind c 1 k + at_kind (c + 1) 1 k + at_kind (c + 2) 1 k → (c < k → at_kind c 1 c + at_kind (c + 1) 1 c + at_kind (c + 2) 1 c ≡ 0) → c ≡ k
    run r p q = same (eqb c k) refl
      where
        same : (b : Bool) → eqb c k ≡ b → c ≡ k
        same true e = eqb-true c k e
        same false e =
            let n : c ≡ k → ⊥ = eqb-false c k e in
            below (ltb c k) refl n
          where
            below : (b : Bool) → ltb c k ≡ b → (c ≡ k → ⊥) → c ≡ k
            below true e n = absurd (omega (arith, q (ltb-true c k e), at_same c 1))
            below false e n =
                let g : k ≤ c = ltb-false c k e in
                absurd (omega (arith, at_other c 1 k n, at_other (c + 1) 1 k (omega arith), at_other (c + 2) 1 k (omega arith)))

    three : 34 ≤ c → 0 < at_kind (c - 34) 3 k → c ≡ 34 + k
    three r p = same (eqb (c - 34) k) refl
      where
        same : (b : Bool) → eqb (c - 34) k ≡ b → c ≡ 34 + k
        same true e = let w : c - 34 ≡ k = eqb-true _ _ e in omega arith
        same false e = absurd (omega (arith, at_other (c - 34) 3 k (eqb-false _ _ e)))

-- a group has a tile
some_tile : (c : ℕ) → (k : ℕ) × (0 < uses c k)
unfolding uses
some_tile c =
    run_or c
    (λ r. (c, rw (lt-ltb c 34 r) (omega (arith, at_same c 1))))
    (λ r. (c - 34, rw (le-ltb c 34 r) (omega (arith, at_same (c - 34) 3))))

-- so have parts
some_held : (n : ℕ) (two : Bool) (f : ℕ → ℕ) → SplitsInto (suc n) two f → (k : ℕ) × (0 < f k)
unfolding used_by
some_held n true f s = (s.pair, omega (arith, s.tiles s.pair, at_same s.pair 2))
some_held n false f s = go s.groups s.number s.tiles
  where
    go : (gs : List ℕ) → length gs + 0 ≡ suc n → ((k : ℕ) → f k ≡ 0 + used_by gs k) → (k : ℕ) × (0 < f k)
    go [] e h = absurd (omega arith)
    go (g ∷ gs) e h = let w = some_tile g in (w.0, omega (arith, w.1, h w.0))

-- the pair is of the kind k, where one is to come and no group has the kind
take_pair : (n : ℕ) (two : Bool) (t : List ℕ) (k : ℕ) (s : SplitsInto (suc n) two (λ i. get_or t i 0)) → 0 < get_or t k 0 → used_by s.groups k ≡ 0
    → (two ≡ true) × (s.pair ≡ k)
take_pair n false t k s p z = absurd (omega (arith, s.tiles k))
take_pair n true t k s p z = (refl, go (eqb s.pair k) refl)
  where
    go : (b : Bool) → eqb s.pair k ≡ b → s.pair ≡ k
    go true e = eqb-true _ _ e
    go false e = absurd (omega (arith, s.tiles k, at_other s.pair 2 k (eqb-false _ _ e)))

without_part : (n c : ℕ) (two : Bool) (t : List ℕ) (k : ℕ) (s : SplitsInto (suc n) two (λ i. get_or t i 0)) (r : Taken s.groups k) → r.code ≡ c
    → (fits t c ≡ true) × SplitsInto n two (λ i. get_or (without t c) i 0)
without_part n c two t k s r e =
    let f : fits t c ≡ true = subst (λ (x : ℕ). fits t x ≡ true) e (fits_of t r.code r.group (λ i. omega (arith, s.tiles i, r.tiles i))) in (
      f,
      record {
        pair = s.pair;
        groups = r.others;
        number = omega (arith, s.number, r.number);
        codes = r.codes;
        tiles = λ i. let u : uses r.code i ≡ uses c i = ap (λ (x : ℕ). uses x i) e in omega (arith, s.tiles i, r.tiles i, without_at t c f i);
      },
    )

pub without_two : (n k : ℕ) (t : List ℕ) (s : SplitsInto (suc n) true (λ i. get_or t i 0)) → s.pair ≡ k → (2 ≤ get_or t k 0) × SplitsInto n false (λ i. get_or
    (less t k 2) i 0)
without_two n k t s e =
    let u : (i : ℕ) → at_kind s.pair 2 i ≡ at_kind k 2 i = λ i. ap (λ (x : ℕ). at_kind x 2 i) e in
    let h : 2 ≤ get_or t k 0 = omega (arith, s.tiles k, u k, at_same k 2) in (
      h,
      record {
        pair = 0;
        groups = s.groups;
        number = omega (arith, s.number);
        codes = s.codes;
        tiles = λ i. omega (arith, s.tiles i, u i, less_at t k 2 (omega arith) h i);
      },
    )

module _ (n : ℕ) (rest : (two : Bool) (t : List ℕ) → length t ≡ 34 → SplitsInto n two (λ k. get_or t k 0) → splits_into n two t ≡ true) where
  complete_pair : (two : Bool) (t : List ℕ) (k : ℕ) → length t ≡ 34 → (s : SplitsInto (suc n) two (λ i. get_or t i 0)) → two ≡ true → s.pair ≡ k
      → also (two && leb 2 (get_or t k 0)) (λ _. splits_into n false (less t k 2)) ≡ true
  complete_pair false t k l s q e = absurd (false≢true q)
  complete_pair true t k l s q e =
      let w = without_two n k t s e in
      of_also (leb 2 (get_or t k 0)) _ (le-leb 2 _ w.0) (rest false (less t k 2) (less_long t k 2 l) w.1)

  complete_group : (c : ℕ) (two : Bool) (t : List ℕ) (k : ℕ) → length t ≡ 34 → (s : SplitsInto (suc n) two (λ i. get_or t i 0)) (r : Taken s.groups k)
      → r.code ≡ c → also (fits t c) (λ _. splits_into n two (without t c)) ≡ true
  complete_group c two t k l s r e =
      let w = without_part n c two t k s r e in
      of_also (fits t c) _ w.0 (rest two (without t c) (without_long t c l) w.1)

  complete_part : (two : Bool) (t : List ℕ) (k : ℕ) → length t ≡ 34 → SplitsInto (suc n) two (λ i. get_or t i 0) → 0 < get_or t k 0
      → ((i : ℕ) → i < k → get_or t i 0 ≡ 0) → piece_at (splits_into n) two k t ≡ true
  unfolding piece_at
  complete_part two t k l s p z =
      let x = also (two && leb 2 (get_or t k 0)) (λ _. splits_into n false (less t k 2)) in
      let y = also (fits t (34 + k)) (λ _. splits_into n two (without t (34 + k))) in
      let w = also (fits t k) (λ _. splits_into n two (without t k)) in
      none_or (used_by s.groups k)
      (λ e. let q = take_pair n two t k s p e in or_left x y w (complete_pair two t k l s q.0 q.1))
      (λ h.
      let r = take_group s.groups k s.codes h in
      ⊎_elim
      (λ q. or_mid x y w (complete_group (34 + k) two t k l s r q))
      (λ q. or_right x y w (complete_group k two t k l s r q))
      (lowest_code r.code k r.has (λ i g. omega (arith, z i g, s.tiles i, r.tiles i))))

pub splits_into_complete : (n : ℕ) (two : Bool) (t : List ℕ) → length t ≡ 34 → SplitsInto n two (λ k. get_or t k 0) → splits_into n two t ≡ true
unfolding splits_into used_by
splits_into_complete zero true t l s = absurd (omega (arith, s.number))
splits_into_complete zero false t l s = go s.groups s.number s.tiles
  where
    go : (gs : List ℕ) → length gs + 0 ≡ 0 → ((k : ℕ) → get_or t k 0 ≡ 0 + used_by gs k) → is_empty t ≡ true
    go [] e h = empty_of t (λ k. omega (arith, h k))
    go (g ∷ gs) e h = absurd (omega arith)
splits_into_complete (suc n) two t l s =
    let w = some_held n two (λ k. get_or t k 0) s in
    let i = get_d_pos t w.0 w.1 in
    let k = lowest_held t 34 0 w.0 (omega arith) (omega arith) w.1 in
    of_also (ltb (lowest 34 0 t) 34) _ (lt-ltb (lowest 34 0 t) 34 (omega arith))
    (complete_part n (splits_into_complete n) two t (lowest 34 0 t) l s k.1 (λ j g. lowest_below t 34 0 j (omega arith) g))

-- ---- with a pair to come these are the splittings of the paper
pub splits_exactly : (n : ℕ) (t : List ℕ) → length t ≡ 34 → (splits_into (suc n) true t ≡ true) ↔ Splits n (λ k. get_or t k 0)
splits_exactly n t l = (
  λ e.
      let s = splits_into_sound (suc n) true t l e in
      record { pair = s.pair; groups = s.groups; number = omega (arith, s.number); codes = s.codes; tiles = s.tiles },
  λ s.
      splits_into_complete (suc n) true t l (record {
        pair = s.pair;
        groups = s.groups;
        number = omega
            (arith, s.number);
        codes = s.codes;
        tiles = s.tiles;
      }),
)

-- what the code gives, where that is the test
pub splits_test : (n m : ℕ) (t : List ℕ) (r : Bool) → length t ≡ 34 → m ≡ suc n → r ≡ splits_into m true t
    → ((r ≡ true) ↔ Splits n (λ k. get_or t k 0)) × (r ≡ splits_into (suc n) true t)
splits_test n m t r l q e =
    let d : r ≡ splits_into (suc n) true t = rw (← q) e in
    (rw d (splits_exactly n t l), d)

-- ---- the test step by step: no part is left, no tile is there, the lowest tile in each part that can have it
pub also_with : (b : Bool) (n : ℕ) (two : Bool) (u v : List ℕ) (x : Bool) → b ≡ true → x ≡ splits_into n two u → u ≡ v → x ≡ also b (λ _. splits_into n two v)
also_with b n two u v x e h q = rw (e, ← q) h

pub also_none : (b : Bool) (f : Unit {0} → Bool) → b ≡ false → false ≡ also b f
also_none b f e = rw e

pub splits_into_none : (pieces : ℕ) (two : Bool) (t : List ℕ) → pieces ≡ 0 → not two && is_empty t ≡ splits_into pieces two t
unfolding splits_into
splits_into_none pieces two t z = rw z

pub splits_into_over : (pieces : ℕ) (two : Bool) (t : List ℕ) → (pieces ≡ 0 → ⊥) → 34 ≤ lowest 34 0 t → false ≡ splits_into pieces two t
unfolding splits_into
splits_into_over zero two t h l = absurd (h refl)
splits_into_over (suc n) two t h l = rw (le-ltb (lowest 34 0 t) 34 l)

pub splits_into_step : (pieces : ℕ) (two : Bool) (t : List ℕ) (k : ℕ) (a b d : Bool) → (pieces ≡ 0 → ⊥) → k ≡ lowest 34 0 t → k < 34
    → a ≡ also (two && leb 2 (get_or t k 0)) (λ _. splits_into (pieces - 1) false (less t k 2))
    → b ≡ also (fits t (34 + k)) (λ _. splits_into (pieces - 1) two (without t (34 + k)))
    → d ≡ also (fits t k) (λ _. splits_into (pieces - 1) two (without t k)) → a || b || d ≡ splits_into pieces two t
unfolding splits_into piece_at
splits_into_step zero two t k a b d h e l p q r = absurd (h refl)
splits_into_step (suc n) two t k a b d h e l p q r =
    let z : suc n - 1 ≡ n = omega arith in
    rw (p, q, r, z, ← e, lt-ltb k 34 l)
