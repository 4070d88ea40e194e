-- A numeral has at most 13 clips: a digit at most one, and a clip 0 stands only for a digit 0.
use Rattle.std.specs.Prelude.{◌≡◌, refl, Bool, false, ◌&&◌, cond, [], ◌∷◌, ◌++◌, ℕ, ◌+◌, ◌/◌, ◌%◌, ◌≤◌, ◌<◌, ltb, length}
use Rattle.std.proofs.Math.Bool.{true}
use Rattle.std.proofs.Common.{arith, eqb-true, ltb-true, le-ltb}
use Rattle.std.proofs.lemmas.Bool.{eqb-false}
use Rattle.std.proofs.Math.Dec.{eqb}
use Rattle.std.proofs.Math.ListN.{length-append}
use Rattle.tiles.proofs.laws.Below.{and_true}
use Rattle.speech_numerals.proofs.laws.Heard.{third}
use Rattle.speech_numerals.specs.Numerals.{place_of, under_hundred, three_of, scaled_three, english_of, is_gap, thousands_of, hundreds_of, tens_of, ones_of}
use Rattle.speech_numerals.specs.Numerals.{four_of, scaled_four, eastern_of, numeral}

-- ---- a place

place_none : (gap : Bool) (clip d : ℕ) → d ≡ 0 → length (place_of gap clip d) ≡ 0
unfolding place_of
place_none gap clip d e = rw e

pub place_short : (gap : Bool) (clip d : ℕ) → length (place_of gap clip d) ≤ 2
unfolding place_of
place_short gap clip d = go (eqb d 0) gap
  where
    go : (b g : Bool) → length (cond b [] (cond g (0 ∷ []) [] ++ (clip ∷ []))) ≤ 2
    go true g = omega arith
    go false true = omega arith
    go false false = omega arith

-- one clip where there is no gap
place_one : (gap : Bool) (clip d : ℕ) → (gap ≡ true → ⊥) → length (place_of gap clip d) ≤ 1
unfolding place_of
place_one gap clip d n = go (eqb d 0) gap n
  where
    go : (b g : Bool) → (g ≡ true → ⊥) → length (cond b [] (cond g (0 ∷ []) [] ++ (clip ∷ []))) ≤ 1
    go true g n = omega arith
    go false true n = absurd (n refl)
    go false false n = omega arith

-- s clips for k places, one fewer where the last digit, c, is 0; and the next place
record Within (c s k : ℕ) : Type 0 where
  most : s ≤ k
  less : c ≡ 0 → s + 1 ≤ k

within_next : (c s k : ℕ) (gap : Bool) (clip d : ℕ) → Within c s k → (gap ≡ true → c ≡ 0) → Within d (s + length (place_of gap clip d)) (k + 1)
within_next c s k gap clip d w f = record { most = go gap refl; less = λ z. omega (arith, place_none gap clip d z, w.most) }
  where
    go : (g : Bool) → gap ≡ g → s + length (place_of gap clip d) ≤ k + 1
    go true e = omega (arith, place_short gap clip d, w.less (f e))
    go false e = omega (arith, place_one gap clip d (λ t. let z : ◌≡◌ {A = ℕ} 0 1 = cc in omega arith), w.most)

-- a gap: the test of the digits above
gap_test : (l above : ℕ) (t : Bool) → is_gap l above t ≡ true → (0 < above) × (t ≡ true)
gap_test l above t e =
    (ltb-true 0 above (and_true (ltb 0 above) t (and_true (eqb l 4) (ltb 0 above && t) e).1).0, third (eqb l 4) (ltb 0 above) t e)

gap_ten : (l x : ℕ) → is_gap l (x / 10) (eqb (x / 10 % 10) 0) ≡ true → (0 < x / 10) × (x / 10 % 10 ≡ 0)
gap_ten l x e =
    let r = gap_test l (x / 10) (eqb (x / 10 % 10) 0) e in
    (r.0, eqb-true (x / 10 % 10) 0 r.1)

-- ---- a group of four

module _ (l : ℕ) (scaled : Bool) (x : ℕ) where
  abbrev th : ℕ
  th = length (thousands_of l scaled x)

  abbrev hu : ℕ
  hu = length (hundreds_of l (x / 100))

  abbrev te : ℕ
  te = length (tens_of l (x / 10))

  abbrev un : ℕ
  un = length (ones_of l scaled x)

  four_parts : length (four_of l scaled x) ≡ th + (hu + (te + un))
  unfolding four_of
  four_parts = rw (length-append, length-append, length-append)

  -- from the thousands on
  after : (j : ℕ) → th ≤ 1 + j → (x / 1000 % 10 ≡ 0 → th ≡ 0) → length (four_of l scaled x) ≤ 4 + j
  unfolding hundreds_of tens_of ones_of
  after j h z =
      let a : Within (x / 1000 % 10) th (1 + j) = record { most = h; less = λ e. omega (arith, z e) } in
      let b : Within (x / 100 % 10) (th + hu) (1 + j + 1) =
      within_next (x / 1000 % 10) th (1 + j) _ _ (x / 100 % 10) a (λ e. omega (arith, (gap_ten l (x / 100) e).1)) in
      let c : Within (x / 10 % 10) (th + hu + te) (1 + j + 1 + 1) =
      within_next (x / 100 % 10) (th + hu) (1 + j + 1) _ _ (x / 10 % 10) b (λ e. omega (arith, (gap_ten l (x / 10) e).1)) in
      let d : Within (x % 10) (th + hu + te + un) (1 + j + 1 + 1 + 1) =
      within_next (x / 10 % 10) (th + hu + te) (1 + j + 1 + 1) _ _ (x % 10) c (λ e. (gap_ten l x e).1) in
      omega (arith, d.most, four_parts)

  thousands_none : x / 1000 % 10 ≡ 0 → th ≡ 0
  unfolding thousands_of
  thousands_none = place_none _ _ (x / 1000 % 10)

  -- at most five clips, and four where the group above is not 0 or nothing stands above
  four_short : length (four_of l scaled x) ≤ 5
  unfolding thousands_of
  four_short = after 1 (place_short _ _ (x / 1000 % 10)) thousands_none

  four_plain : (0 < x / 10000 → x / 10000 % 10000 ≡ 0 → ⊥) → length (four_of l scaled x) ≤ 4
  unfolding thousands_of
  four_plain n =
      let m : is_gap l (x / 10000) (eqb (x / 10000 % 10000) 0) ≡ true → ⊥ =
      λ e. let r = gap_test l (x / 10000) (eqb (x / 10000 % 10000) 0) e in n r.0 (eqb-true (x / 10000 % 10000) 0 r.1) in
      after 0 (place_one _ _ (x / 1000 % 10) m) thousands_none

  -- two below a hundred
  four_two : x < 100 → length (four_of l scaled x) ≤ 2
  unfolding thousands_of hundreds_of tens_of ones_of
  four_two h =
      let a = place_none (is_gap l (x / 10000) (eqb (x / 10000 % 10000) 0)) (cond (eqb l 1 && (scaled && eqb (x % 10000) 1000)) 39 (27 + x / 1000 % 10))
      (x / 1000 % 10) (omega arith) in
      let b = place_none (is_gap l (x / 100 / 10) (eqb (x / 100 / 10 % 10) 0)) (18 + x / 100 % 10) (x / 100 % 10) (omega arith) in
      let c : te ≤ 1 = place_one _ _ (x / 10 % 10) (λ e. omega (arith, (gap_ten l (x / 10) e).0)) in
      let d : un ≤ 1 = place_one _ _ (x % 10) (λ e. omega (arith, (gap_ten l x e).0, (gap_ten l x e).1)) in
      omega (arith, a, b, c, d, four_parts)

scaled_short : (l c x k : ℕ) → length (four_of l true x) ≤ k → length (scaled_four l c x) ≤ k + 1
unfolding scaled_four
scaled_short l c x k h = go (eqb (x % 10000) 0) (eqb l 3 && (eqb c 37 && eqb x 1))
  where
    go : (b t : Bool) → length (cond b [] (cond t [] (four_of l true x) ++ (c ∷ []))) ≤ k + 1
    go true t = omega arith
    go false true = omega arith
    go false false = rw length-append (omega arith)

scaled_none : (l c x : ℕ) → x % 10000 ≡ 0 → length (scaled_four l c x) ≡ 0
unfolding scaled_four
scaled_none l c x e = rw e

pub eastern_short : (l n : ℕ) → n < 4294967296 → length (eastern_of l n) ≤ 12
unfolding eastern_of
eastern_short l n h = rw (length-append, length-append) (go (eqb (n / 10000 % 10000) 0) refl)
  where
    high : length (scaled_four l 38 (n / 100000000)) ≤ 3
    high = scaled_short l 38 (n / 100000000) 2 (four_two l true (n / 100000000) (omega arith))

    middle : length (scaled_four l 37 (n / 10000)) ≤ 5
    middle = scaled_short l 37 (n / 10000) 4 (four_plain l true (n / 10000) (λ a z. omega arith))

    go : (b : Bool) → eqb (n / 10000 % 10000) 0 ≡ b
        → length (scaled_four l 38 (n / 100000000)) + (length (scaled_four l 37 (n / 10000)) + length (four_of l false n)) ≤ 12
    go true e = omega (arith, high, scaled_none l 37 (n / 10000) (eqb-true (n / 10000 % 10000) 0 e), four_short l false n)
    go false e = omega (arith, high, middle, four_plain l false n (λ a z. eqb-false (n / 10000 % 10000) 0 e z))

-- ---- English

plain : (clip d : ℕ) → length (place_of false clip d) ≤ 1
plain clip d = place_one false clip d (λ t. let z : ◌≡◌ {A = ℕ} 0 1 = cc in omega arith)

under_short : (t : ℕ) → length (under_hundred t) ≤ 2
unfolding under_hundred
under_short t = go (ltb 10 t && ltb t 20)
  where
    go : (b : Bool) → length (cond b ((31 + t) ∷ []) (place_of false (9 + t / 10) (t / 10) ++ place_of false (t % 10) (t % 10))) ≤ 2
    go true = omega arith
    go false = rw length-append (omega (arith, plain (9 + t / 10) (t / 10), plain (t % 10) (t % 10)))

pub three_short : (g : ℕ) → length (three_of g) ≤ 3
unfolding three_of
three_short g = rw length-append (omega (arith, plain (18 + g / 100) (g / 100), under_short (g % 100)))

three_digit : (g : ℕ) → g < 10 → length (three_of g) ≤ 1
unfolding three_of under_hundred
three_digit g h =
    let a = place_none false (18 + g / 100) (g / 100) (omega arith) in
    let b = place_none false (9 + g % 100 / 10) (g % 100 / 10) (omega arith) in
    let f : ltb 10 (g % 100) ≡ false = le-ltb 10 (g % 100) (omega arith) in
    rw (f, length-append, length-append) (omega (arith, a, b, plain (g % 100 % 10) (g % 100 % 10)))

three_scaled : (c g k : ℕ) → length (three_of g) ≤ k → length (scaled_three c g) ≤ k + 1
unfolding scaled_three
three_scaled c g k h = go (eqb g 0)
  where
    go : (b : Bool) → length (cond b [] (three_of g ++ (c ∷ []))) ≤ k + 1
    go true = omega arith
    go false = rw length-append (omega arith)

pub english_short : (n : ℕ) → n < 4294967296 → length (english_of n) ≤ 13
unfolding english_of
english_short n h =
    rw (length-append, length-append, length-append)
    (omega (
      arith,
      three_scaled 53 (n / 1000000000) 1 (three_digit (n / 1000000000) (omega arith)),
      three_scaled 52 (n / 1000000 % 1000) 3 (three_short (n / 1000000 % 1000)),
      three_scaled 51 (n / 1000 % 1000) 3 (three_short (n / 1000 % 1000)),
      three_short (n % 1000),
    ))

-- ---- a number

pub numeral_short : (l n : ℕ) → n < 4294967296 → length (numeral l n) ≤ 13
unfolding numeral
numeral_short l n h = go (eqb n 0) (eqb l 2)
  where
    go : (b c : Bool) → length (cond b (0 ∷ []) (cond c (english_of n) (eastern_of l n))) ≤ 13
    go true c = omega arith
    go false true = english_short n h
    go false false = omega (arith, eastern_short l n h)
