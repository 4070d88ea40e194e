-- What is heard of the parts of a numeral, put together.
use Rattle.std.specs.Prelude.{◌≡◌, refl, Bool, true, false, ◌&&◌, ◌||◌, cond, List, [], ◌∷◌, ◌++◌, ℕ, ◌+◌, ◌*◌, ◌/◌, ◌%◌, max, ◌<◌, ltb}
use Rattle.std.proofs.Common.{ap, sym, ◌∙◌, append_assoc, append-nil, zero-mul}
use native.Mathlib.Omega.{arith}
use borrow.Author.Tests.{eqb-true, eqb-false, ne_eqb}
use Rattle.std.proofs.Math.Dec.{eqb}
use Rattle.tiles.specs.Below.{all_below}
use Rattle.tiles.proofs.laws.Below.{every_at, and_true}
use Rattle.speech_numerals.specs.Numerals.{place_of, under_hundred, three_of, scaled_three, english_of, thousands_of, hundreds_of, tens_of, ones_of, four_of}
use Rattle.speech_numerals.specs.Numerals.{scaled_four, eastern_of, numeral}
use Rattle.speech_numerals.specs.Heard.{value_of, scale_of, heard_from, heard}

-- ---- clips that add v to what was heard since the last scale, and clips that add v to the whole

record Adds (l : List ℕ) (v : ℕ) : Type 0 where
  adds : (w s : ℕ) (cs : List ℕ) → heard_from w s (l ++ cs) ≡ heard_from w (s + v) cs

record Wholes (l : List ℕ) (v : ℕ) : Type 0 where
  wholes : (w : ℕ) (cs : List ℕ) → heard_from w 0 (l ++ cs) ≡ heard_from (w + v) 0 cs

since : (w : ℕ) (cs : List ℕ) {a b : ℕ} → a ≡ b → heard_from w a cs ≡ heard_from w b cs
since w cs e = ap (λ (k : ℕ). heard_from w k cs) e

whole : (s : ℕ) (cs : List ℕ) {a b : ℕ} → a ≡ b → heard_from a s cs ≡ heard_from b s cs
whole s cs e = ap (λ (k : ℕ). heard_from k s cs) e

adds_none : Adds [] 0
adds_none = record { adds = λ w s cs. let e : s ≡ s + 0 = omega arith in since w cs e }

adds_then : {a b : List ℕ} {u v : ℕ} → Adds a u → Adds b v → Adds (a ++ b) (u + v)
adds_then {a} {b} {u} {v} p q = record {
  adds = λ w s cs.
      let e : s + u + v ≡ s + (u + v) = omega arith in
      ap (heard_from w s) (append_assoc a b cs) ∙ p.adds w s (b ++ cs) ∙ q.adds w (s + u) cs ∙ since w cs e;
}

adds_as : {a : List ℕ} {u v : ℕ} → u ≡ v → Adds a u → Adds a v
adds_as e p = rw e at p

wholes_then : {a b : List ℕ} {u v : ℕ} → Wholes a u → Wholes b v → Wholes (a ++ b) (u + v)
wholes_then {a} {b} {u} {v} p q = record {
  wholes = λ w cs.
      let e : w + u + v ≡ w + (u + v) = omega arith in
      ap (heard_from w 0) (append_assoc a b cs) ∙ p.wholes w (b ++ cs) ∙ q.wholes (w + u) cs ∙ whole 0 cs e;
}

-- a clip with a value; nothing and a scale, or clips that add g and a scale
adds_clip : (c v : ℕ) → scale_of c ≡ 0 → value_of c ≡ v → Adds (c ∷ []) v
unfolding heard_from
adds_clip c v h g = record {
  adds = λ w s cs.
      let e : w + max 1 s * 0 ≡ w = omega arith in
      ap (λ (k : ℕ). heard_from (w + max 1 s * k) (cond (eqb k 0) (s + value_of c) 0) cs) h ∙ whole (s + value_of c) cs e
      ∙ ap (λ (k : ℕ). heard_from w (s + k) cs) g;
}

wholes_none : Wholes [] 0
wholes_none = record { wholes = λ w cs. let e : w ≡ w + 0 = omega arith in whole 0 cs e }

-- in either case of a test
adds_or : (t : Bool) {a b : List ℕ} {v : ℕ} → (t ≡ true → Adds a v) → (t ≡ false → Adds b v) → Adds (cond t a b) v
adds_or true p q = p refl
adds_or false p q = q refl

wholes_or : (t : Bool) {a b : List ℕ} {v : ℕ} → (t ≡ true → Wholes a v) → (t ≡ false → Wholes b v) → Wholes (cond t a b) v
wholes_or true p q = p refl
wholes_or false p q = q refl

-- clips that count g before a scale, which counts 1 where nothing was heard
record Counts (l : List ℕ) (g : ℕ) : Type 0 where
  heard_so : ℕ
  adds_so : Adds l heard_so
  counts : max 1 (0 + heard_so) ≡ g

counts_or : (t : Bool) {a b : List ℕ} {g : ℕ} → (t ≡ true → Counts a g) → (t ≡ false → Counts b g) → Counts (cond t a b) g
counts_or true p q = p refl
counts_or false p q = q refl

wholes_scale : {l : List ℕ} (c g : ℕ) → (scale_of c ≡ 0 → ⊥) → Counts l g → Wholes (l ++ (c ∷ [])) (g * scale_of c)
unfolding heard_from
wholes_scale {l} c g h p = record {
  wholes = λ w cs.
      let u = p.heard_so in
      ap (heard_from w 0) (append_assoc l (c ∷ []) cs) ∙ p.adds_so.adds w 0 (c ∷ cs)
      ∙ ap (λ (b : Bool). heard_from (w + max 1 (0 + u) * scale_of c) (cond b (0 + u + value_of c) 0) cs) (ne_eqb (scale_of c) 0 h)
      ∙ ap (λ (k : ℕ). heard_from (w + k * scale_of c) 0 cs) p.counts;
}

-- ---- a place

-- the clip of a digit that is said means v
abbrev Means : ℕ → ℕ → Type 0
Means clip v = (scale_of clip ≡ 0) × (value_of clip ≡ v)

zero_clip : Means 0 0
unfolding scale_of value_of
zero_clip = (refl, refl)

adds_place : (gap : Bool) (clip d v : ℕ) → (d ≡ 0 → v ≡ 0) → ((d ≡ 0 → ⊥) → Means clip v) → Adds (place_of gap clip d) v
unfolding place_of
adds_place gap clip d v z m =
    let k : 0 + v ≡ v = omega arith in
    adds_or (eqb d 0) (λ e. adds_as (sym (z (eqb-true d 0 e))) adds_none)
    (λ e. adds_as k
    (adds_then (adds_or gap (λ t. adds_clip 0 0 zero_clip.0 zero_clip.1) (λ t. adds_none))
    (adds_clip clip v (m (eqb-false d 0 e)).0 (m (eqb-false d 0 e)).1)))

-- nine clips in a row
module _ (clip : ℕ → ℕ) (f : ℕ) where
  abbrev row : ℕ → Bool
  row d = eqb d 0 || (eqb (scale_of (clip d)) 0 && eqb (value_of (clip d)) (f * d))

  said : {a b c : Bool} → a || (b && c) ≡ true → a ≡ false → (b ≡ true) × (c ≡ true)
  said {a} {b} {c} e h = and_true b c (rw h at e)

  row_means : all_below 10 row ≡ true → (d : ℕ) → d < 10 → (d ≡ 0 → ⊥) → Means (clip d) (f * d)
  row_means t d h z =
      let r = said (every_at row 10 d t h) (ne_eqb d 0 z) in
      (eqb-true (scale_of (clip d)) 0 r.0, eqb-true (value_of (clip d)) (f * d) r.1)

thousands_row : all_below 10 (row (λ d. 27 + d) 1000) ≡ true
unfolding all_below scale_of value_of
thousands_row = refl

hundreds_row : all_below 10 (row (λ d. 18 + d) 100) ≡ true
unfolding all_below scale_of value_of
hundreds_row = refl

tens_row : all_below 10 (row (λ d. 9 + d) 10) ≡ true
unfolding all_below scale_of value_of
tens_row = refl

ones_row : all_below 10 (row (λ d. d) 1) ≡ true
unfolding all_below scale_of value_of
ones_row = refl

special : (Means 39 1000) × (Means 40 10) × (Means 41 2)
unfolding scale_of value_of
special = ((refl, refl), (refl, refl), (refl, refl))

-- a clip of its own in one case
means_or : (t : Bool) (a b v : ℕ) → (t ≡ true → Means a v) → Means b v → Means (cond t a b) v
means_or true a b v f g = f refl
means_or false a b v f g = g

pub third : (a b c : Bool) → a && (b && c) ≡ true → c ≡ true
third a b c e = (and_true b c (and_true a (b && c) e).1).1

-- ---- groups of four

module _ (l : ℕ) (scaled : Bool) (x : ℕ) where
  adds_thousands : Adds (thousands_of l scaled x) (1000 * (x / 1000 % 10))
  unfolding thousands_of
  adds_thousands =
      adds_place _ _ (x / 1000 % 10) (1000 * (x / 1000 % 10)) (λ z. omega arith)
      (λ z. means_or (eqb l 1 && (scaled && eqb (x % 10000) 1000)) 39 (27 + x / 1000 % 10) (1000 * (x / 1000 % 10))
      (λ t. let e = eqb-true (x % 10000) 1000 (third (eqb l 1) scaled (eqb (x % 10000) 1000) t) in let k : 1000 * (x / 1000 % 10) ≡ 1000 = omega arith in
      rw k special.0)
      (row_means (λ d. 27 + d) 1000 thousands_row (x / 1000 % 10) (omega arith) z))

  adds_hundreds : Adds (hundreds_of l x) (100 * (x % 10))
  unfolding hundreds_of
  adds_hundreds = adds_place _ _ (x % 10) (100 * (x % 10)) (λ z. omega arith) (row_means (λ d. 18 + d) 100 hundreds_row (x % 10) (omega arith))

  adds_tens : Adds (tens_of l x) (10 * (x % 10))
  unfolding tens_of
  adds_tens =
      adds_place _ _ (x % 10) (10 * (x % 10)) (λ z. omega arith)
      (λ z. means_or (eqb l 4 && (ltb 0 (x / 10) && eqb (x % 10) 1)) 40 (9 + x % 10) (10 * (x % 10))
      (λ t. let e = eqb-true (x % 10) 1 (third (eqb l 4) (ltb 0 (x / 10)) (eqb (x % 10) 1) t) in let k : 10 * (x % 10) ≡ 10 = omega arith in rw k special.1)
      (row_means (λ d. 9 + d) 10 tens_row (x % 10) (omega arith) z))

  adds_ones : Adds (ones_of l scaled x) (1 * (x % 10))
  unfolding ones_of
  adds_ones =
      adds_place _ _ (x % 10) (1 * (x % 10)) (λ z. omega arith)
      (λ z. means_or (eqb l 4 && (scaled && eqb (x % 10000) 2)) 41 (x % 10) (1 * (x % 10))
      (λ t. let e = eqb-true (x % 10000) 2 (third (eqb l 4) scaled (eqb (x % 10000) 2) t) in let k : 1 * (x % 10) ≡ 2 = omega arith in rw k special.2)
      (row_means (λ d. d) 1 ones_row (x % 10) (omega arith) z))

cut_4 : (x : ℕ) → x % 10000 ≡ 1000 * (x / 1000 % 10) + x % 1000
cut_4 x = omega arith

cut_3 : (x : ℕ) → x % 1000 ≡ 100 * (x / 100 % 10) + x % 100
cut_3 x = omega arith

cut_2 : (x : ℕ) → x % 100 ≡ 10 * (x / 10 % 10) + x % 10
cut_2 x = omega arith

digits_sum : (x : ℕ) → 1000 * (x / 1000 % 10) + (100 * (x / 100 % 10) + (10 * (x / 10 % 10) + 1 * (x % 10))) ≡ x % 10000
digits_sum x = omega (arith, cut_4 x, cut_3 x, cut_2 x)

adds_four : (l : ℕ) (scaled : Bool) (x : ℕ) → Adds (four_of l scaled x) (x % 10000)
unfolding four_of
adds_four l scaled x =
    adds_as (digits_sum x)
    (adds_then (adds_thousands l scaled x) (adds_then (adds_hundreds l scaled (x / 100)) (adds_then (adds_tens l scaled (x / 10)) (adds_ones l scaled x))))

-- with its scale
wholes_four : (l c x : ℕ) → (scale_of c ≡ 0 → ⊥) → Wholes (scaled_four l c x) (x % 10000 * scale_of c)
unfolding scaled_four
wholes_four l c x h =
    wholes_or (eqb (x % 10000) 0) (λ e. rw (eqb-true (x % 10000) 0 e, zero-mul) wholes_none)
    (λ e. wholes_scale c (x % 10000) h
    (counts_or (eqb l 3 && (eqb c 37 && eqb x 1))
    (λ k. record { heard_so = 0; adds_so = adds_none; counts = omega (arith, eqb-true x 1 (third (eqb l 3) (eqb c 37) (eqb x 1) k)) })
    (λ k. record { heard_so = x % 10000; adds_so = adds_four l true x; counts = omega (arith, eqb-false (x % 10000) 0 e) })))

-- ---- English

-- clips with no scale among them add what is heard of them
plain : List ℕ → Bool
plain [] = true
plain (c ∷ cs) = eqb (scale_of c) 0 && plain cs

sum : List ℕ → ℕ
sum [] = 0
sum (c ∷ cs) = value_of c + sum cs

adds_sum : (l : List ℕ) → plain l ≡ true → Adds l (sum l)
unfolding plain sum
adds_sum [] p = adds_none
adds_sum (c ∷ cs) p =
    let r = and_true (eqb (scale_of c) 0) (plain cs) p in
    adds_then (adds_clip c (value_of c) (eqb-true (scale_of c) 0 r.0) refl) (adds_sum cs r.1)

heard_sum : (l : List ℕ) → plain l ≡ true → heard l ≡ sum l
unfolding heard heard_from
heard_sum l p =
    let e : 0 + (0 + sum l) ≡ sum l = omega arith in
    ap (heard_from 0 0) (sym (append-nil l)) ∙ (adds_sum l p).adds 0 0 [] ∙ e

-- every group of three digits is heard as it is: computed
three_heard : all_below 1000 (λ g. plain (three_of g) && eqb (heard (three_of g)) g) ≡ true
unfolding all_below plain three_of under_hundred place_of heard heard_from scale_of value_of
three_heard = refl

adds_three : (g : ℕ) → g < 1000 → Adds (three_of g) g
adds_three g h =
    let r = and_true (plain (three_of g)) (eqb (heard (three_of g)) g) (every_at (λ g. plain (three_of g) && eqb (heard (three_of g)) g) 1000 g three_heard h) in
    adds_as (sym (heard_sum (three_of g) r.0) ∙ eqb-true (heard (three_of g)) g r.1) (adds_sum (three_of g) r.0)

wholes_three : (c g : ℕ) → g < 1000 → (scale_of c ≡ 0 → ⊥) → Wholes (scaled_three c g) (g * scale_of c)
unfolding scaled_three
wholes_three c g l h =
    wholes_or (eqb g 0) (λ e. rw (eqb-true g 0 e, zero-mul) wholes_none)
    (λ e. wholes_scale c g h (record { heard_so = g; adds_so = adds_three g l; counts = omega (arith, eqb-false g 0 e) }))

-- ---- a number

heard_end : {a b : List ℕ} {u v : ℕ} → Wholes a u → Adds b v → heard (a ++ b) ≡ u + v
unfolding heard heard_from
heard_end {a} {b} {u} {v} p q =
    let e : 0 + u + (0 + v) ≡ u + v = omega arith in
    p.wholes 0 b ∙ ap (heard_from (0 + u) 0) (sym (append-nil b)) ∙ q.adds (0 + u) 0 [] ∙ e

eastern_back : (l n : ℕ) → n < 1000000000000 → heard (eastern_of l n) ≡ n
unfolding eastern_of scale_of
eastern_back l n h =
    let e : n / 100000000 % 10000 * 100000000 + n / 10000 % 10000 * 10000 + n % 10000 ≡ n = omega arith in
    ap heard (sym (append_assoc (scaled_four l 38 (n / 100000000)) (scaled_four l 37 (n / 10000)) (four_of l false n)))
    ∙ heard_end (wholes_then (wholes_four l 38 (n / 100000000) (λ z. omega arith)) (wholes_four l 37 (n / 10000) (λ z. omega arith))) (adds_four l false n) ∙ e

english_back : (n : ℕ) → n < 1000000000000 → heard (english_of n) ≡ n
unfolding english_of scale_of
english_back n h =
    let e : n / 1000000000 * 1000000000 + (n / 1000000 % 1000 * 1000000 + n / 1000 % 1000 * 1000) + n % 1000 ≡ n = omega arith in
    let a = scaled_three 53 (n / 1000000000) in
    let b = scaled_three 52 (n / 1000000 % 1000) in
    let c = scaled_three 51 (n / 1000 % 1000) in
    ap heard (ap (λ (k : List ℕ). a ++ k) (sym (append_assoc b c (three_of (n % 1000)))) ∙ sym (append_assoc a (b ++ c) (three_of (n % 1000))))
    ∙ heard_end
    (wholes_then (wholes_three 53 (n / 1000000000) (omega arith) (λ z. omega arith))
    (wholes_then (wholes_three 52 (n / 1000000 % 1000) (omega arith) (λ z. omega arith)) (wholes_three 51 (n / 1000 % 1000) (omega arith) (λ z. omega arith))))
    (adds_three (n % 1000) (omega arith)) ∙ e

zero_heard : heard (0 ∷ []) ≡ 0
unfolding heard heard_from scale_of value_of
zero_heard = refl

-- "In every language, what is heard of a number is that number"
pub heard_back : (l n : ℕ) → n < 1000000000000 → heard (numeral l n) ≡ n
unfolding numeral
heard_back l n h = go (eqb n 0) (eqb l 2) refl
  where
    go : (b c : Bool) → eqb n 0 ≡ b → heard (cond b (0 ∷ []) (cond c (english_of n) (eastern_of l n))) ≡ n
    go true c e = zero_heard ∙ sym (eqb-true n 0 e)
    go false true e = english_back n h
    go false false e = eastern_back l n h

-- "So no two numbers sound alike"
pub alike : (l k m n : ℕ) → m < 1000000000000 → n < 1000000000000 → numeral l m ≡ numeral k n → m ≡ n
alike l k m n f g e = sym (heard_back l m f) ∙ ap heard e ∙ heard_back k n g
