-- Every clip of a numeral is one that the sheet has for its language.
use Rattle.std.specs.Prelude.{◌≡◌, refl, Bool, ◌&&◌, ◌||◌, cond, ℕ, ◌+◌, ◌/◌, ◌%◌, ◌<◌, ltb}
use Rattle.std.proofs.Math.Bool.{true, false}
use mathlib.Core.List.Memᴰ
use mathlib.Core.List.{List, [], ◌∷◌, ◌++◌, Memᴰ as Member}
use Rattle.std.proofs.Common.{⊎_elim, arith, eqb-true, ltb-true, lt-ltb, le-ltb, ne_eqb}
use Rattle.std.proofs.lemmas.Bool.{eqb-false}
use Rattle.std.proofs.Math.Dec.{eqb}
use Rattle.tiles.proofs.laws.Below.{and_true}
use Rattle.speech_numerals.specs.Numerals.{place_of, under_hundred, three_of, scaled_three, english_of, thousands_of, hundreds_of, tens_of, ones_of, four_of}
use Rattle.speech_numerals.specs.Numerals.{scaled_four, eastern_of, numeral}
use Rattle.speech_numerals.specs.Heard.{on_sheet}

-- all clips of a list are on the sheet of language l
pub record On (l : ℕ) (cs : List ℕ) : Type 0 where
  pub on : (c : ℕ) → Member c cs → on_sheet l c ≡ true

pub on_none : (l : ℕ) → On l []
on_none l = record { on = λ c m. absurd (Memᴰ.not-nil m) }

pub on_clip : (l c : ℕ) → on_sheet l c ≡ true → On l (c ∷ [])
on_clip l c h = record { on = λ d m. ⊎_elim (λ e. rw e h) (λ n. absurd (Memᴰ.not-nil n)) (Memᴰ.cases_cons m) }

pub on_then : {l : ℕ} {a b : List ℕ} → On l a → On l b → On l (a ++ b)
on_then {l} {a} {b} p q = record { on = λ c m. ⊎_elim (p.on c) (q.on c) (Memᴰ.append_cases a m) }

on_cond : (l : ℕ) (t : Bool) (a b : List ℕ) → (t ≡ true → On l a) → (t ≡ false → On l b) → On l (cond t a b)
on_cond l true a b p q = p refl
on_cond l false a b p q = q refl

-- which clips are on it
all_28 : (l c : ℕ) → c < 28 → on_sheet l c ≡ true
unfolding on_sheet
all_28 l c h = rw (lt-ltb c 28 h)

not_english : (l c : ℕ) → (l ≡ 2 → ⊥) → c < 39 → on_sheet l c ≡ true
unfolding on_sheet
not_english l c n h = rw (lt-ltb c 39 h, ne_eqb l 2 n) (or_true (ltb c 28))
  where
    or_true : (b : Bool) → b || true ≡ true
    or_true true = refl
    or_true false = refl

own : (on_sheet 1 39 ≡ true) × (on_sheet 4 40 ≡ true) × (on_sheet 4 41 ≡ true)
unfolding on_sheet
own = (refl, refl, refl)

english : (c : ℕ) → 41 < c → c < 54 → on_sheet 2 c ≡ true
unfolding on_sheet
english c h g =
    rw (
      le-ltb c 28 (omega arith),
      le-ltb c 39 (omega arith),
      ne_eqb c 39 (λ e. omega arith),
      lt-ltb 39 c (omega arith),
      le-ltb c 42
          (omega arith),
      lt-ltb 41 c h,
      lt-ltb c 54 g,
    )

-- ---- a place

on_place : (l : ℕ) (gap : Bool) (clip d : ℕ) → on_sheet l clip ≡ true → On l (place_of gap clip d)
unfolding place_of
on_place l gap clip d h =
    on_cond l (eqb d 0) [] _ (λ e. on_none l)
    (λ e. on_then (on_cond l gap (0 ∷ []) [] (λ t. on_clip l 0 (all_28 l 0 (omega arith))) (λ t. on_none l)) (on_clip l clip h))

clip_or : (l : ℕ) (t : Bool) (a b : ℕ) → (t ≡ true → on_sheet l a ≡ true) → on_sheet l b ≡ true → on_sheet l (cond t a b) ≡ true
clip_or l true a b f g = f refl
clip_or l false a b f g = g

first : (k m : ℕ) (b : Bool) → eqb k m && b ≡ true → k ≡ m
first k m b e = eqb-true k m (and_true (eqb k m) b e).0

module _ (l : ℕ) (n : l ≡ 2 → ⊥) where
  on_four : (scaled : Bool) (x : ℕ) → On l (four_of l scaled x)
  unfolding four_of thousands_of hundreds_of tens_of ones_of
  on_four scaled x =
      on_then
      (on_place l _ _ _ (clip_or l (eqb l 1 && (scaled && eqb (x % 10000) 1000)) 39 _ (λ e. rw (first l 1 (scaled && eqb (x % 10000) 1000) e) own.0)
      (not_english l (27 + x / 1000 % 10) n (omega arith))))
      (on_then (on_place l _ _ _ (all_28 l (18 + x / 100 % 10) (omega arith)))
      (on_then
      (on_place l _ _ _ (clip_or l (eqb l 4 && (ltb 0 (x / 10 / 10) && eqb (x / 10 % 10) 1)) 40 _
      (λ e. rw (first l 4 (ltb 0 (x / 10 / 10) && eqb (x / 10 % 10) 1) e) own.1) (all_28 l (9 + x / 10 % 10) (omega arith))))
      (on_place l _ _ _ (clip_or l (eqb l 4 && (scaled && eqb (x % 10000) 2)) 41 _ (λ e. rw (first l 4 (scaled && eqb (x % 10000) 2) e) own.2)
      (all_28 l (x % 10) (omega arith))))))

  on_scaled : (c x : ℕ) → c < 39 → On l (scaled_four l c x)
  unfolding scaled_four
  on_scaled c x h =
      on_cond l (eqb (x % 10000) 0) [] _ (λ e. on_none l)
      (λ e. on_then (on_cond l (eqb l 3 && (eqb c 37 && eqb x 1)) [] (four_of l true x) (λ t. on_none l) (λ t. on_four true x))
      (on_clip l c (not_english l c n h)))

  on_eastern : (k : ℕ) → On l (eastern_of l k)
  unfolding eastern_of
  on_eastern k = on_then (on_scaled 38 (k / 100000000) (omega arith)) (on_then (on_scaled 37 (k / 10000) (omega arith)) (on_four false k))

-- ---- English

on_under : (t : ℕ) → t < 100 → On 2 (under_hundred t)
unfolding under_hundred
on_under t h =
    on_cond 2 (ltb 10 t && ltb t 20) ((31 + t) ∷ []) _
    (λ e.
    let b = and_true (ltb 10 t) (ltb t 20) e in
    on_clip 2 (31 + t) (english (31 + t) (omega (arith, ltb-true 10 t b.0)) (omega (arith, ltb-true t 20 b.1))))
    (λ e. on_then (on_place 2 false (9 + t / 10) (t / 10) (all_28 2 (9 + t / 10) (omega arith)))
    (on_place 2 false (t % 10) (t % 10) (all_28 2 (t % 10) (omega arith))))

on_three : (g : ℕ) → g < 1000 → On 2 (three_of g)
unfolding three_of
on_three g h = on_then (on_place 2 false (18 + g / 100) (g / 100) (all_28 2 (18 + g / 100) (omega arith))) (on_under (g % 100) (omega arith))

on_scaled_three : (c g : ℕ) → g < 1000 → 41 < c → c < 54 → On 2 (scaled_three c g)
unfolding scaled_three
on_scaled_three c g h a b = on_cond 2 (eqb g 0) [] _ (λ e. on_none 2) (λ e. on_then (on_three g h) (on_clip 2 c (english c a b)))

on_english : (n : ℕ) → n < 1000000000000 → On 2 (english_of n)
unfolding english_of
on_english n h =
    on_then (on_scaled_three 53 (n / 1000000000) (omega arith) (omega arith) (omega arith))
    (on_then (on_scaled_three 52 (n / 1000000 % 1000) (omega arith) (omega arith) (omega arith))
    (on_then (on_scaled_three 51 (n / 1000 % 1000) (omega arith) (omega arith) (omega arith)) (on_three (n % 1000) (omega arith))))

-- ---- a number

pub on_numeral : (l n : ℕ) → n < 1000000000000 → On l (numeral l n)
unfolding numeral
on_numeral l n h =
    on_cond l (eqb n 0) (0 ∷ []) _ (λ e. on_clip l 0 (all_28 l 0 (omega arith)))
    (λ e. on_cond l (eqb l 2) (english_of n) (eastern_of l n) (λ t. rw (eqb-true l 2 t) (on_english n h)) (λ t. on_eastern l (eqb-false l 2 t) n))
