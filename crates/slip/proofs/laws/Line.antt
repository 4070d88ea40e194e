-- One line: 24 spaces and a line feed, then the label and the value put into it.
use Rattle.std.specs.Prelude.{◌≡◌, refl, List, [], ◌∷◌, ◌++◌, ℕ, zero, suc, ◌+◌, ◌-◌, ◌≤◌, length, take, drop, set, get_or}
use Rattle.std.proofs.Common.{ap, sym, ◌∙◌, append_assoc, append-nil, arith, length-append, length-drop, drop_of_length-le, take_at}
use Rattle.std.proofs.lemmas.List.{length-replicate, replicate-append-replicate}
use Rattle.std.proofs.Math.Seq.{drop_at, take-length}
use Rattle.slip.specs.Line.{spaces, slip_line, labels}

spaces_long : (a : ℕ) → length (spaces a) ≡ a
spaces_long a = length-replicate a 32

spaces_more : (a b c : ℕ) → a + b ≡ c → spaces a ++ spaces b ≡ spaces c
spaces_more a b c e = replicate-append-replicate a b 32 ∙ ap spaces e

-- ---- an empty line

one_left : (d : List ℕ) → length d ≡ 1 → set (spaces 24 ++ d) 24 10 ≡ spaces 24 ++ (10 ∷ [])
one_left [] h = absurd (omega arith)
one_left (x ∷ []) h = refl
one_left (x ∷ y ∷ d) h = absurd (omega arith)

-- 24 spaces, and a line feed for the last byte
pub line_feed_last : (l : List ℕ) → length l ≡ 25 → set (spaces 24 ++ drop 24 l) 24 10 ≡ spaces 24 ++ (10 ∷ [])
line_feed_last l h = one_left (drop 24 l) (rw length-drop (omega arith))

-- ---- its label and its value, of n and m bytes

module _ (label value : List ℕ) (h : length label ≤ 10) (g : length value ≤ 14) where
  abbrev n : ℕ
  n = length label

  abbrev m : ℕ
  m = length value

  -- the columns before the value, and what stands after them before the value is there
  abbrev front : List ℕ
  front = label ++ (spaces (10 - n) ++ spaces (14 - m))

  abbrev back : List ℕ
  back = spaces m ++ (10 ∷ [])

  front_long : length front ≡ 24 - m
  front_long = rw (length-append, length-append) (omega (arith, spaces_long (10 - n), spaces_long (14 - m)))

  -- what is left of an empty line after the label
  rest : drop n (spaces 24 ++ (10 ∷ [])) ≡ spaces (10 - n) ++ (spaces (14 - m) ++ back)
  rest =
      let p : n + (24 - n) ≡ 24 = omega arith in
      let q : 10 - n + (14 - m + m) ≡ 24 - n = omega arith in
      ap (λ (l : List ℕ). drop n (l ++ (10 ∷ []))) (sym (spaces_more n (24 - n) 24 p))
      ∙ ap (drop n) (append_assoc (spaces n) (spaces (24 - n)) (10 ∷ []))
      ∙ drop_at (spaces n) (spaces (24 - n) ++ (10 ∷ [])) n (spaces_long n)
      ∙ ap (λ (l : List ℕ). l ++ (10 ∷ [])) (sym (spaces_more (10 - n) (14 - m + m) (24 - n) q))
      ∙ append_assoc (spaces (10 - n)) (spaces (14 - m + m)) (10 ∷ [])
      ∙ ap (λ (l : List ℕ). spaces (10 - n) ++ (l ++ (10 ∷ []))) (sym (spaces_more (14 - m) m (14 - m + m) refl))
      ∙ ap (λ (l : List ℕ). spaces (10 - n) ++ l) (append_assoc (spaces (14 - m)) (spaces m) (10 ∷ []))

  -- the columns before the value and any text after them
  before : (x : List ℕ) → front ++ x ≡ label ++ (spaces (10 - n) ++ (spaces (14 - m) ++ x))
  before x =
      append_assoc label (spaces (10 - n) ++ spaces (14 - m)) x ∙ ap (λ (l : List ℕ). label ++ l) (append_assoc (spaces (10 - n)) (spaces (14 - m)) x)

  labelled : take n label ++ drop n (spaces 24 ++ (10 ∷ [])) ≡ front ++ back
  labelled = rw (take-length label, rest) (sym (before back))

  -- l has the label, and v is its part of k bytes from `at` on with the value put there
  module _ (at k : ℕ) (ea : at ≡ 24 - m) (ek : k ≡ 24 - at) (l v : List ℕ) (el : l ≡ take n label ++ drop n (spaces 24 ++ (10 ∷ [])))
      (ev : v ≡ take m value ++ drop m (take k (drop at l))) where
    after_front : drop at l ≡ back
    after_front = ap (drop at) (el ∙ labelled) ∙ drop_at front back at (front_long ∙ sym ea)

    before_value : take at l ≡ front
    before_value = ap (take at) (el ∙ labelled) ∙ take_at front back at (front_long ∙ sym ea)

    k_long : length (spaces m) ≡ k
    k_long = spaces_long m ∙ omega arith

    placed : v ≡ value
    placed =
        let z : length (spaces m) ≤ m = omega (arith, spaces_long m) in
        ev ∙ ap (λ (x : List ℕ). take m value ++ drop m (take k x)) after_front
        ∙ ap (λ (x : List ℕ). take m value ++ drop m x) (take_at (spaces m) (10 ∷ []) k k_long)
        ∙ ap (λ (x : List ℕ). take m value ++ x) (drop_of_length-le (spaces m) z)
        ∙ rw (take-length value) (append-nil value)

    pub line_written : take at l ++ (v ++ drop k (drop at l)) ≡ slip_line label value
    unfolding slip_line
    line_written = rw (before_value, placed, after_front, drop_at (spaces m) (10 ∷ []) k k_long) (before (value ++ (10 ∷ [])))

-- ---- it has 25 bytes

pub line_long : (label value : List ℕ) → length label ≤ 10 → length value ≤ 14 → length (slip_line label value) ≡ 25
unfolding slip_line
line_long label value h g =
    rw (length-append, length-append, length-append, length-append) (omega (arith, spaces_long (10 - length label), spaces_long (14 - length value)))

pub label_short : (k : ℕ) → length (get_or labels k []) ≤ 10
unfolding labels
label_short zero = omega arith
label_short (suc zero) = omega arith
label_short (suc (suc zero)) = omega arith
label_short (suc (suc (suc zero))) = omega arith
label_short (suc (suc (suc (suc zero)))) = omega arith
label_short (suc (suc (suc (suc (suc zero))))) = omega arith
label_short (suc (suc (suc (suc (suc (suc k)))))) = omega arith
