-- Records end to end: how long they are, case by case; that those found are whole, and that whole ones are found, whatever follows.
use Rattle.std.specs.Prelude.{◌≡◌, refl, Bool, true, false, cond, List, [], ◌∷◌, ◌++◌, ℕ, zero, suc, ◌+◌, ◌*◌, ◌-◌, ◌≤◌, ◌<◌, length, take, drop}
use Rattle.std.proofs.Common.{sym, ap, ◌∙◌, subst, append_assoc, add-zero, arith, length-append, length-take, length-drop, take-append-drop, length-take-le, take-take, take-add, drop_at, drop-drop}
use Rattle.std.proofs.Math.Seq.{take-append_seam}
use Rattle.std.proofs.lemmas.List.{drop-append-le}
use Rattle.tiles.proofs.laws.Below.{or_both}
use Rattle.hand_record.specs.Record.{count_in, length_of}
use Rattle.hand_record.specs.Lengths.{is_broken, record_length}
use Rattle.hand_record.proofs.laws.Read.{length_of_lem}
use Rattle.hand_record.proofs.laws.Lengths.{unbroken, record_whole, length_zero, length_some, count_take, record_length_lem}
use Rattle.hand_rons.specs.Records.{records_of}
use Rattle.reading.specs.All.{Each, none, also}
use Rattle.log_entry.specs.Entry.{HasLength}
use Rattle.log_entry.specs.search.Lengths.{has_broken, span_of, records_length}

-- ---- how long they are

-- those that are not broken
pub all_unbroken : (n : ℕ) (s : List ℕ) → has_broken n s ≡ false → (4 * n ≤ span_of n s) × (span_of n s ≤ 13 * n) × (span_of n s ≤ length s)
unfolding has_broken span_of
all_unbroken zero s e = (omega arith, omega arith, omega arith)
all_unbroken (suc n) s e =
    let L = length_of (count_in s) in
    let p = or_both (is_broken s) (has_broken n (drop L s)) e in
    let u = unbroken s p.0 in
    let r = all_unbroken n (drop L s) p.1 in
    let d = length-drop L s in
    (omega (arith, u, r), omega (arith, u, r), omega (arith, u, r, d))

-- `at` bytes and then n records; 0 where one is broken
unfoldable pub length_from : ℕ → ℕ → List ℕ → ℕ
length_from at n s = cond (has_broken n s) 0 (at + span_of n s)

pub from_start : (n : ℕ) (s : List ℕ) → length_from 0 n s ≡ records_length n s
unfolding length_from records_length
from_start n s =
    let z : 0 + span_of n s ≡ span_of n s = omega arith in
    ap (λ (k : ℕ). cond (has_broken n s) 0 k) z

pub from_end : (at n : ℕ) (s : List ℕ) → n ≡ 0 → length_from at n s ≡ at
unfolding length_from has_broken span_of
from_end at zero s e = add-zero at
from_end at (suc n) s e = absurd (omega (arith, e))

pub from_broken : (at n : ℕ) (s : List ℕ) → 0 < n → record_length s ≡ 0 → length_from at n s ≡ 0
unfolding length_from has_broken
from_broken at zero s h z = absurd (omega arith)
from_broken at (suc n) s h z = rw (length_zero s z)

pub from_turn : (at n : ℕ) (s : List ℕ) → 0 < n → (record_length s ≡ 0 → ⊥)
    → length_from (at + record_length s) (n - 1) (drop (record_length s) s) ≡ length_from at n s
unfolding length_from has_broken span_of
from_turn at zero s h l = absurd (omega arith)
from_turn at (suc n) s h l =
    let u = length_some s l in
    let L = length_of (count_in s) in
    let a : at + L + span_of n (drop L s) ≡ at + (L + span_of n (drop L s)) = omega arith in
    let b : suc n - 1 ≡ n = omega arith in
    rw (b, u.1, u.0) (ap (λ (k : ℕ). cond (has_broken n (drop L s)) 0 k) a)

-- as the code has it, from a place of the bytes on
pub turn_at : (at n k : ℕ) (s : List ℕ) → 0 < n → k ≡ record_length (drop at s) → (k ≡ 0 → ⊥)
    → length_from (at + k) (n - 1) (drop (at + k) s) ≡ length_from at n (drop at s)
turn_at at n k s h e l = rw (← drop-drop k at s, e) (from_turn at n (drop at s) h (λ z. l (e ∙ z)))

pub records_inside : (n : ℕ) (s : List ℕ) → records_length n s ≤ 13 * n
unfolding records_length
records_inside n s = go (has_broken n s) refl
  where
    go : (b : Bool) → has_broken n s ≡ b → cond b 0 (span_of n s) ≤ 13 * n
    go true e = omega arith
    go false e = (all_unbroken n s e).1

-- ---- the records themselves

-- the first and the rest of n + 1 records that bytes are
module _ (n : ℕ) (s : List ℕ) (e : is_broken s ≡ false) where
  abbrev L : ℕ
  L = length_of (count_in s)

  abbrev m : ℕ
  m = span_of n (drop L s)

  same_count : count_in (take (L + m) s) ≡ count_in s
  same_count = let u = unbroken s e in count_take s (L + m) (omega (arith, u)) (omega (arith, u))

  the_rest : drop L (take (L + m) s) ≡ take m (drop L s)
  the_rest = ap (drop L) (take-add L m s) ∙ drop_at (take L s) (take m (drop L s)) L (length-take-le L s (unbroken s e).3)

first_and_rest : (n : ℕ) (s : List ℕ) (e : is_broken s ≡ false)
    → records_of (suc n) (take (L n s e + m n s e) s) ≡ take (L n s e) s ∷ records_of n (take (m n s e) (drop (L n s e) s))
unfolding records_of span_of
first_and_rest zero s e = let z : L 0 s e + 0 ≡ L 0 s e = omega arith in ap (λ (k : ℕ). take k s ∷ []) z
first_and_rest (suc n) s e = rw (same_count (suc n) s e, take-take (L (suc n) s e) (L (suc n) s e + m (suc n) s e) s (omega arith), the_rest (suc n) s e)

-- those found: each is whole
pub records_their_length : (n : ℕ) (s : List ℕ) → has_broken n s ≡ false → Each HasLength (records_of n (take (span_of n s) s))
unfolding has_broken span_of records_of
records_their_length zero s e = none
records_their_length (suc n) s e =
    let L = length_of (count_in s) in
    let p = or_both (is_broken s) (has_broken n (drop L s)) e in
    subst (Each HasLength) (sym (first_and_rest n s p.0)) (also (record_length_lem s p.0) (records_their_length n (drop L s) p.1))

-- ---- whole ones, with bytes after them

-- one
pub length_before : (s rest : List ℕ) → HasLength s → (is_broken (s ++ rest) ≡ false) × (length_of (count_in (s ++ rest)) ≡ length s)
length_before s rest w =
    let f = length_of_lem (length s) (count_in s) w in
    let four = f.four in
    let few = f.few in
    let l = length-append s rest in
    let c : count_in s ≡ count_in (s ++ rest) = ap count_in (sym (take-append_seam s rest))
    ∙ count_take (s ++ rest) (length s) four (omega (arith, l, four)) in
    let n : length_of (count_in (s ++ rest)) ≡ length s = ap length_of (sym c) ∙ sym f.right in
    let whole = record_whole (s ++ rest) (omega (arith, l, four)) (omega (arith, c, few)) (omega (arith, n, l)) in
    ((length_some (s ++ rest) (λ z. omega (arith, z, whole, n, four))).0, n)

pub record_before : (s rest : List ℕ) → HasLength s → (record_length (s ++ rest) ≡ length s) × (4 ≤ length s)
unfolding record_length
record_before s rest w = let b = length_before s rest w in (rw b.0 b.1, (length_of_lem (length s) (count_in s) w).four)

-- the first of several, as long as its m says
first_before : (s rest : List ℕ) → let L = length_of (count_in s) in HasLength (take L s)
    → (L ≤ length s) × (is_broken (s ++ rest) ≡ false) × (length_of (count_in (s ++ rest)) ≡ L)
first_before s rest w =
    let L = length_of (count_in s) in
    let f = length_of_lem (length (take L s)) (count_in (take L s)) w in
    let four = f.four in
    let t = length-take L s in
    let c : count_in (take L s) ≡ count_in s = count_take s L (omega (arith, t, four)) (omega (arith, t, four)) in
    let n : length (take L s) ≡ L = f.right ∙ ap length_of c in
    let b = length_before (take L s) (drop L s ++ rest) w in
    let a : take L s ++ (drop L s ++ rest) ≡ s ++ rest = sym (append_assoc (take L s) (drop L s) rest)
    ∙ ap (λ (x : List ℕ). x ++ rest) (take-append-drop L s) in
    (omega (arith, t, n), ap is_broken (sym a) ∙ b.0, ap (λ (x : List ℕ). length_of (count_in x)) (sym a) ∙ b.1 ∙ n)

-- n + 1 of them
pub records_before : (n : ℕ) (s rest : List ℕ) → Each HasLength (records_of (suc n) s)
    → (has_broken (suc n) (s ++ rest) ≡ false) × (span_of (suc n) (s ++ rest) ≡ length s)
unfolding has_broken span_of records_of
records_before zero s rest (also w o) = let b = length_before s rest w in (rw b.0, rw b.1 (omega arith))
records_before (suc n) s rest (also w o) =
    let L = length_of (count_in s) in
    let b = first_before s rest w in
    let d : drop L (s ++ rest) ≡ drop L s ++ rest = drop-append-le L s rest b.0 in
    let r = records_before n (drop L s) rest o in
    (rw (b.1, b.2, d) r.0, rw (b.2, d, r.1) (omega (arith, b.0, length-drop L s)))

pub span_before : (n : ℕ) (s rest : List ℕ) → 0 < n → Each HasLength (records_of n s) → (records_length n (s ++ rest) ≡ length s) × (4 ≤ length s)
unfolding records_length
span_before zero s rest h o = absurd (omega arith)
span_before (suc n) s rest h o =
    let b = records_before n s rest o in
    let u = all_unbroken (suc n) (s ++ rest) b.0 in
    (rw b.0 b.1, omega (arith, u, b.1))
