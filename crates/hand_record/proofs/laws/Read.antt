-- What `read_of` comes to, case by case.
use Rattle.std.specs.Prelude.{ℕ, zero, suc, ◌+◌, ◌*◌, ◌-◌, ◌≤◌, ◌<◌, ◌≡◌, refl, Bool, true, false, ◌||◌, not, List, ltb, eqb, length, take, drop, replicate}
use Rattle.std.proofs.Common.{sym, ap, ◌∙◌, arith, ltb-false, le-ltb, eqb-true, eq-eqb, drop-drop}
use Rattle.std.proofs.lemmas.Bool.{not-false}
use Rattle.std.proofs.lemmas.List.{length-replicate}
use Rattle.std.proofs.lemmas.List.Edits.{sets}
use Rattle.tiles.proofs.laws.Below.{or_both}
use Rattle.bits.specs.Bits.{val, unpack, eights, bits_of, fill}
use Rattle.bits.proofs.laws.Pack.{sets_fill, length_unpack}
use Rattle.hand.specs.declared.Fields.{Fields}
use Rattle.hand.specs.declared.Held.{Held}
use Rattle.hand.specs.Refusals.{refusal_of}
use Rattle.hand_record.specs.declared.Head.{Head}
use Rattle.hand_record.specs.Record.{head, head_by, sixes, length_of, pad_of, head_of}
use Rattle.hand_record.specs.Record.{refused_with, wrong_length, count_in, answer_by, answer_in, read_of}
use Rattle.hand_record.specs.search.Offsets.{melds_of, tiles_of, held_in, padding_after}
use Rattle.hand_record.proofs.laws.Offsets.{padding_is, hand_at_lem}

pub bool_true : (b : Bool) → (b ≡ false → ⊥) → b ≡ true
bool_true true h = refl
bool_true false h = absurd (h refl)

-- the widths of a record fill its bytes
pub whole : (m : ℕ) → m ≤ 4 → (25 + 8 * m + 6 * (13 - 3 * m) + pad_of m ≡ 8 * length_of m) × (pad_of m ≤ 8) × (length_of m ≤ 13) × (4 ≤ length_of m) × (0 < pad_of m)
whole zero h = (refl, omega arith, omega arith, omega arith, omega arith)
whole (suc zero) h = (refl, omega arith, omega arith, omega arith, omega arith)
whole (suc (suc zero)) h = (refl, omega arith, omega arith, omega arith, omega arith)
whole (suc (suc (suc zero))) h = (refl, omega arith, omega arith, omega arith, omega arith)
whole (suc (suc (suc (suc zero)))) h = (refl, omega arith, omega arith, omega arith, omega arith)
whole (suc (suc (suc (suc (suc m))))) h = absurd (omega arith)

-- a length of n bytes is right for m melds
pub record RightLength (n m : ℕ) : Type 0 where
  pub four : 4 ≤ n
  pub few : m ≤ 4
  pub right : n ≡ length_of m

pub length_of_lem : (n m : ℕ) → wrong_length n m ≡ false → RightLength n m
length_of_lem n m e =
    let p = or_both (ltb n 4 || ltb 4 m) (not (eqb n (length_of m))) e in
    let q = or_both (ltb n 4) (ltb 4 m) p.0 in
    record { four = ltb-false n 4 q.0; few = ltb-false 4 m q.1; right = eqb-true n (length_of m) (not-false (eqb n (length_of m)) p.1) }

pub length_right : (n m : ℕ) → RightLength n m → wrong_length n m ≡ false
length_right n m f = rw (le-ltb n 4 f.four, le-ltb 4 m f.few, eq-eqb n (length_of m) f.right)

-- refusal 1
pub read_not : (s : List ℕ) → (RightLength (length s) (count_in s) → ⊥) → read_of s ≡ refused_with 1
unfolding read_of
read_not s h = rw (bool_true (wrong_length (length s) (count_in s)) (λ e. h (length_of_lem _ _ e)))

-- a record of the right length
pub read_as : (s : List ℕ) (m : ℕ) → count_in s ≡ m → RightLength (length s) m → answer_in m (bits_of s) ≡ read_of s
unfolding read_of
read_as s m e r = rw (e, length_right (length s) m r)

-- the eight fields of a head, each by where it starts
pub head_at : (b : List ℕ) → head_by (unpack head b) ≡ record {
  fields = record {
    how = val 0 (take 1 (drop 0 b));
    winner = val 0 (take 2 (drop 1 b));
    discarder = val 0 (take 2 (drop 3 b));
    riichi = val 0 (take 2 (drop 5 b));
    situation = val 0 (take 3 (drop 7 b));
    indicator = val 0 (take 6 (drop 10 b));
    winning = val 0 (take 6 (drop 16 b));
  };
  m = val 0 (take 3 (drop 22 b));
}
head_at b =
    let d3 : drop 2 (drop 1 b) ≡ drop 3 b = drop-drop 2 1 b in
    let d5 : drop 2 (drop 3 b) ≡ drop 5 b = drop-drop 2 3 b in
    let d7 : drop 2 (drop 5 b) ≡ drop 7 b = drop-drop 2 5 b in
    let d10 : drop 3 (drop 7 b) ≡ drop 10 b = drop-drop 3 7 b in
    let d16 : drop 6 (drop 10 b) ≡ drop 16 b = drop-drop 6 10 b in
    let d22 : drop 6 (drop 16 b) ≡ drop 22 b = drop-drop 6 16 b in
    rw (d3, d5, d7, d10, d16, d22)

-- and the meld count alone
pub count_at : (s : List ℕ) → val 0 (take 3 (drop 22 (bits_of s))) ≡ count_in s
unfolding head_of
count_at s = ap (λ (h : Head). h.m) (sym (head_at (bits_of s)))

-- n fields of one width w, stored in k zeros
run_filled : (n k w : ℕ) (l out : List ℕ) → n ≤ k → out ≡ sets (replicate k 0) 0 (unpack (replicate n w) l) → out ≡ fill k (unpack (replicate n w) l)
run_filled n k w l out h e = e ∙ sets_fill k (unpack (replicate n w) l) (omega (arith, length_unpack (replicate n w) l, length-replicate {A = ℕ} n w))

-- the tiles held, by what the two runs of fields stored
pub held_made : (at m : ℕ) (b x y : List ℕ) → m ≤ 4
    → x ≡ sets (replicate 4 0) 0 (unpack (eights m) (drop at b))
    → y ≡ sets (replicate 13 0) 0 (unpack (sixes (13 - 3 * m)) (drop (at + 8 * m) b))
    → record { m = m; melds = x; concealed = y } ≡ held_in at m b
unfolding held_in melds_of tiles_of
held_made at m b x y h p q = rw (run_filled m 4 8 (drop at b) x h p, run_filled (13 - 3 * m) 13 6 (drop (at + 8 * m) b) y (omega arith) q)

-- the padding, by where it ends
pub padding_last : (at m n : ℕ) (s : List ℕ) → at + 8 * m + 6 * (13 - 3 * m) + n ≡ 8 * length s
    → val 0 (take n (drop (8 * length s - n) (bits_of s))) ≡ padding_after at m n (bits_of s)
unfolding padding_after
padding_last at m n s e =
    let k : 8 * length s - n ≡ at + 8 * m + 6 * (13 - 3 * m) = omega arith in
    ap (λ (i : ℕ). val 0 (take n (drop i (bits_of s)))) k

-- a record of the right length, by what the calls of its reader gave
pub answer_in_by : (m : ℕ) (b : List ℕ) (f : Fields) (x : Held) (p j : ℕ) → f ≡ (head_of b).fields → x ≡ held_in 25 m b → p ≡ padding_after 25 m (pad_of m) b
    → j ≡ refusal_of (record { fields = f; held = x }) p → answer_by (record { fields = f; held = x }) j ≡ answer_in m b
unfolding answer_in
answer_in_by m b f x p j ef ex ep ej = rw (ej, ep, ex, ef, hand_at_lem m b, padding_is m b)
