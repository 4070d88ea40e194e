-- How long an entry of each kind is, case by case, and what n bytes of an entry tell.
use Rattle.std.specs.Prelude.{◌≡◌, Bool, true, false, ◌&&◌, ◌||◌, cond, ◌⊎◌, List, [], ◌∷◌, ltb, leb, eqb, length, get_or, drop}
use Rattle.std.proofs.Math.Path.{refl}
use Rattle.std.proofs.Common.{ap, ◌∙◌, inl, inr, arith}
use Rattle.std.proofs.Math.Bool.{and-false}
use Prim.Native.Nat.{ℕ, zero, suc, ◌+◌, ◌%◌, ◌≤◌, ◌<◌}
use borrow.Author.Tests.{ltb-false, leb-true, leb-false, lt-ltb, le-ltb, le-leb, lt-leb, eq-eqb, ne_eqb, eqb-true, eqb-false}
use Rattle.tiles.proofs.laws.Below.{or_both, and_true}
use Rattle.hand_record.specs.Record.{count_in, length_of}
use Rattle.hand_record.specs.Lengths.{is_broken, record_length}
use Rattle.hand_record.proofs.laws.Lengths.{unbroken, broken_or_whole}
use Rattle.log_entry.specs.search.Lengths.{kind_in, argument_in, has_broken, span_of, records_length, is_other_form, with_header, win_length, multi_ron_length, pao_length}
use Rattle.log_entry.specs.search.Lengths.{length_by, correction_length, entry_length}
use Rattle.log_entry.specs.EntryKind.{is_result_kind}
use Rattle.log_entry.proofs.laws.Records.{all_unbroken}

-- the byte of a pao
pub pao_form : (s : List ℕ) → is_other_form s ≡ false → (1 ≤ length s) × (get_or s 0 0 % 8 ≤ 0)
pao_form s e = let p = or_both (ltb (length s) 1) (ltb 0 (get_or s 0 0 % 8)) e in (ltb-false (length s) 1 p.0, ltb-false 0 (get_or s 0 0 % 8) p.1)

-- ---- an entry of a kind, with its argument and the bytes after its header

pub with_header_none : (n : ℕ) → n ≡ 0 → with_header n ≡ 0
with_header_none n e = simp (eq-eqb n 0 e)

pub with_header_some : (n : ℕ) → (n ≡ 0 → ⊥) → with_header n ≡ n + 1
with_header_some n h = simp (ne_eqb n 0 h)

module _ (a : ℕ) (rest : List ℕ) where
  -- a win
  pub win_argument : (a ≡ 0 → ⊥) → win_length a rest ≡ 0
  win_argument h = rw (ne_eqb a 0 h)

  pub win_record : a ≡ 0 → win_length a rest ≡ with_header (record_length rest)
  win_record e = rw (eq-eqb a 0 e)

  -- two or three rons
  pub multi_ron_none : a ≡ 0 → multi_ron_length a rest ≡ 0
  multi_ron_none e = simp (eq-eqb a 0 e)

  pub multi_ron_over : 3 < a → multi_ron_length a rest ≡ 0
  multi_ron_over h = simp (ne_eqb a 0 (λ e. omega arith), lt-ltb 3 a h)

  pub multi_ron_records : (a ≡ 0 → ⊥) → a ≤ 3 → multi_ron_length a rest ≡ with_header (records_length a rest)
  multi_ron_records h l = simp (ne_eqb a 0 h, le-ltb 3 a l)

  -- a pao
  pub pao_argument : (a ≡ 0 → ⊥) → pao_length a rest ≡ 0
  pao_argument h = rw (ne_eqb a 0 h)

  pub pao_missing : a ≡ 0 → length rest < 1 → pao_length a rest ≡ 0
  pao_missing e h = simp (eq-eqb a 0 e, lt-ltb (length rest) 1 h)

  pub pao_bits_set : a ≡ 0 → 1 ≤ length rest → 0 < get_or rest 0 0 % 8 → pao_length a rest ≡ 0
  pao_bits_set e h l = simp (eq-eqb a 0 e, le-ltb (length rest) 1 h, lt-ltb 0 (get_or rest 0 0 % 8) l)

  pub pao_whole : a ≡ 0 → 1 ≤ length rest → get_or rest 0 0 % 8 ≤ 0 → pao_length a rest ≡ 2
  pao_whole e h l = simp (eq-eqb a 0 e, le-ltb (length rest) 1 h, le-ltb 0 (get_or rest 0 0 % 8) l)

  -- a kind
  pub length_win : (k : ℕ) → k ≡ 1 → length_by k a rest ≡ win_length a rest
  unfolding length_by
  length_win k e = rw e

  pub length_multi_ron : (k : ℕ) → k ≡ 4 → length_by k a rest ≡ multi_ron_length a rest
  unfolding length_by
  length_multi_ron k e = rw e

  pub length_pao : (k : ℕ) → k ≡ 5 → length_by k a rest ≡ pao_length a rest
  unfolding length_by
  length_pao k e = rw e

  pub length_over : (k : ℕ) → 5 < k → length_by k a rest ≡ 0
  unfolding length_by
  length_over k h =
      simp (
        ne_eqb k 0 (λ e. omega arith),
        ne_eqb k 1 (λ e. omega arith),
        ne_eqb k 2 (λ e. omega arith),
        ne_eqb k 3 (λ e. omega arith),
        ne_eqb k 4
            (λ e. omega arith),
        ne_eqb k 5 (λ e. omega arith),
      )

  pub length_plain : (k : ℕ) → (k ≡ 1 → ⊥) → k ≤ 3 → length_by k a rest ≡ 1
  unfolding length_by
  length_plain zero h l = refl
  length_plain (suc zero) h l = absurd (h refl)
  length_plain (suc (suc zero)) h l = refl
  length_plain (suc (suc (suc zero))) h l = refl
  length_plain (suc (suc (suc (suc k)))) h l = absurd (omega arith)

-- ---- the entry that bytes start with

pub length_is : (s : List ℕ) → 0 < length s → (kind_in s ≡ 6 → ⊥) → entry_length s ≡ length_by (kind_in s) (argument_in s) (drop 1 s)
unfolding entry_length
length_is [] h n = absurd (omega arith)
length_is (x ∷ l) h n = simp (ne_eqb (kind_in (x ∷ l)) 6 n)

pub length_correction : (s : List ℕ) → 0 < length s → kind_in s ≡ 6 → entry_length s ≡ correction_length (argument_in s) (drop 1 s)
unfolding entry_length
length_correction [] h e = absurd (omega arith)
length_correction (x ∷ l) h e = simp (eq-eqb (kind_in (x ∷ l)) 6 e)

-- where there are no bytes, the kind is 0; so there are some where it is not
pub kind_none : (s : List ℕ) → length s ≡ 0 → kind_in s < 1
kind_none [] e = omega arith
kind_none (x ∷ l) e = absurd (omega (arith, e))

kind_some : (s : List ℕ) → 1 ≤ kind_in s → 0 < length s
kind_some [] h = absurd (omega arith)
kind_some (x ∷ l) h = omega arith

-- a correction, by its argument and the bytes after its header
module _ (a : ℕ) (rest : List ℕ) where
  pub correction_argument : (a ≡ 0 → ⊥) → correction_length a rest ≡ 0
  correction_argument h = simp (ne_eqb a 0 h)

  pub correction_under : kind_in rest < 1 → correction_length a rest ≡ 0
  correction_under h = simp (lt-leb 1 (kind_in rest) h, and-false (eqb a 0))

  pub correction_over : 4 < kind_in rest → correction_length a rest ≡ 0
  correction_over h = simp (lt-leb (kind_in rest) 4 h, and-false (leb 1 (kind_in rest)), and-false (eqb a 0))

  pub correction_inside : a ≡ 0 → 1 ≤ kind_in rest → kind_in rest ≤ 4 → correction_length a rest ≡ with_header (entry_length rest)
  correction_inside e l h =
      simp (length_is rest (kind_some rest l) (λ k. omega (arith, h, k)), eq-eqb a 0 e, le-leb 1 (kind_in rest) l, le-leb (kind_in rest) 4 h)

  correction_bad : entry_length rest ≡ 0 → correction_length a rest ≡ 0
  correction_bad z = go (eqb a 0 && (leb 1 (kind_in rest) && leb (kind_in rest) 4)) refl
    where
      go : (t : Bool) → eqb a 0 && (leb 1 (kind_in rest) && leb (kind_in rest) 4) ≡ t → correction_length a rest ≡ 0
      go false e = rw e
      go true e =
          let p = and_true (eqb a 0) (leb 1 (kind_in rest) && leb (kind_in rest) 4) e in
          let q = and_true (leb 1 (kind_in rest)) (leb (kind_in rest) 4) p.1 in
          correction_inside (eqb-true a 0 p.0) (leb-true 1 (kind_in rest) q.0) (leb-true (kind_in rest) 4 q.1) ∙ with_header_none (entry_length rest) z

-- ---- what n bytes of an entry tell

-- n bytes of an entry: none, a win's, those of a multiple ron, a pao's, a header, or one and the entry inside a correction
pub data Told (k a : ℕ) (rest : List ℕ) (n : ℕ) : Type 0 where
  bad : n ≡ 0 → Told k a rest n
  won : k ≡ 1 → a ≡ 0 → is_broken rest ≡ false → n ≡ length_of (count_in rest) + 1 → Told k a rest n
  multi_ron : k ≡ 4 → 0 < a → a ≤ 3 → has_broken a rest ≡ false → n ≡ span_of a rest + 1 → Told k a rest n
  pao : k ≡ 5 → a ≡ 0 → is_other_form rest ≡ false → n ≡ 2 → Told k a rest n
  plain : (k ≡ 1 → ⊥) → k ≤ 3 → n ≡ 1 → Told k a rest n
  corrected : k ≡ 6 → a ≡ 0 → 1 ≤ kind_in rest → kind_in rest ≤ 4 → 0 < entry_length rest → n ≡ entry_length rest + 1 → Told k a rest n

told_win : (a : ℕ) (rest : List ℕ) → Told 1 a rest (win_length a rest)
told_win a rest = go (eqb a 0) refl
  where
    both : a ≡ 0 → ((is_broken rest ≡ true) × (record_length rest ≡ 0)) ⊎ ((is_broken rest ≡ false) × (record_length rest ≡ length_of (count_in rest)))
        → Told 1 a rest (win_length a rest)
    both e (inl b) = bad (win_record a rest e ∙ with_header_none (record_length rest) b.1)
    both e (inr u) =
        won refl e u.0 (win_record a rest e ∙ with_header_some (record_length rest) (λ z. omega (arith, z, u.1, unbroken rest u.0))
        ∙ ap (λ (n : ℕ). n + 1) u.1)

    go : (t : Bool) → eqb a 0 ≡ t → Told 1 a rest (win_length a rest)
    go true e = both (eqb-true a 0 e) (broken_or_whole rest)
    go false e = bad (win_argument a rest (eqb-false a 0 e))

told_multi_ron : (a : ℕ) (rest : List ℕ) → Told 4 a rest (multi_ron_length a rest)
unfolding records_length
told_multi_ron a rest = go (eqb a 0) refl (ltb 3 a) refl (has_broken a rest) refl
  where
    go : (z : Bool) → eqb a 0 ≡ z → (o : Bool) → ltb 3 a ≡ o → (b : Bool) → has_broken a rest ≡ b
        → Told 4 a rest (cond (z || o) 0 (with_header (cond b 0 (span_of a rest))))
    go true e o f b g = bad refl
    go false e true f b g = bad refl
    go false e false f true g = bad refl
    go false e false f false g =
        let n = eqb-false a 0 e in
        let p : 0 < a = omega (arith, n) in
        multi_ron refl p (ltb-false 3 a f) g (with_header_some (span_of a rest) (λ z. omega (arith, z, p, all_unbroken a rest g)))

told_pao : (a : ℕ) (rest : List ℕ) → Told 5 a rest (pao_length a rest)
told_pao a rest = go (eqb a 0) refl (is_other_form rest) refl
  where
    go : (t : Bool) → eqb a 0 ≡ t → (o : Bool) → is_other_form rest ≡ o → Told 5 a rest (cond t (cond o 0 2) 0)
    go true e true f = bad refl
    go true e false f = pao refl (eqb-true a 0 e) f refl
    go false e o f = bad refl

told_correction : (a : ℕ) (rest : List ℕ) → Told 6 a rest (correction_length a rest)
told_correction a rest = go (eqb a 0) refl (leb 1 (kind_in rest)) refl (leb (kind_in rest) 4) refl (eqb (entry_length rest) 0) refl
  where
    go : (z : Bool) → eqb a 0 ≡ z → (l : Bool) → leb 1 (kind_in rest) ≡ l → (h : Bool) → leb (kind_in rest) 4 ≡ h → (n : Bool) → eqb (entry_length rest) 0 ≡ n
        → Told 6 a rest (correction_length a rest)
    go false e l f h g n i = bad (correction_argument a rest (eqb-false a 0 e))
    go true e false f h g n i = bad (correction_under a rest (leb-false 1 (kind_in rest) f))
    go true e true f false g n i = bad (correction_over a rest (leb-false (kind_in rest) 4 g))
    go true e true f true g true i =
        bad (correction_bad a rest (eqb-true (entry_length rest) 0 i))
    go true e true f true g false i =
        let l = leb-true 1 (kind_in rest) f in
        let h = leb-true (kind_in rest) 4 g in
        let n = eqb-false (entry_length rest) 0 i in
        corrected refl (eqb-true a 0 e) l h (omega (arith, n)) (correction_inside a rest (eqb-true a 0 e) l h ∙ with_header_some (entry_length rest) n)

-- a kind that carries no other entry
pub told_by : (k a : ℕ) (rest : List ℕ) → (k ≡ 6 → ⊥) → Told k a rest (length_by k a rest)
told_by zero a rest n = plain (λ e. omega (arith, e)) (omega arith) (length_plain a rest 0 (λ e. omega (arith, e)) (omega arith))
told_by (suc zero) a rest n = rw (length_win a rest 1 refl) (told_win a rest)
told_by (suc (suc zero)) a rest n = plain (λ e. omega (arith, e)) (omega arith) (length_plain a rest 2 (λ e. omega (arith, e)) (omega arith))
told_by (suc (suc (suc zero))) a rest n = plain (λ e. omega (arith, e)) (omega arith) (length_plain a rest 3 (λ e. omega (arith, e)) (omega arith))
told_by (suc (suc (suc (suc zero)))) a rest n = rw (length_multi_ron a rest 4 refl) (told_multi_ron a rest)
told_by (suc (suc (suc (suc (suc zero))))) a rest n = rw (length_pao a rest 5 refl) (told_pao a rest)
told_by (suc (suc (suc (suc (suc (suc zero)))))) a rest n = absurd (n refl)
told_by (suc (suc (suc (suc (suc (suc (suc k))))))) a rest n =
    bad (length_over a rest _ (omega arith))

-- it is 40 bytes at most
pub by_most : (k a : ℕ) (rest : List ℕ) → (k ≡ 6 → ⊥) → length_by k a rest ≤ 40
by_most k a rest n = go (told_by k a rest n)
  where
    go : Told k a rest (length_by k a rest) → length_by k a rest ≤ 40
    go (bad e) = omega (arith, e)
    go (won w z u e) = omega (arith, e, unbroken rest u)
    go (multi_ron w p o u e) = omega (arith, e, o, all_unbroken a rest u)
    go (pao w z u e) = omega (arith, e)
    go (plain w l e) = omega (arith, e)
    go (corrected w z l h p e) = absurd (n w)

-- a kind that a correction can carry
pub result_most : (k : ℕ) → is_result_kind k ≡ true → k ≤ 4
result_most k e = leb-true k 4 (and_true (leb 1 k) (leb k 4) e).1

-- ---- any entry

module _ (s : List ℕ) (some : 0 < length s) where
  abbrev kind : ℕ
  kind = kind_in s

  abbrev argument : ℕ
  argument = argument_in s

  abbrev rest : List ℕ
  rest = drop 1 s

  pub told : Told kind argument rest (entry_length s)
  told = go (eqb kind 6) refl
    where
      go : (b : Bool) → eqb kind 6 ≡ b → Told kind argument rest (entry_length s)
      go true e = let k = eqb-true kind 6 e in rw (length_correction s some k, k) (told_correction argument rest)
      go false e = let k = eqb-false kind 6 e in rw (length_is s some k) (told_by kind argument rest k)
