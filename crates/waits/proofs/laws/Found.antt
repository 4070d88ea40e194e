-- The test of a kind holds exactly where it is a wait.
use Rattle.std.specs.Prelude.{◌≡◌, ◌↔◌, ◌⊎◌, ℕ, suc, ◌+◌, ◌-◌, ◌≤◌, ◌<◌, ltb, eqb, length, get_or, set}
use Rattle.std.proofs.Math.Path.{refl, sym}
use Rattle.std.proofs.Common.{◌∙◌, inl, inr, arith, get_or-set_same, get_or-set_other}
use mathlib.Core.Bool.{Bool, true, false, ◌&&◌, ◌||◌}
use Rattle.std.proofs.Math.Logic.{⊎_elim}
use mathlib.Core.List.{List, [], ◌∷◌, Memᴰ as Member}
use borrow.Author.Tests.{ltb-true, ltb-false, lt-ltb, eqb-true, eqb-false, eq-eqb}
use Rattle.std.proofs.Math.ListN.{length-set, get_or-eq_default}
use Rattle.std.proofs.Math.Seq.{ext_get_or}
use Rattle.std.specs.List.{list_any}
use Rattle.tiles.specs.Groups.{at_kind}
use Rattle.tiles.specs.Tally.{tally_of, more}
use Rattle.tiles.proofs.laws.Below.{and_true}
use Rattle.tiles.proofs.laws.Tally.{length_tally, get_d_tally}
use Rattle.tiles.proofs.laws.Tabulate.{length_tabulate, get_d_tabulate}
use Rattle.hand.specs.declared.Held.{Held}
use Rattle.hand.specs.Held.{in_others, in_held}
use Rattle.hand.proofs.laws.Held.{tally_plus}
use Rattle.reading.specs.declared.Reading.{Reading}
use Rattle.reading.specs.Reading.{is_seven_pairs, is_orphans, of_shape, IsReading, regular, pairs, orphans}
use Rattle.reading.proofs.laws.Groups.{at_same}
use Rattle.reading_splits.specs.search.SplitsInto.{splits_into}
use Rattle.reading_splits.proofs.laws.SplitsInto.{splits_exactly}
use Rattle.reading_splits.proofs.laws.Regular.{regular_splits, splits_regular}
use Rattle.waits.specs.Waits.{with_one, IsWait}
use Rattle.waits.specs.search.Found.{reads, is_wait, wait_set}

-- ---- a reading

or_either : (a b : Bool) → a || b ≡ true → (a ≡ true) ⊎ (b ≡ true)
or_either true b e = inl refl
or_either false b e = inr e

or_right : (a b : Bool) → b ≡ true → a || b ≡ true
or_right true b e = refl
or_right false b e = e

module _ (t : List ℕ) (m k : ℕ) (l : length t ≡ 34) (h : 1 ≤ get_or t k 0) where
  reads_reading : reads t m ≡ true → (r : Reading) × IsReading t m k r
  unfolding reads
  reads_reading e =
      ⊎_elim (λ p. let r = splits_regular t m k l h ((splits_exactly (4 - m) t l).0 p) in (r.0, regular r.1))
      (λ q.
      let b = and_true (eqb m 0) (is_seven_pairs t || is_orphans t) q in
      let z = eqb-true m 0 b.0 in
      ⊎_elim (λ p. (of_shape 1, pairs (record { meldless = z; kinds = p; reading = refl })))
      (λ p. (of_shape 2, orphans (record { meldless = z; kinds = p; reading = refl })))
      (or_either (is_seven_pairs t) (is_orphans t) b.1))
      (or_either (splits_into (suc (4 - m)) true t) (eqb m 0 && (is_seven_pairs t || is_orphans t)) e)

  reading_reads : (r : Reading) → IsReading t m k r → reads t m ≡ true
  unfolding reads
  reading_reads r (regular g) = rw ((splits_exactly (4 - m) t l).1 (regular_splits t m k r g))
  reading_reads r (pairs p) = or_right (splits_into (suc (4 - m)) true t) _ (rw (eq-eqb m 0 p.meldless, p.kinds))
  reading_reads r (orphans p) = or_right (splits_into (suc (4 - m)) true t) _ (rw (eq-eqb m 0 p.meldless, p.kinds) (or_right (is_seven_pairs t) true refl))

-- ---- a wait

module _ (x : Held) (k : ℕ) (g : k < 34) where
  one_more : 1 ≤ get_or (with_one x k) k 0
  unfolding with_one
  one_more = rw (get_d_tally (λ j. in_others x j + at_kind k 1 j) k g) (omega (arith, at_same k 1))

  length_more : length (with_one x k) ≡ 34
  unfolding with_one
  length_more = length_tally (λ j. in_others x j + at_kind k 1 j)

  pub wait_exactly : (is_wait x k ≡ true) ↔ IsWait x k
  unfolding is_wait
  wait_exactly = (
    λ e.
        let b = and_true (ltb (in_held x k) 4) (reads (with_one x k) x.m) e in
        let r = reads_reading (with_one x k) x.m k length_more one_more b.1 in
        record { kind = g; free = ltb-true (in_held x k) 4 b.0; reading = r.0; reads = r.1 },
    λ w. rw (lt-ltb (in_held x k) 4 w.free, reading_reads (with_one x k) x.m k length_more one_more w.reading w.reads),
  )

-- ---- the set of waits

pub length_waits : (x : Held) → length (wait_set x) ≡ 34
unfolding wait_set
length_waits x = length_tabulate 34 0 (is_wait x)

set_at : (x : Held) (k : ℕ) → k < 34 → get_or (wait_set x) k false ≡ is_wait x k
unfolding wait_set
set_at x k g = get_d_tabulate false 34 (is_wait x) k g

pub set_exactly : (x : Held) (k : ℕ) → (get_or (wait_set x) k false ≡ true) ↔ IsWait x k
set_exactly x k = (λ e. to (ltb k 34) refl e, λ w. set_at x k w.kind ∙ (wait_exactly x k w.kind).1 w)
  where
    to : (b : Bool) → ltb k 34 ≡ b → get_or (wait_set x) k false ≡ true → IsWait x k
    to true q e = let g = ltb-true k 34 q in (wait_exactly x k g).0 (sym (set_at x k g) ∙ e)
    to false q e =
        absurd (mathlib.Core.Bool.false≢true (sym (get_or-eq_default (wait_set x) false {n = k} (omega (arith, length_waits x, ltb-false k 34 q))) ∙ e))

-- what a loop over the kinds has told of the first n: t the concealed tiles, held all that are held
abbrev pub Told : ℕ → List ℕ → List ℕ → List Bool → ℕ → Type 0
Told m t held w n = (j : ℕ) → j < n → get_or w j false ≡ (ltb (get_or held j 0) 4 && reads (more t j 1) m)

pub one_told : (m : ℕ) (t held : List ℕ) (w : List Bool) (n : ℕ) (b : Bool) → n < length w → Told m t held w n
    → b ≡ (ltb (get_or held n 0) 4 && reads (more t n 1) m) → Told m t held (set w n b) (n + 1)
one_told m t held w n b l h e j g = go (eqb j n) refl
  where
    go : (c : Bool) → eqb j n ≡ c → get_or (set w n b) j false ≡ (ltb (get_or held j 0) 4 && reads (more t j 1) m)
    go true q = rw (eqb-true j n q) (get_or-set_same w n b false l ∙ e)
    go false q = let d : j ≡ n → ⊥ = eqb-false j n q in get_or-set_other w n j b false d ∙ h j (omega arith)

module _ (x : Held) (t held : List ℕ) (w : List Bool) (l : length t ≡ 34) (e : t ≡ tally_of (in_others x)) (f : held ≡ tally_of (in_held x)) where
  with_one_lem : (k : ℕ) → more t k 1 ≡ with_one x k
  unfolding with_one more
  with_one_lem k = tally_plus t (in_others x) l e (more t k 1) k 1 (rw length-set l) refl

  pub all_told : length w ≡ 34 → Told x.m t held w 34 → w ≡ wait_set x
  unfolding is_wait
  all_told m h =
      ext_get_or false w (wait_set x) (m ∙ sym (length_waits x))
      (λ k g. rw (set_at x k (omega arith), ← with_one_lem k, ← get_d_tally (in_held x) k (omega arith), ← f) (h k (omega arith)))

-- ---- one of a list

any_member : (l : List ℕ) (p : ℕ → Bool) → list_any p l ≡ true → (d : ℕ) × Member d l × (p d ≡ true)
any_member [] p e = absurd (mathlib.Core.Bool.false≢true e)
any_member (x ∷ l) p e =
    ⊎_elim (λ h. (x, Member.head refl, h)) (λ h. let r = any_member l p h in (r.0, Member.tail r.1, r.2)) (or_either (p x) (list_any p l) e)

member_any : (l : List ℕ) (p : ℕ → Bool) (d : ℕ) → Member d l → p d ≡ true → list_any p l ≡ true
member_any [] p d m e = elim m [ ]
member_any (x ∷ l) p d (Member.head q) e = rw (← q, e)
member_any (x ∷ l) p d (Member.tail m) e = or_right (p x) _ (member_any l p d m e)

pub any_exactly : (l : List ℕ) (p : ℕ → Bool) → (list_any p l ≡ true) ↔ ((d : ℕ) × Member d l × (p d ≡ true))
any_exactly l p = (any_member l p, λ d. member_any l p d.0 d.1 d.2)
