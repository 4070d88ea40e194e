-- The walk a part at a time, and what holds all along it.
use Rattle.std.specs.Prelude.{◌≡◌, refl, ◌⊎◌, ◌↔◌, ℕ, zero, suc, ◌+◌, ◌≤◌, ◌<◌, length, take, drop}
use Rattle.std.proofs.Math.Path.{ap}
use Rattle.std.proofs.Common.{sym, ◌∙◌, inl, inr, ⊎_elim, arith, length-append, take-append-drop, drop-drop, take_all}
use mathlib.Core.List.{List, [], ◌∷◌, ◌++◌, append_assoc}
use Rattle.std.proofs.Math.ListN.{length-drop}
use Rattle.std.proofs.Math.Seq.{take-append_seam}
use Rattle.log_entry.specs.Next.{LogEntry, Next, end, entry, bad}
use Rattle.log_entry.specs.Log.{next_of, part_at, refusal_at, entries_by, entries_few, entries_of, laid, stop_of}
use Rattle.log_entry.specs.search.Lengths.{entry_length}
use Rattle.log_entry.proofs.laws.Parts.{first_part, none_empty, length_inside, part_length}
use Rattle.log_entry.proofs.laws.Exact.{by_place}
use Rattle.log_entry.proofs.laws.Next.{first_entry, next_end, next_bad, next_entry, refusal_end, refusal_bad, length_part, part_at_end, entry_at, next_part}

-- what holds where no entry stands, and at an entry whenever after it, holds of all bytes
module _ (P : List ℕ → Type 0) (none : (s : List ℕ) → entry_length s ≡ 0 → P s) (entry : (s : List ℕ) → 0 < entry_length s → P (drop (entry_length s) s) → P s) where
  along_fuel : (fuel : ℕ) (s : List ℕ) → length s ≤ fuel → P s
  along_fuel zero s h = none s (none_empty s (omega arith))
  along_fuel (suc fuel) s h = go (λ p. along_fuel fuel (drop (entry_length s) s) (omega (arith, p, length-drop (entry_length s) s))) (entry_length s) refl
    where
      go : (0 < entry_length s → P (drop (entry_length s) s)) → (n : ℕ) → entry_length s ≡ n → P s
      go r zero e = none s e
      go r (suc n) e = let p : 0 < entry_length s = omega (arith, e) in entry s p (r p)

  pub along : (s : List ℕ) → P s
  along s = along_fuel (length s) s (omega arith)

-- ---- parts

-- where bytes start with none
next_none : (s : List ℕ) (more : ℕ → List LogEntry) → entry_length s ≡ 0 → entries_by (next_of s 0) more ≡ []
next_none s more e =
    by_place s 0 (λ h. ap (λ (n : Next). entries_by n more) (next_end s 0 h)) (λ h z. ap (λ (n : Next). entries_by n more) (next_bad s 0 h z))
    (λ h. absurd (omega (arith, h, e)))

few_none : (fuel : ℕ) (s : List ℕ) → entry_length s ≡ 0 → entries_few fuel s ≡ []
unfolding entries_few
few_none zero s e = refl
few_none (suc fuel) s e = next_none s (λ n. entries_few fuel (drop n s)) e

few_some : (fuel : ℕ) (s : List ℕ) → 0 < entry_length s → entries_few (suc fuel) s ≡ first_entry s ∷ entries_few fuel (drop (entry_length s) s)
unfolding entries_few
few_some fuel s h =
    ap (λ (n : Next). entries_by n (λ k. entries_few fuel (drop k s))) (next_entry s 0 h)
    ∙ ap (λ (k : ℕ). first_entry s ∷ entries_few fuel (drop k s)) (part_length s)

-- more fuel changes nothing
few_enough : (s : List ℕ) (fuel more : ℕ) → length s ≤ fuel → length s ≤ more → entries_few fuel s ≡ entries_few more s
few_enough =
    along (λ s. (fuel more : ℕ) → length s ≤ fuel → length s ≤ more → entries_few fuel s ≡ entries_few more s)
    (λ s e f m h g. few_none f s e ∙ sym (few_none m s e)) both
  where
    both : (s : List ℕ) → 0 < entry_length s → ((fuel more : ℕ) → length (drop (entry_length s) s) ≤ fuel → length (drop (entry_length s) s) ≤ more
        → entries_few fuel (drop (entry_length s) s) ≡ entries_few more (drop (entry_length s) s)) → (fuel more : ℕ) → length s ≤ fuel → length s ≤ more
        → entries_few fuel s ≡ entries_few more s
    both s p r zero m h g = absurd (omega (arith, length_inside s))
    both s p r (suc f) zero h g = absurd (omega (arith, length_inside s))
    both s p r (suc f) (suc m) h g =
        let l = length-drop (entry_length s) s in
        few_some f s p ∙ ap (λ (rest : List LogEntry). first_entry s ∷ rest) (r f m (omega arith) (omega arith)) ∙ sym (few_some m s p)

module _ (s : List ℕ) where
  pub parts_none : entry_length s ≡ 0 → entries_of s ≡ []
  unfolding entries_of
  parts_none e = few_none (length s) s e

  pub parts_some : 0 < entry_length s → entries_of s ≡ first_entry s ∷ entries_of (drop (entry_length s) s)
  unfolding entries_of
  parts_some h =
      let l = length-drop (entry_length s) s in
      few_enough s (length s) (suc (length s)) (omega arith) (omega arith) ∙ few_some (length s) s h
      ∙ ap (λ (rest : List LogEntry). first_entry s ∷ rest)
      (few_enough (drop (entry_length s) s) (length s) (length (drop (entry_length s) s)) (omega arith) (omega arith))

-- ---- from an offset of a log

module _ (log : List ℕ) (at : ℕ) where
  pub parts_end : length (part_at log at) ≡ 0 → entries_of (drop at log) ≡ []
  parts_end z = parts_none (drop at log) (sym (length_part log at) ∙ z)

-- the three as numbers, and the entry of one that is an entry
abbrev number : Next → ℕ
number end = 0
number (entry x) = 1
number bad = 2

abbrev entry_in : LogEntry → Next → LogEntry
entry_in d end = d
entry_in d (entry x) = x
entry_in d bad = d

-- what Next entry gives comes next
pub entry_turn : (log : List ℕ) (at : ℕ) (x : LogEntry) → next_of log at ≡ entry x
    → entries_of (drop at log) ≡ x ∷ entries_of (drop (at + length x.part) log)
entry_turn log at x e =
    by_place log at (λ h. absurd (other (ap number (sym (next_end log at h) ∙ e)))) (λ h z. absurd (others (ap number (sym (next_bad log at h z) ∙ e)))) turn
  where
    other : ◌≡◌ {A = ℕ} 0 1 → ⊥
    other q = omega (arith, q)

    others : ◌≡◌ {A = ℕ} 2 1 → ⊥
    others q = omega (arith, q)

    turn : 0 < entry_length (drop at log) → entries_of (drop at log) ≡ x ∷ entries_of (drop (at + length x.part) log)
    turn h =
        let y : first_entry (drop at log) ≡ x = ap (entry_in x) (sym (next_entry log at h) ∙ e) in
        let l : length x.part ≡ entry_length (drop at log) = ap (λ (z : LogEntry). length z.part) (sym y) ∙ part_length (drop at log) in
        rw (l, ← drop-drop (entry_length (drop at log)) at log) (parts_some (drop at log) h
        ∙ ap (λ (z : LogEntry). z ∷ entries_of (drop (entry_length (drop at log)) (drop at log))) y)

-- as the code has it
pub parts_turn : (log : List ℕ) (at : ℕ) → 0 < length (part_at log at)
    → entries_of (drop at log) ≡ entry_at log at ∷ entries_of (drop (at + length (part_at log at)) log)
parts_turn log at h = entry_turn log at (entry_at log at) (next_part log at h)

-- ---- the whole walk

-- where an entry stands
module _ (s : List ℕ) (p : 0 < entry_length s) where
  abbrev after : List ℕ
  after = drop (entry_length s) s

  stop_turn : stop_of s ≡ entry_length s + stop_of after
  stop_turn = rw (parts_some s p, length-append (first_part s) (laid (entries_of after)), part_length s)

  left_turn : drop (stop_of s) s ≡ drop (stop_of after) after
  left_turn = ap (λ (n : ℕ). drop n s) stop_turn ∙ sym (drop-drop (stop_of after) (entry_length s) s)

-- the parts laid end to end start the bytes
pub laid_start : (s : List ℕ) → laid (entries_of s) ++ drop (stop_of s) s ≡ s
laid_start = along (λ s. laid (entries_of s) ++ drop (stop_of s) s ≡ s) (λ s e. rw (parts_none s e)) turn
  where
    turn : (s : List ℕ) (p : 0 < entry_length s) → laid (entries_of (after s p)) ++ drop (stop_of (after s p)) (after s p) ≡ after s p
        → laid (entries_of s) ++ drop (stop_of s) s ≡ s
    turn s p r =
        ap (λ (l : List ℕ). laid (entries_of s) ++ l) (left_turn s p)
        ∙ rw (parts_some s p, append_assoc (first_part s) (laid (entries_of (after s p))) (drop (stop_of (after s p)) (after s p)), r)
        (take-append-drop (entry_length s) s)

pub laid_prefix : (log : List ℕ) → laid (entries_of log) ≡ take (stop_of log) log
laid_prefix log = sym (take-append_seam (laid (entries_of log)) (drop (stop_of log) log)) ∙ ap (take (stop_of log)) (laid_start log)

-- it ends inside the log, where no entry stands
pub stop_within : (log : List ℕ) → stop_of log ≤ length log
stop_within log = omega (arith, ap length (laid_start log), length-append (laid (entries_of log)) (drop (stop_of log) log))

pub no_entry_left : (s : List ℕ) → entry_length (drop (stop_of s) s) ≡ 0
no_entry_left = along (λ s. entry_length (drop (stop_of s) s) ≡ 0) (λ s e. rw (parts_none s e) e) (λ s p r. rw (left_turn s p) r)

-- a part has a byte at least
pub parts_few : (s : List ℕ) → length (entries_of s) ≤ length s
parts_few =
    along (λ s. length (entries_of s) ≤ length s) (λ s e. rw (parts_none s e) (omega arith))
    (λ s p r. rw (parts_some s p) (omega (arith, r, length-drop (entry_length s) s, length_inside s)))

-- ---- end and 14 apart

module _ (log : List ℕ) (at : ℕ) where
  pub end_exactly : ((length (part_at log at) ≡ 0) × (refusal_at log at ≡ 0)) ↔ (length log ≤ at)
  end_exactly = (
    λ h. by_place log at (λ g. g) (λ l e. absurd (omega (arith, h.1, refusal_bad log at l e))) (λ l. absurd (omega (arith, l, length_part log at, h.0))),
    λ g. (ap length (part_at_end log at g), refusal_end log at g),
  )

-- where the walk ends
pub ends_at : (log : List ℕ) → (length log ≡ stop_of log) ⊎ (refusal_at log (stop_of log) ≡ 14)
ends_at log =
    by_place log (stop_of log) (λ g. inl (omega (arith, g, stop_within log))) (λ l e. inr (refusal_bad log (stop_of log) l e))
    (λ l. absurd (omega (arith, l, no_entry_left log)))

pub laid_all : (log : List ℕ) → (refusal_at log (stop_of log) ≡ 14 → ⊥) → laid (entries_of log) ≡ log
laid_all log h = ⊎_elim (λ e. laid_prefix log ∙ take_all (stop_of log) log (omega (arith, e))) (λ e. absurd (h e)) (ends_at log)
