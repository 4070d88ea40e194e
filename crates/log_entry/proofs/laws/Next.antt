-- What Next entry gives at an offset, by what the code finds there: the end, 14, or the part that lies inside the log.
use Rattle.std.specs.Prelude.{◌≡◌, ℕ, ◌+◌, ◌-◌, ◌≤◌, ◌<◌, length, drop}
use Rattle.std.proofs.Math.Path.{sym, ap}
use Rattle.std.proofs.Common.{◌∙◌, subst, arith, length-drop}
use mathlib.Core.List.{List, []}
use Rattle.std.proofs.Math.ListN.{take}
use Rattle.log_entry.specs.Entry.{IsEntry}
use Rattle.log_entry.specs.Next.{LogEntry, end, entry, bad}
use Rattle.log_entry.specs.Log.{next_of, part_in, refusal_in, part_at, refusal_at}
use Rattle.log_entry.proofs.laws.One.{one_next}
use Rattle.log_entry.specs.search.Lengths.{entry_length}
use Rattle.log_entry.specs.search.Found.{entry_of}
use Rattle.log_entry.proofs.laws.Parts.{first_part, none_empty, length_inside, part_length}
use Rattle.log_entry.proofs.laws.Exact.{part_entry, by_place, found_end, found_bad, found_entry, found_is}

-- the entry that bytes start with, as it is found
abbrev pub first_entry : List ℕ → LogEntry
first_entry s = record { part = first_part s; entry = entry_of (first_part s) }

module _ (log : List ℕ) (at : ℕ) where
  abbrev left : List ℕ
  left = drop at log

  pub some_left : at < length log → 0 < length left
  some_left h = omega (arith, length-drop at log)

  pub none_left : length log ≤ at → length left ≡ 0
  none_left h = omega (arith, length-drop at log)

  -- ---- the three apart

  pub next_end : length log ≤ at → next_of log at ≡ end
  next_end h = sym (one_next log at _ (found_is log at)) ∙ found_end log at h

  pub next_bad : at < length log → entry_length left ≡ 0 → next_of log at ≡ bad
  next_bad h e = sym (one_next log at _ (found_is log at)) ∙ found_bad log at h e

  pub next_entry : 0 < entry_length left → next_of log at ≡ entry (first_entry left)
  next_entry h = sym (one_next log at _ (found_is log at)) ∙ found_entry log at h

  pub refusal_end : length log ≤ at → refusal_at log at ≡ 0
  unfolding refusal_at
  refusal_end h = ap refusal_in (next_end h)

  pub refusal_bad : at < length log → entry_length left ≡ 0 → refusal_at log at ≡ 14
  unfolding refusal_at
  refusal_bad h e = ap refusal_in (next_bad h e)

  pub refusal_entry : (entry_length left ≡ 0 → ⊥) → refusal_at log at ≡ 0
  unfolding refusal_at
  refusal_entry e = ap refusal_in (next_entry (omega (arith, e)))

  -- ---- the part

  pub part_found : part_at log at ≡ first_part left
  unfolding part_at
  part_found =
      by_place log at (λ h. ap part_in (next_end h) ∙ sym (empty (none_empty left (none_left h)))) (λ h e. ap part_in (next_bad h e) ∙ sym (empty e))
      (λ h. ap part_in (next_entry h))
    where
      empty : entry_length left ≡ 0 → first_part left ≡ []
      empty e = ap (λ (n : ℕ). take n left) e

  pub length_part : length (part_at log at) ≡ entry_length left
  length_part = ap length part_found ∙ part_length left

  pub part_inside : length (part_at log at) ≤ length log - at
  part_inside = omega (arith, length_part, length_inside left, length-drop at log)

  -- empty past the end; the stretch that the code cuts
  pub part_at_end : length log ≤ at → part_at log at ≡ []
  unfolding part_at
  part_at_end h = ap part_in (next_end h)

  -- and where no entry stands
  pub part_none : entry_length left ≡ 0 → part_at log at ≡ []
  part_none e = part_found ∙ ap (λ (n : ℕ). take n left) e

  pub part_is : (n : ℕ) → n ≡ entry_length left → take (at + n - at) left ≡ part_at log at
  part_is n e =
      let m : at + n - at ≡ entry_length left = omega arith in
      rw m (sym part_found)

  -- ---- an entry, by its part

  abbrev pub entry_at : LogEntry
  entry_at = record { part = part_at log at; entry = entry_of (part_at log at) }

  module _ (h : 0 < length (part_at log at)) where
    stands : 0 < entry_length left
    stands = omega (arith, h, length_part)

    pub next_part : next_of log at ≡ entry entry_at
    next_part = next_entry stands ∙ ap (λ (p : List ℕ). entry (record { part = p; entry = entry_of p })) (sym part_found)

    pub part_is_entry : IsEntry (part_at log at) (entry_of (part_at log at))
    part_is_entry = subst (λ (p : List ℕ). IsEntry p (entry_of p)) (sym part_found) (part_entry left stands)
