-- An entry booked, and what it is of the log's text.
use Rattle.std.specs.Prelude.{◌≡◌, refl, List, [], ◌∷◌, ℕ, zero, suc, ◌+◌, ◌-◌, ◌/◌, ◌%◌, ◌≤◌, ◌<◌, length, get_or, take, drop}
use Rattle.std.proofs.Common.{sym, ◌∙◌, arith, ne_eqb}
use Rattle.std.proofs.Math.Path.{ap}
use Rattle.std.proofs.Math.Seq.{drop-drop}
use Rattle.position.specs.Booking.{result}
use Rattle.game.specs.declared.Game.{Game}
use Rattle.game.specs.Game.{booking, correction, game_refusal, game_after}
use Rattle.game.specs.Runs.{Books}
use Rattle.log_entry.specs.declared.EntryKind.{EntryKind}
use Rattle.log_entry.specs.declared.EntryKind.TheVariants.{Riichi, Win, Draw, Chombo, MultiRon, Pao, Correction}
use Rattle.log_entry.specs.EntryKind.{number}
use Rattle.log_entry.specs.Entry.{letter_of}
use Rattle.log_entry.specs.Log.{part_at, refusal_at, entries_of}
use Rattle.log_entry.specs.search.Lengths.{kind_in, argument_in}
use Rattle.log_entry.specs.search.Found.{result_by, booking_by, result_of, booking_of, entry_of}
use Rattle.log_entry.proofs.laws.Parts.{from_on}
use Rattle.log_entry.proofs.laws.Letters.{IsLetter, letter_told}
use Rattle.log_entry.proofs.laws.Exact.{by_place}
use Rattle.log_entry.proofs.laws.Next.{next_end, next_bad, next_part, refusal_end, refusal_bad, length_part, part_inside, entry_at, part_is_entry}
use Rattle.log_entry.proofs.laws.Walk.{parts_end, parts_turn}
use Rattle.log_walk.specs.Walk.{Step, no_entry, step_by, step_of}

-- ---- the entry of a part, as the code has it: the bytes after a header are a stretch of the part

module _ (b : Game) (s : List ℕ) (k a x : ℕ) (h : Game) where
  pub part_booking : k ≡ kind_in s → (k ≡ 6 → ⊥) → a ≡ argument_in s → Books b (booking (booking_by k a (take (length s - 1) (drop 1 s)))) x h
      → Books b (entry_of s) x h
  unfolding entry_of booking_of
  part_booking ek n ea p = rw (ne_eqb (kind_in s) 6 (λ e. n (ek ∙ e))) (rw (from_on 1 s, ek, ea) at p)

  -- the header of the entry inside is the second byte
  inner_header : get_or (drop 1 s) 0 0 ≡ get_or s 1 0
  inner_header = go s
    where
      go : (l : List ℕ) → get_or (drop 1 l) 0 0 ≡ get_or l 1 0
      go [] = refl
      go (y ∷ l) = refl

  pub inner_kind : k ≡ get_or s 1 0 / 16 → k ≡ kind_in (drop 1 s)
  inner_kind e = e ∙ ap (λ (n : ℕ). n / 16) (sym inner_header)

  pub part_correction : kind_in s ≡ 6 → k ≡ get_or s 1 0 / 16 → a ≡ get_or s 1 0 % 16 → Books b (correction (result_by k a (take (length s - 2) (drop 2 s)))) x h
      → Books b (entry_of s) x h
  unfolding entry_of result_of
  part_correction e ek ea p = rw (e, drop-drop 1 1 s, inner_header) (rw (from_on 2 s, ek, ea) at p)

-- a kind that is neither riichi nor pao books a result
pub by_result : (k : EntryKind) → (k ≡ Riichi → ⊥) → (k ≡ Pao → ⊥) → (a : ℕ) (s : List ℕ) → booking_by (number k) a s ≡ result (result_by (number k) a s)
by_result Riichi r p a s = absurd (r refl)
by_result Win r p a s = refl
by_result Draw r p a s = refl
by_result Chombo r p a s = refl
by_result MultiRon r p a s = refl
by_result Pao r p a s = absurd (p refl)
by_result Correction r p a s = refl

pub not_correction : (k : EntryKind) → (k ≡ Correction → ⊥) → number k ≡ 6 → ⊥
not_correction Riichi n e = omega (arith, e)
not_correction Win n e = omega (arith, e)
not_correction Draw n e = omega (arith, e)
not_correction Chombo n e = omega (arith, e)
not_correction MultiRon n e = omega (arith, e)
not_correction Pao n e = omega (arith, e)
not_correction Correction n e = n refl

module _ (k : Game) (log : List ℕ) (at : ℕ) where
  abbrev part : List ℕ
  part = part_at log at

  abbrev booked : Step
  booked = record { refusal = game_refusal k (entry_of part); letter = letter_of (entry_of part); len = length part; game = game_after k (entry_of part) }

  pub step_none : length part ≡ 0 → step_of k log at ≡ no_entry (refusal_at log at) k
  unfolding step_of
  step_none e =
      by_place log at (λ h. ap (step_by k) (next_end log at h) ∙ ap (λ (n : ℕ). no_entry n k) (sym (refusal_end log at h)))
      (λ h z. ap (step_by k) (next_bad log at h z) ∙ ap (λ (n : ℕ). no_entry n k) (sym (refusal_bad log at h z)))
      (λ h. absurd (omega (arith, h, e, length_part log at)))

  step_some : 0 < length part → step_of k log at ≡ booked
  unfolding step_of
  step_some h = ap (step_by k) (next_part log at h)

  -- as the code has it
  pub step_entry : (s : List ℕ) → s ≡ part → (length s ≡ 0 → ⊥) → (y : ℕ) → IsLetter (kind_in s) y → (x : ℕ) (h : Game) → Books k (entry_of s) x h
      → record { refusal = x; letter = y; len = length s; game = h } ≡ step_of k log at
  step_entry s e l y ly x h b =
      let m : 0 < length part = omega (arith, l, ap length e) in
      let ey : y ≡ letter_of (entry_of part) = letter_told part (entry_of part) (part_is_entry log at m) m y (rw e at ly) in
      rw (step_some m, ey, ← e, b.0, b.1)

  -- what `book_at` gives, by the length that it tells
  pub step_length : (step_of k log at).len ≡ length part
  step_length = go (length part) refl
    where
      go : (n : ℕ) → length part ≡ n → (step_of k log at).len ≡ length part
      go zero e = rw (step_none e) (sym e)
      go (suc n) e = rw (step_some (omega (arith, e)))

  pub no_parts : (step_of k log at).len ≡ 0 → entries_of (drop at log) ≡ []
  no_parts z = parts_end log at (sym step_length ∙ z)

  module _ (l : (step_of k log at).len ≡ 0 → ⊥) where
    some_part : 0 < length part
    some_part = go (length part) refl
      where
        go : (n : ℕ) → length part ≡ n → 0 < length part
        go zero e = absurd (l (step_length ∙ e))
        go (suc n) e = omega (arith, e)

    pub step_is : step_of k log at ≡ booked
    step_is = step_some some_part

    pub parts_are : entries_of (drop at log) ≡ entry_at log at ∷ entries_of (drop (at + length part) log)
    parts_are = parts_turn log at some_part

    pub inside : (0 < length part) × (at + length part ≤ length log)
    inside = (some_part, omega (arith, some_part, part_inside log at))
