-- Texts put into a buffer one after the other.
use Rattle.std.specs.Prelude.{◌≡◌, refl, List, [], ◌∷◌, ◌++◌, ℕ, ◌+◌, ◌/◌, ◌%◌, ◌≤◌, ◌<◌, length, take, drop, set}
use Rattle.std.proofs.Common.{ap, sym, ◌∙◌, arith, length-append}
use Rattle.std.proofs.lemmas.List.{length-take-le, take_all}
use Rattle.std.proofs.lemmas.List.Edits.{sets-eq}
use Rattle.std.proofs.lemmas.Slice.{put_mid-paste}
use borrow.Rule.Slice.PartMut.{put_mid}
use Rattle.std.proofs.Math.Seq.{take-append_seam}
use Rattle.bits.proofs.laws.Pack.{sets_append}
use Rattle.text.specs.Text.{digits_of}
use Rattle.text.specs.Put.{Put}
use Rattle.text.proofs.laws.Digits.{digits_one, digits_more}

-- nothing; one text after another; one byte more
pub put_none : (l : List ℕ) (at : ℕ) → Put l at [] l at
put_none l at = record { place = omega arith; bytes = refl }

pub put_then : {l m n f g : List ℕ} {at e r : ℕ} → Put l at f m e → Put m e g n r → Put l at (f ++ g) n r
put_then {l} {m} {n} {f} {g} {at} {e} {r} p q =
    record { place = rw length-append (omega (arith, p.place, q.place)); bytes = rw (q.bytes, p.bytes, p.place, sets_append) }

pub put_after : {l m f : List ℕ} {at e : ℕ} (a : ℕ) → Put l at f m e → Put l at (f ++ (a ∷ [])) (set m e a) (e + 1)
put_after a p = put_then p (record { place = refl; bytes = refl })

-- one digit, and the last digit after those of a tenth
pub put_one : (n at : ℕ) (l : List ℕ) → n < 10 → Put l at (digits_of n) (set l at (48 + n)) (at + 1)
put_one n at l h = rw (digits_one n h) (put_after (48 + n) (put_none l at))

pub put_more : (n : ℕ) {at e : ℕ} {l m : List ℕ} → 10 ≤ n → Put l at (digits_of (n / 10)) m e → Put l at (digits_of n) (set m e (48 + n % 10)) (e + 1)
put_more n h p = rw (digits_more n h) (put_after (48 + n % 10) p)

-- a text copied into its part of the buffer: k is the part's length, new what it holds then
pub put_part : (b new text : List ℕ) (at k : ℕ) → new ≡ text → length text ≡ k → at + k ≤ length b → Put b at text (put_mid at k b new) (at + k)
put_part b new text at k e l h = record {
  place = omega arith;
  bytes = put_mid-paste at k b new text (length text) e l refl ∙ ap (λ (l : List ℕ). take at b ++ l ++ drop (at + length text) b) (take_all (length text) text (omega arith)) ∙ sym (sets-eq text b at (omega arith));
}

-- what stands in a buffer up to the place after a text that was put there, and of one put at its start
pub take_put_at : {old text new : List ℕ} {at n : ℕ} → Put old at text new n → n ≤ length old → take n new ≡ take at old ++ text
take_put_at {old} {text} {new} {at} p h =
    let l : at + length text ≤ length old = omega (arith, p.place) in
    let m : length (take at old ++ text) ≡ at + length text = rw (length-append, length-take-le at old (omega (arith, l))) in
    rw (p.bytes, p.place, sets-eq text old at l, ← m) (take-append_seam (take at old ++ text) _)

pub take_put : {old text new : List ℕ} {n : ℕ} → Put old 0 text new n → n ≤ length old → take n new ≡ text
take_put p h = take_put_at p h
