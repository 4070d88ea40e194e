-- What holds before every buffer that is printed: what is printed and what is left make up the text.
use Rattle.std.proofs.Common.{◌≡◌, ap, List, [], ℕ, ◌+◌, ◌*◌, ◌≤◌, ◌<◌, length, arith}
use Rattle.log_walk.specs.declared.Walk.{Walk}
use Rattle.log_walk.specs.declared.Printed.{Printed}
use Rattle.log_walk.specs.Walk.{started, printed_text, text_left, lines_of}
use Rattle.log_walk.proofs.laws.Through.{moved, lengths, text_whole}

abbrev pub Kept : List ℕ → List ℕ → Walk → ℕ → Type 0
Kept s page w printed =
    (length page ≡ 65536) × (w.at ≤ length s) × (w.entry ≤ w.at + 1) × (printed ≤ 65536 * w.at) × (printed + length (text_left w s) ≡ length (printed_text s))

module _ (s : List ℕ) (h : length s ≤ 65536) where
  pub starts : (page : List ℕ) (w : Walk) → length page ≡ 65536 → w ≡ started → Kept s page w 0
  starts page w l e = rw e (l, omega arith, omega arith, omega arith, omega (arith, ap length (text_whole s h)))

  -- r is what `lines` gives
  module _ (page : List ℕ) (w : Walk) (printed : ℕ) (k : Kept s page w printed) (r : Printed) (e : r ≡ lines_of (length page) w s) where
    left : r.written + length (text_left r.walk s) ≡ length (text_left w s)
    left = rw e (lengths (length page) w s)

    inside : r.walk.at ≤ length s
    inside = rw e ((moved (length page) w s).inside k.1)

    count : r.walk.entry ≤ r.walk.at + 1
    count = rw e (omega (arith, (moved (length page) w s).count, k.2))

    pub fits : r.written ≤ 65536
    fits = let f : r.written ≤ length page = rw e ((moved (length page) w s).fits (omega arith)) in omega (arith, f, k.0)

    ahead : (r.written ≡ 0 → ⊥) → w.at < r.walk.at
    ahead = rw e (λ z. (moved (length page) w s).ahead (omega (arith, z, (moved (length page) w s).size)))

    pub ends : r.written ≡ 0 → (83 + r.written ≤ length page → r.walk.entry < 4294967295 → text_left r.walk s ≡ []) → printed ≡ length (printed_text s)
    ends z none = omega (arith, k.4, left, z, ap length (none (omega (arith, z, k.0)) (omega (arith, count, inside, h))))

    pub turns : (out : List ℕ) → length out ≡ 65536 → (r.written ≡ 0 → ⊥)
        → Kept s out r.walk (printed + r.written) × (length (text_left r.walk s) < length (text_left w s))
    turns out l z = ((l, inside, count, omega (arith, k.3, fits, ahead z), omega (arith, k.4, left)), omega (arith, left, z))
