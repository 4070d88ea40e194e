-- The lines of a score, as the code writes them, one after the other into the parts of a page.
use Rattle.std.specs.Prelude.{◌≡◌, Bool, length, take, set, get_or}
use Rattle.std.proofs.Math.Path.{refl, ap}
use Rattle.std.proofs.Math.Bool.{true, false, cond}
use mathlib.Core.List.{List, [], ◌∷◌, ◌++◌, append_assoc, append-nil, flat_map}
use Prim.Native.Nat.{ℕ, zero, suc, ◌+◌, ◌*◌, ◌-◌, ◌<◌}
use native.Mathlib.Omega.{arith}
use Rattle.std.proofs.Math.Numerals.{add-one}
use Rattle.std.proofs.Math.ListN.{drop, length-append}
use Rattle.std.proofs.Math.Seq.{take_at, drop_at, drop-drop}
use Rattle.yaku.specs.Yaku.{is_yakuman}
use Rattle.score.specs.declared.Scored.{Scored}
use Rattle.text.specs.Text.{digits_of, score_text}
use Rattle.text.specs.Words.{bytes_of}
use Rattle.slip.specs.Line.{slip_line, labels}
use Rattle.slip.specs.Slip.{values_of, line_at, slip_text}

-- ---- line k of a score

pub seat_label : (seat : ℕ) → seat < 4 → set (bytes_of "SEAT 0") 5 (48 + seat) ≡ get_or labels (2 + seat) []
unfolding labels
seat_label zero h = refl
seat_label (suc zero) h = refl
seat_label (suc (suc zero)) h = refl
seat_label (suc (suc (suc zero))) h = refl
seat_label (suc (suc (suc (suc k)))) h = absurd (omega arith)

module _ (a : Scored) where
  pub line_han : slip_line (get_or labels 0 []) (cond (is_yakuman a.yaku) (bytes_of "YAKUMAN") (digits_of a.h.0)) ≡ line_at a 0
  unfolding line_at values_of
  line_han = refl

  pub line_fu : (is_yakuman a.yaku ≡ true → a.fu.0 ≡ 0) → slip_line (get_or labels 1 []) (digits_of a.fu.0) ≡ line_at a 1
  unfolding line_at values_of
  line_fu zero-fu = ap (slip_line (get_or labels 1 [])) (go (is_yakuman a.yaku) refl)
    where
      go : (b : Bool) → is_yakuman a.yaku ≡ b → digits_of a.fu.0 ≡ cond b (digits_of 0) (digits_of a.fu.0)
      go true e = ap digits_of (zero-fu e)
      go false e = refl

  pub line_seat : (k : ℕ) → (k ≡ 0 → ⊥) → (k ≡ 1 → ⊥) → k < 6 → slip_line (get_or labels (2 + (k - 2)) []) (score_text a.changes (k - 2)) ≡ line_at a k
  unfolding line_at values_of
  line_seat zero f g h = absurd (f refl)
  line_seat (suc zero) f g h = absurd (g refl)
  line_seat (suc (suc zero)) f g h = refl
  line_seat (suc (suc (suc zero))) f g h = refl
  line_seat (suc (suc (suc (suc zero)))) f g h = refl
  line_seat (suc (suc (suc (suc (suc zero))))) f g h = refl
  line_seat (suc (suc (suc (suc (suc (suc k)))))) f g h = absurd (omega arith)

-- ---- line by line

-- the first k lines
unfoldable pub first_lines : (ℕ → List ℕ) → ℕ → List ℕ
first_lines f zero = []
first_lines f (suc k) = first_lines f k ++ f k

module _ (f : ℕ → List ℕ) where
  pub flat_long : ((k : ℕ) → length (f k) ≡ 25) → (ks : List ℕ) → length (flat_map f ks) ≡ 25 * length ks
  unfolding flat_map
  flat_long long [] = refl
  flat_long long (k ∷ ks) = rw (length-append, long k, flat_long long ks) (omega arith)

  pub lines_long : (k : ℕ) → length (first_lines f k) ≡ 25 * k → length (f k) ≡ 25 → length (first_lines f (k + 1)) ≡ 25 * (k + 1)
  unfolding first_lines
  lines_long k e l = rw (add-one, length-append, e, l) (omega arith)

  -- q has k lines and the rest of the page p; line k is written into its part
  pub next_line : (k : ℕ) (p q : List ℕ) → length (first_lines f k) ≡ 25 * k → q ≡ first_lines f k ++ drop (25 * k) p →
      take (25 * k) q ++ (f k ++ drop 25 (drop (25 * k) q)) ≡ first_lines f (k + 1) ++ drop (25 * (k + 1)) p
  unfolding first_lines
  next_line k p q g e =
      let h : 25 * k + 25 ≡ 25 * suc k = omega arith in
      let d = drop (25 * k) p in
      rw (e, take_at (first_lines f k) d (25 * k) g, drop_at (first_lines f k) d (25 * k) g, drop-drop 25 (25 * k) p, add-one, append_assoc, h)

pub six_lines : (a : Scored) → first_lines (line_at a) 6 ≡ slip_text a
unfolding first_lines slip_text flat_map
six_lines a = simp (append_assoc, append-nil)
