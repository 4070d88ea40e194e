-- The page afterwards, line by line.
use Rattle.std.specs.Prelude.{◌≡◌, Bool, ltb, length, get_or, take}
use Rattle.std.proofs.Math.Path.{refl, ap}
use Rattle.std.proofs.Common.{sym, ◌∙◌, take_at}
use Rattle.std.proofs.Math.Bool.{true, false, cond}
use mathlib.Core.List.{List, [], ◌∷◌, ◌++◌, append_assoc, flat_map}
use Prim.Native.Nat.{ℕ, zero, suc, ◌+◌, ◌*◌, ◌<◌}
use native.Mathlib.Omega.{arith}
use Rattle.std.proofs.Math.ListN.{drop}
use Rattle.std.proofs.Math.Seq.{drop_at, drop-drop}
use Rattle.yaku.specs.Yaku.{is_yakuman}
use Rattle.score.specs.declared.Scored.{Scored}
use Rattle.score.specs.Score.{score_of}
use Rattle.text.specs.Text.{digits_of}
use Rattle.slip.specs.Slip.{values_of, line_at, slip_text, slip_refusal, slip_page}
use Rattle.slip.proofs.laws.Score.{yakuman_zero}
use Rattle.slip.proofs.laws.Answer.{page_stays, page_written}
use Rattle.slip.proofs.laws.Short.{line_has_25_bytes, text_has_150_bytes}

-- ---- one of several lines of 25 bytes

module _ (f : ℕ → List ℕ) (long : (k : ℕ) → length (f k) ≡ 25) where
  part : (ks rest : List ℕ) (k : ℕ) → k < length ks → take 25 (drop (25 * k) (flat_map f ks ++ rest)) ≡ f (get_or ks k 0)
  unfolding flat_map
  part [] rest k h = absurd (omega arith)
  part (x ∷ ks) rest zero h = rw (append_assoc (f x) (flat_map f ks) rest) (take_at (f x) (flat_map f ks ++ rest) 25 (long x))
  part (x ∷ ks) rest (suc k) h =
      let e : 25 * suc k ≡ 25 + 25 * k = omega arith in
      rw (append_assoc (f x) (flat_map f ks) rest, e, ← drop-drop (25 * k) 25 (f x ++ (flat_map f ks ++ rest)), drop_at (f x) (flat_map f ks ++ rest) 25 (long x))
      (part ks rest k (omega arith))

six : (k : ℕ) → k < 6 → get_or (0 ∷ 1 ∷ 2 ∷ 3 ∷ 4 ∷ 5 ∷ []) k 0 ≡ k
six zero h = refl
six (suc zero) h = refl
six (suc (suc zero)) h = refl
six (suc (suc (suc zero))) h = refl
six (suc (suc (suc (suc zero)))) h = refl
six (suc (suc (suc (suc (suc zero))))) h = refl
six (suc (suc (suc (suc (suc (suc k)))))) h = absurd (omega arith)

-- ---- of a score

module _ (s : List ℕ) (dealer wind : ℕ) where
  abbrev a : Scored
  a = score_of s dealer wind

  pub fu_line : get_or (values_of a) 1 [] ≡ digits_of a.fu.0
  unfolding values_of
  fu_line = go (is_yakuman a.yaku) refl
    where
      go : (b : Bool) → is_yakuman a.yaku ≡ b → cond b (digits_of 0) (digits_of a.fu.0) ≡ digits_of a.fu.0
      go true e = ap digits_of (sym (yakuman_zero s dealer wind e))
      go false e = refl

  module _ (p : List ℕ) where
    pub line_in_its_part : slip_refusal a p ≡ 0 → (k : ℕ) → k < 6 → take 25 (drop (25 * k) (slip_page a p)) ≡ line_at a k
    unfolding slip_text
    line_in_its_part e k h =
        rw (← page_written a p e) (part (line_at a) (line_has_25_bytes s dealer wind) (0 ∷ 1 ∷ 2 ∷ 3 ∷ 4 ∷ 5 ∷ []) (drop 150 p) k h ∙ ap (line_at a) (six k h))

    pub past_150 : drop 150 (slip_page a p) ≡ drop 150 p
    unfolding slip_page
    past_150 = go (ltb 0 (slip_refusal a p))
      where
        go : (b : Bool) → drop 150 (cond b p (slip_text a ++ drop 150 p)) ≡ drop 150 p
        go true = refl
        go false = drop_at (slip_text a) (drop 150 p) 150 (text_has_150_bytes s dealer wind)

    pub refused_writes_nothing : 0 < slip_refusal a p → slip_page a p ≡ p
    refused_writes_nothing h = sym (page_stays a p h)
