-- The bytes of cards put into a buffer one after the other.
use Rattle.std.specs.Prelude.{◌≡◌, refl, true, false, length, get_or, set, take}
use Rattle.std.proofs.Common.{sym, ◌∙◌, length-append, take-suc-set, length-take-le}
use Rattle.std.proofs.Math.Path.{ap}
use mathlib.Core.List.{List, [], ◌∷◌, ◌++◌, map, append_assoc, append-nil}
use Prim.Native.Nat.{ℕ, zero, suc, ◌+◌, ◌-◌, ◌≤◌, ◌<◌}
use native.Mathlib.Omega.{arith}
use borrow.Author.Tests.{lt-ltb, le-ltb}
use Rattle.std.proofs.lemmas.List.Edits.{sets}
use Rattle.std.proofs.Math.Seq.{length-sets}
use Rattle.tiles.specs.Tally.{more}
use Rattle.bits.proofs.laws.Pack.{sets_append}
use Rattle.text.specs.Put.{Put}
use Rattle.text.proofs.laws.Put.{put_none}
use Rattle.reading.specs.search.Readings.{concat_map}
use Rattle.reading.proofs.laws.Lists.{concat_append}
use Rattle.reading_splits.specs.search.SplitsInto.{splits_into}
use Rattle.cards.specs.search.Draws.{draw, draws}
use Rattle.card_writer.specs.search.Written.{with_prefix, written}

-- what is left to put gives the whole
pub record Left (old : List ℕ) (at : ℕ) (whole now : List ℕ) (next : ℕ) (rest : List ℕ) : Type 0 where
  pub place : next + length rest ≡ at + length whole
  pub bytes : sets now next rest ≡ sets old at whole
  pub long : length now ≡ length old

pub left_all : (b : List ℕ) (at : ℕ) (whole : List ℕ) → Left b at whole b at whole
left_all b at whole = record { place = refl; bytes = refl; long = refl }

pub left_same : {b m w r q : List ℕ} {at e : ℕ} → r ≡ q → Left b at w m e r → Left b at w m e q
left_same h l = rw (← h) l

pub left_put : {b m n w r x q : List ℕ} {at e f : ℕ} → r ≡ x ++ q → Left b at w m e r → Put m e x n f → Left b at w n f q
left_put {b} {m} {n} {w} {r} {x} {q} {at} {e} {f} h l p =
    let z : length r ≡ length x + length q = ap length h ∙ length-append x q in
    record {
      place = omega (arith, p.place, l.place);
      bytes = rw (p.bytes, p.place) (sym (sets_append m e x q) ∙ ap (sets m e) (sym h) ∙ l.bytes);
      long = ap length p.bytes ∙ length-sets m e x ∙ l.long;
    }

pub put_done : {b m w r : List ℕ} {at e : ℕ} → r ≡ [] → Left b at w m e r → Put b at w m e
put_done {b} {m} {w} {r} {at} {e} h l =
    let z : length r ≡ 0 = ap length h in
    record { place = omega (arith, l.place); bytes = ap (sets m e) (sym h) ∙ l.bytes }

bytes_taken : (prefix : List ℕ) (a : ℕ) (x : List (List ℕ)) → with_prefix prefix (map (λ (l : List ℕ). a ∷ l) x) ≡ with_prefix (prefix ++ (a ∷ [])) x
unfolding with_prefix concat_map
bytes_taken prefix a [] = refl
bytes_taken prefix a (l ∷ x) = rw (bytes_taken prefix a x, append_assoc prefix (a ∷ []) l)

bytes_append : (prefix : List ℕ) (x y : List (List ℕ)) → with_prefix prefix (x ++ y) ≡ with_prefix prefix x ++ with_prefix prefix y
unfolding with_prefix
bytes_append prefix x y = concat_append (λ (l : List ℕ). prefix ++ l) x y

module _ (prefix : List ℕ) (n left end a : ℕ) (t : List ℕ) where
  pub written_leaf : left ≡ 0 → splits_into (suc n) true t ≡ true → written prefix n left end a t ≡ prefix
  unfolding written with_prefix draws concat_map
  written_leaf z e = rw (z, e, append-nil, append-nil)

  pub written_over : left ≡ 0 → splits_into (suc n) true t ≡ false → written prefix n left end a t ≡ []
  unfolding written with_prefix draws concat_map
  written_over z e = rw (z, e)

module _ (prefix : List ℕ) (n end a : ℕ) (t : List ℕ) where
  pub written_end : (left : ℕ) → (left ≡ 0 → ⊥) → end ≤ a → written prefix n left end a t ≡ []
  unfolding written with_prefix draws draw concat_map
  written_end zero h l = absurd (h refl)
  written_end (suc m) h l = let s : end - a ≡ 0 = omega arith in rw s

  pub written_skip : (left : ℕ) → (left ≡ 0 → ⊥) → a < end → 4 ≤ get_or t a 0 → written prefix n left end a t ≡ written prefix n left end (a + 1) t
  unfolding written with_prefix draws draw concat_map
  written_skip zero h l f = absurd (h refl)
  written_skip (suc m) h l f =
      let s : end - a ≡ suc (end - (a + 1)) = omega arith in
      rw (s, le-ltb (get_or t a 0) 4 f)

  pub written_with : (left : ℕ) → (left ≡ 0 → ⊥) → a < end → get_or t a 0 < 4
      → written prefix n left end a t ≡ written (prefix ++ (a ∷ [])) n (left - 1) end a (more t a 1) ++ written prefix n left end (a + 1) t
  unfolding written draws draw
  written_with zero h l f = absurd (h refl)
  written_with (suc m) h l f =
      let s : end - a ≡ suc (end - (a + 1)) = omega arith in
      let z : suc m - 1 ≡ m = omega arith in
      let x = draws n m (suc (end - (a + 1))) a (more t a 1) in
      let y = draw (draws n m) (end - (a + 1)) (a + 1) t in
      rw (s, z, lt-ltb (get_or t a 0) 4 f) (bytes_append prefix (map (λ (l : List ℕ). a ∷ l) x) y
      ∙ ap (λ (b : List ℕ). b ++ with_prefix prefix y) (bytes_taken prefix a x))

-- the tiles so far, with one more
pub prefix_more : (prefix : List ℕ) (size left a : ℕ) → (left ≡ 0 → ⊥) → left ≤ size → size ≤ length prefix
    → take (size - (left - 1)) (set prefix (size - left) a) ≡ take (size - left) prefix ++ (a ∷ [])
prefix_more prefix size left a h l r =
    let s : size - (left - 1) ≡ suc (size - left) = omega arith in
    rw s (take-suc-set prefix (size - left) a (omega arith))

-- ---- a turn of the draw: the tiles so far are the first size - left of so
pub turn_with : (prefix t u : List ℕ) (size left n end a : ℕ) → (left ≡ 0 → ⊥) → left ≤ size → size ≤ length prefix → a < end → get_or t a 0 < 4 → u ≡ more t a 1
    → written (take (size - left) prefix) n left end a t ≡ written (take (size - (left - 1)) (set prefix (size - left) a)) n (left - 1) end a u ++ written
    (take (size - left) prefix) n left end (a + 1) t
turn_with prefix t u size left n end a h g l q f e =
    rw (prefix_more prefix size left a h g l, e) (written_with (take (size - left) prefix) n end a t left h q f)

-- there is room for the next part of what is left
pub left_room : {b m w r : List ℕ} {at e : ℕ} (x q : List ℕ) → r ≡ x ++ q → Left b at w m e r → at + length w ≤ length b → e + length x ≤ length m
left_room {b} {m} {w} {r} {at} {e} x q h l g =
    let z : length r ≡ length x + length q = ap length h ∙ length-append x q in
    omega (arith, l.place, l.long)

-- ---- all tiles are drawn: the card is written, or nothing is
module _ (prefix t : List ℕ) (size left n end low : ℕ) (z : left ≡ 0) where
  leaf : splits_into (suc n) true t ≡ true → written (take (size - left) prefix) n left end low t ≡ take size prefix
  leaf e = let q : size - left ≡ size = omega arith in written_leaf (take (size - left) prefix) n left end low t z e ∙ ap (λ (i : ℕ). take i prefix) q

  pub leaf_room : (at room : ℕ) → splits_into (suc n) true t ≡ true → size ≤ length prefix
      → at + length (written (take (size - left) prefix) n left end low t) ≤ room → at + size ≤ room
  leaf_room at room e l h = omega (arith, ap length (leaf e), length-take-le size prefix l)

  pub put_leaf : {b m : List ℕ} {at r : ℕ} → splits_into (suc n) true t ≡ true → Put b at (take size prefix) m r
      → Put b at (written (take (size - left) prefix) n left end low t) m r
  put_leaf e p = rw (leaf e) p

  pub put_over : (b : List ℕ) (at : ℕ) → splits_into (suc n) true t ≡ false → Put b at (written (take (size - left) prefix) n left end low t) b at
  put_over b at e = rw (written_over (take (size - left) prefix) n left end low t z e) (put_none b at)
