-- The equations of a search that lists the splittings that it finds: what is left to list gives the whole.
use Rattle.std.specs.Prelude.{◌≡◌, refl, Bool, true, false, length, set}
use Rattle.std.proofs.Common.{sym, ◌∙◌, append_assoc, length-append, ltb, ltb-true, ltb-false}
use Rattle.std.proofs.Math.Path.{ap}
use mathlib.Core.List.{List, [], ◌∷◌, ◌++◌, map, map-append, map-map}
use Prim.Native.Nat.{ℕ, zero, suc, ◌+◌, ◌-◌, ◌≤◌, ◌<◌}
use native.Mathlib.Omega.{arith}
use Rattle.std.proofs.lemmas.List.{length-map}
use Rattle.std.proofs.lemmas.List.Edits.{sets}
use Rattle.reading.specs.search.Readings.{when, is_empty, fits, without, passes, step, splits, PassedOver}
use Rattle.reading.proofs.laws.Three.{splits_three}
unfoldable pub use Rattle.reading.specs.search.Stored.{behind}

-- ---- what is left to list: r, of the whole w

module _ {A : Type 0} (now w r x q : List A) (h : r ≡ x ++ q) (s : now ++ r ≡ w) where
  -- the next part of it is listed
  pub listed_more : (k : List A) → k ≡ now ++ x → k ++ q ≡ w
  listed_more k p = rw p (append_assoc now x q ∙ ap (λ (z : List A). now ++ z) (sym h) ∙ s)

  -- where there is room for the whole there is room for the next part of what is left
  pub listed_room : (y : List A) (n : ℕ) → y ≡ x → length w ≤ n → length now + length y ≤ n
  listed_room y n i g = omega (arith, ap length s, length-append now r, ap length h, length-append x q, ap length i)

-- ---- splittings, each behind groups that are stored

module _ (size : ℕ) where
  pub behind_three : (prefix : List ℕ) (n c : ℕ) (t : List ℕ) → n ≤ 4 → length t ≡ 34 → length (behind size prefix n c t) ≤ 3
  unfolding behind
  behind_three prefix n c t h l = rw (length-map (splits n (68 - c) c t) (sets prefix (size - n))) (splits_three n (68 - c) c t h l)

  -- no group is left to take
  pub behind_leaf : (prefix : List ℕ) (n c : ℕ) (t : List ℕ) → n ≡ 0 → is_empty t ≡ true → behind size prefix n c t ≡ prefix ∷ []
  unfolding behind splits
  behind_leaf prefix n c t z e = rw (z, e)

  pub behind_over : (prefix : List ℕ) (n c : ℕ) (t : List ℕ) → n ≡ 0 → is_empty t ≡ false → behind size prefix n c t ≡ []
  unfolding behind splits
  behind_over prefix n c t z e = rw (z, e)

  -- past the last code
  pub behind_end : (prefix : List ℕ) (n c : ℕ) (t : List ℕ) → (n ≡ 0 → ⊥) → 68 ≤ c → behind size prefix n c t ≡ []
  unfolding behind splits step
  behind_end prefix zero c t h e = absurd (h refl)
  behind_end prefix (suc n) c t h e = let s : 68 - c ≡ 0 = omega arith in rw s

  -- with the group of the code c, where it fits
  unfoldable pub taken : List ℕ → ℕ → ℕ → List ℕ → List (List ℕ)
  taken prefix n c t = when (fits t c) (λ _. behind size (set prefix (size - n) c) (n - 1) c (without t c))

  pub taken_with : (prefix : List ℕ) (n c : ℕ) (t u : List ℕ) → fits t c ≡ true → u ≡ without t c
      → behind size (set prefix (size - n) c) (n - 1) c u ≡ taken prefix n c t
  unfolding taken
  taken_with prefix n c t u f e = rw (f, e)

  pub taken_none : (prefix : List ℕ) (n c : ℕ) (t : List ℕ) → fits t c ≡ false → taken prefix n c t ≡ []
  unfolding taken
  taken_none prefix n c t f = rw f

  map_taken : (prefix : List ℕ) (i c : ℕ) (x : List (List ℕ)) (f : Bool) →
      map (sets prefix i) (when f (λ _. map (λ (gs : List ℕ). c ∷ gs) x)) ≡ when f (λ _. map (sets (set prefix i c) (suc i)) x)
  map_taken prefix i c x true = map-map (sets prefix i) (λ (gs : List ℕ). c ∷ gs) x
  map_taken prefix i c x false = refl

  map_when : (prefix : List ℕ) (i : ℕ) (y : List (List ℕ)) (p : Bool) → map (sets prefix i) (when p (λ _. y)) ≡ when p (λ _. map (sets prefix i) y)
  map_when prefix i y true = refl
  map_when prefix i y false = refl

  pub behind_step : (prefix : List ℕ) (n c : ℕ) (t : List ℕ) → (n ≡ 0 → ⊥) → n ≤ size → c < 68 →
      behind size prefix n c t ≡ taken prefix n c t ++ when (passes t c) (λ _. behind size prefix n (c + 1) t)
  unfolding behind taken splits step
  behind_step prefix zero c t h l k = absurd (h refl)
  behind_step prefix (suc n) c t h l k =
      let e1 : suc n - 1 ≡ n = omega arith in
      let e2 : size - n ≡ suc (size - suc n) = omega arith in
      let e3 : 68 - c ≡ suc (67 - c) = omega arith in
      let e4 : 68 - (c + 1) ≡ 67 - c = omega arith in
      let i = size - suc n in
      let x = splits n (suc (67 - c)) c (without t c) in
      let y = step (splits n) (67 - c) (c + 1) t in
      rw (e1, e2, e3, e4)
      (map-append (sets prefix i) (when (fits t c) (λ _. map (λ (gs : List ℕ). c ∷ gs) x)) (when (passes t c) (λ _. y))
      ∙ ap (λ (z : List (List ℕ)). z ++ map (sets prefix i) (when (passes t c) (λ _. y))) (map_taken prefix i c x (fits t c))
      ∙ ap (λ (z : List (List ℕ)). when (fits t c) (λ _. map (sets (set prefix i c) (suc i)) x) ++ z) (map_when prefix i y (passes t c)))

  -- at a code that passes: its splittings come before those of the next code; at one that does not, they are all
  pub behind_next : (prefix : List ℕ) (n c : ℕ) (t : List ℕ) → (n ≡ 0 → ⊥) → n ≤ size → c < 68 → passes t c ≡ true →
      behind size prefix n c t ≡ taken prefix n c t ++ behind size prefix n (c + 1) t
  behind_next prefix n c t h l k e = behind_step prefix n c t h l k ∙ rw e

  pub behind_stop : (prefix : List ℕ) (n c : ℕ) (t : List ℕ) → (n ≡ 0 → ⊥) → n ≤ size → c < 68 → passes t c ≡ false →
      behind size prefix n c t ≡ taken prefix n c t ++ []
  behind_stop prefix n c t h l k e = behind_step prefix n c t h l k ∙ rw e

  -- the codes from c to r neither fit nor stop: the search goes on at r
  pub behind_skip : (prefix : List ℕ) (n : ℕ) (t : List ℕ) → (n ≡ 0 → ⊥) → n ≤ size → (c r : ℕ) → c ≤ r → r ≤ 68 → PassedOver t c r →
      behind size prefix n c t ≡ behind size prefix n r t
  behind_skip prefix n t h l c r b k a = go (r - c) c (omega arith) a
    where
      go : (d c : ℕ) → c + d ≡ r → PassedOver t c r → behind size prefix n c t ≡ behind size prefix n r t
      go zero c e a = let q : c ≡ r = omega arith in ap (λ (k : ℕ). behind size prefix n k t) q
      go (suc d) c e a =
          let (f, p) = a c (omega arith) (omega arith) in
          behind_next prefix n c t h l (omega arith) p
          ∙ ap (λ (x : List (List ℕ)). x ++ behind size prefix n (c + 1) t) (taken_none prefix n c t f)
          ∙ go d (c + 1) (omega arith) (λ j u v. a j (omega arith) v)

  -- no code from c on fits or stops
  pub behind_none : (prefix : List ℕ) (n : ℕ) (t : List ℕ) → (n ≡ 0 → ⊥) → n ≤ size → (c : ℕ) → PassedOver t c 68 → behind size prefix n c t ≡ []
  behind_none prefix n t h l c a = go (ltb 68 c) refl
    where
      go : (e : Bool) → ltb 68 c ≡ e → behind size prefix n c t ≡ []
      go true e = behind_end prefix n c t h (omega (arith, ltb-true 68 c e))
      go false e = behind_skip prefix n t h l c 68 (omega (arith, ltb-false 68 c e)) (omega arith) a ∙ behind_end prefix n 68 t h (omega arith)
