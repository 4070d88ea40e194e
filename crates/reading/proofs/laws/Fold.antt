-- The equations of a search that keeps what it wants of the readings as it finds them, for any keeper: the loops over places, over the splittings that are
-- stored, and
-- over pairs. In each, what is left to do gives the target.
use Rattle.std.specs.Prelude.{◌≡◌, Bool, ltb, eqb, get_or, drop}
use Rattle.std.proofs.Math.Path.{refl, ap}
use Rattle.std.proofs.Common.{sym, ◌∙◌, add-zero, add-suc, suc-add, add-one, le-leb, leb-true, ltb-true, ltb-false, ne_eqb}
use Rattle.std.proofs.Math.Bool.{true, false}
use mathlib.Core.List.{List, [], ◌∷◌, ◌++◌, map}
use Prim.Native.Nat.{ℕ, zero, suc, ◌+◌, ◌-◌, ◌≤◌, ◌<◌}
use Rattle.std.proofs.Math.Nat.{sub_self}
use native.Mathlib.Omega.{arith}
use Rattle.std.proofs.lemmas.Bool.{lt-leb}
use Rattle.std.proofs.Math.Dec.{leb}
use Rattle.std.proofs.Math.ListN.{length, replicate}
use Rattle.std.proofs.lemmas.List.Edits.{sets, sets-eq}
use Rattle.tiles.specs.Below.{tabulate}
use Rattle.reading.specs.declared.Reading.{Reading}
use Rattle.reading.specs.Reading.{is_seven_pairs, is_orphans, of_shape}
use Rattle.reading.specs.search.Folded.{folded}
use Rattle.reading.specs.search.Readings.{when, concat_map, less, splits, placed_at, placed, paired, shaped, readings}
use Rattle.reading.proofs.laws.Lists.{each_imp, concat_cong, concat_map_lem}
use Rattle.reading.proofs.laws.Groups.{less_long}
use Rattle.reading.proofs.laws.Splits.{splits_sound}
use Rattle.reading.specs.search.Pairs.{Among, OnlyPairs}
use Rattle.reading.proofs.laws.Pairs.{no_splits}
use Rattle.reading.proofs.laws.Found.{behind}
unfoldable pub use Rattle.reading.specs.search.Folded.{ranged}

drop_replicate : (a j m n : ℕ) → j + m ≡ n → drop j (replicate n a) ≡ replicate m a
drop_replicate a zero m n e = let q : m ≡ n = omega arith in rw q
drop_replicate a (suc j) m zero e = absurd (omega arith)
drop_replicate a (suc j) m (suc n) e = drop_replicate a j m n (omega arith)

-- groups stored over four places with none are the groups, and none in the places of m melds
sets_nones : (gs : List ℕ) (m : ℕ) → m ≤ 4 → length gs ≡ 4 - m → sets (68 ∷ 68 ∷ 68 ∷ 68 ∷ []) 0 gs ≡ gs ++ replicate m 68
sets_nones gs m h e =
    sets-eq gs (68 ∷ 68 ∷ 68 ∷ 68 ∷ []) 0 (omega (arith, e)) ∙ ap (λ (l : List ℕ). gs ++ l) (drop_replicate 68 (0 + length gs) m 4 (omega (arith, e)))

listed : (f : List ℕ → List Reading) (ls out : List (List ℕ)) (i : ℕ) → ((j : ℕ) → j < length ls → get_or out (i + j) [] ≡ get_or ls j []) →
    concat_map (λ j. f (get_or out j [])) (tabulate (length ls) i (λ j. j)) ≡ concat_map f ls
unfolding concat_map
listed f [] out i h = refl
listed f (x ∷ ls) out i h =
    let e : get_or out i [] ≡ x = rw (← add-zero i) (h 0 (omega arith)) in
    rw (e, listed f ls out (suc i) (λ j l. rw (suc-add, ← add-suc) (h (suc j) (omega arith))))

module _ {B : Type 0} (keeper : B → Reading → B) where
  pub folded_append : (b : B) (x y : List Reading) → folded keeper b (x ++ y) ≡ folded keeper (folded keeper b x) y
  unfolding folded
  folded_append b [] y = refl
  folded_append b (r ∷ x) y = folded_append (keeper b r) x y

  -- ---- what no reading moves stays: the search may end there
  abbrev pub Still : B → Type 0
  Still b = (r : Reading) → keeper b r ≡ b

  pub folded_still : (b : B) → Still b → (rs : List Reading) → b ≡ folded keeper b rs
  unfolding folded
  folded_still b s [] = refl
  folded_still b s (r ∷ rs) = rw (s r) (folded_still b s rs)

  -- ---- one reading, where a test holds
  pub folded_with : (b x : B) (r : Reading) (e : Bool) → e ≡ true → x ≡ keeper b r → x ≡ folded keeper b (when e (λ _. r ∷ []))
  unfolding folded
  folded_with b x r e h q = rw h q

  pub folded_none : (b : B) (f : Unit {0} → List Reading) (e : Bool) → e ≡ false → b ≡ folded keeper b (when e f)
  unfolding folded
  folded_none b f e h = rw h

  -- ---- a loop over numbers: what is left is that of i, i + 1, .., n - 1
  pub ranged_turn : (f : ℕ → List Reading) (n i : ℕ) (b x : B) → i < n → x ≡ folded keeper b (f i) → ranged keeper f n (i + 1) x ≡ ranged keeper f n i b
  unfolding ranged concat_map
  ranged_turn f n i b x h e =
      let s : n - i ≡ suc (n - suc i) = omega arith in
      rw (add-one, s, e) (sym (folded_append b (f i) (concat_map f (tabulate (n - suc i) (suc i) (λ k. k)))))

  pub ranged_done : (f : ℕ → List Reading) (n i : ℕ) (b : B) → n ≤ i → b ≡ ranged keeper f n i b
  unfolding ranged concat_map folded
  ranged_done f n i b h = let s : n - i ≡ 0 = omega arith in rw s

  pub ranged_still : (f : ℕ → List Reading) (n i : ℕ) (b : B) → Still b → b ≡ ranged keeper f n i b
  unfolding ranged
  ranged_still f n i b s = folded_still b s (concat_map f (tabulate (n - i) i (λ k. k)))

  ranged_next : (f : ℕ → List Reading) (n i : ℕ) (b : B) → (i < n → b ≡ folded keeper b (f i)) → ranged keeper f n (i + 1) b ≡ ranged keeper f n i b
  ranged_next f n i b h = go (ltb i n) refl
    where
      go : (e : Bool) → ltb i n ≡ e → ranged keeper f n (i + 1) b ≡ ranged keeper f n i b
      go true e = let l = ltb-true i n e in ranged_turn f n i b b l (h l)
      go false e = let l = ltb-false i n e in sym (ranged_done f n (i + 1) b (omega arith)) ∙ ranged_done f n i b l

  -- the numbers from i to j give nothing
  pub ranged_skip : (f : ℕ → List Reading) (n i j : ℕ) (b : B) → i ≤ j → ((k : ℕ) → i ≤ k → k < j → b ≡ folded keeper b (f k))
      → ranged keeper f n j b ≡ ranged keeper f n i b
  ranged_skip f n i j b l h = go (j - i) i (omega arith) h
    where
      go : (d i : ℕ) → i + d ≡ j → ((k : ℕ) → i ≤ k → k < j → b ≡ folded keeper b (f k)) → ranged keeper f n j b ≡ ranged keeper f n i b
      go zero i e h = let q : j ≡ i = omega arith in ap (λ (x : ℕ). ranged keeper f n x b) q
      go (suc d) i e h = go d (i + 1) (omega arith) (λ k u v. h k (omega arith) v) ∙ ranged_next f n i b (λ u. h i (omega arith) (omega arith))

  -- ---- the places of a pair and groups
  pub placed_all : (n win pair : ℕ) (gs : List ℕ) (b : B) → ranged keeper (placed_at win pair gs) (n + 1) 0 b ≡ folded keeper b (placed n win pair gs)
  unfolding ranged placed
  placed_all n win pair gs b = let s : n + 1 - 0 ≡ suc n = omega arith in rw s

  -- ---- the pairs
  module _ (t : List ℕ) (m win k : ℕ) where
    -- each of the splittings that are found
    pub paired_with : (u : List ℕ) (out : List (List ℕ)) (b x : B) → length t ≡ 34 → m ≤ 4 → 2 ≤ get_or t k 0 → u ≡ less t k 2 →
        out ≡ behind (4 - m) (68 ∷ 68 ∷ 68 ∷ 68 ∷ []) (4 - m) 0 u →
        x ≡ ranged keeper (λ i. placed (4 - m) win k (get_or out i [])) (length out) 0 b → x ≡ folded keeper b (paired t m win k)
    unfolding paired ranged behind
    paired_with u out b x l h two e s q =
        let v = less t k 2 in
        let nones : List ℕ = 68 ∷ 68 ∷ 68 ∷ 68 ∷ [] in
        let f : List ℕ → List Reading = placed (4 - m) win k in
        let xs = splits (4 - m) 68 0 v in
        let ls = map (sets nones (4 - m - (4 - m))) xs in
        let w : out ≡ ls = rw e at s in
        let c : length out - 0 ≡ length ls = omega (arith, ap length w) in
        rw (le-leb 2 (get_or t k 0) two, q)
        (ap (folded keeper b)
        (ap (λ (i : ℕ). concat_map (λ j. f (get_or out j [])) (tabulate i 0 (λ j. j))) c
        ∙ listed f ls out 0 (λ j z. let o : 0 + j ≡ j = omega arith in rw (o, w))
        ∙ concat_map_lem f (sets nones (4 - m - (4 - m))) xs
        ∙ concat_cong (λ gs. f (sets nones (4 - m - (4 - m)) gs)) (λ (gs : List ℕ). f (gs ++ replicate m 68))
        (each_imp (λ gs z. rw (sub_self (4 - m)) (ap f (sets_nones gs m h z.size))) (splits_sound (4 - m) 68 0 v (less_long t k 2 l)))))

    pub paired_none : (b : B) → get_or t k 0 < 2 → b ≡ folded keeper b (paired t m win k)
    unfolding paired
    paired_none b h = folded_none b _ (leb 2 (get_or t k 0)) (lt-leb 2 (get_or t k 0) h)

    -- a kind outside those that can be the pair gives no reading
    pub paired_out : (first last : ℕ) (b : B) → length t ≡ 34 → OnlyPairs t first last → (Among first last k → ⊥) → b ≡ folded keeper b (paired t m win k)
    unfolding paired concat_map folded
    paired_out first last b l only out = go (leb 2 (get_or t k 0)) refl
      where
        go : (e : Bool) → leb 2 (get_or t k 0) ≡ e → b ≡ folded keeper b (paired t m win k)
        go true e = rw (e, no_splits t first last k l only out (leb-true 2 (get_or t k 0) e) (4 - m))
        go false e = rw e

  -- ---- the whole: the pairs, then the other shapes
  module _ (t : List ℕ) (m : ℕ) where
    pub shaped_with : (b x y : B) → m ≡ 0 → x ≡ folded keeper b (when (is_seven_pairs t) (λ _. of_shape 1 ∷ [])) →
        y ≡ folded keeper x (when (is_orphans t) (λ _. of_shape 2 ∷ [])) → y ≡ folded keeper b (shaped t m)
    unfolding shaped
    shaped_with b x y z e f = rw (z, f, e) (sym (folded_append b (when (is_seven_pairs t) (λ _. of_shape 1 ∷ [])) (when (is_orphans t) (λ _. of_shape 2 ∷ []))))

    pub shaped_none : (b : B) → (m ≡ 0 → ⊥) → b ≡ folded keeper b (shaped t m)
    unfolding shaped
    shaped_none b h = folded_none b _ (eqb m 0) (ne_eqb m 0 h)

    pub readings_with : (win : ℕ) (b x y : B) → x ≡ ranged keeper (paired t m win) 34 0 b → y ≡ folded keeper x (shaped t m)
        → y ≡ folded keeper b (readings t m win)
    unfolding ranged readings
    readings_with win b x y e f = rw (f, e) (sym (folded_append b (concat_map (paired t m win) (tabulate 34 0 (λ k. k))) (shaped t m)))
