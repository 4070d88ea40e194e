-- A complete hand exists whatever the melds are: few kinds are held twice by them, and of the others triplets and a pair can be made.
use Rattle.std.specs.Prelude.{◌≡◌, Bool, true, false, cond, List, leb, get_or}
use Rattle.std.proofs.Math.Path.{refl}
use Rattle.std.proofs.Common.{◌∙◌, arith, leb-true, leb-false}
use Prim.Native.Nat.{ℕ, zero, suc, ◌+◌, ◌-◌, ◌*◌, ◌≤◌, ◌<◌}
use Rattle.tiles.specs.Below.{sum_below}
use Rattle.ready_choices.specs.search.Tallies.{MeldsTally}
use Rattle.ready_choices.specs.search.Moves.{g_of, p_of, x_of, y_of, z_of, state, place, tetra, triangle, taken, next, fine, ended, best}
use Rattle.ready_choices.proofs.laws.Sums.{total_suc}
use Rattle.ready_choices.proofs.laws.Reach.{fine_of, worth_fine, best_suc}
use Rattle.ready_choices.proofs.laws.State.{state_read}
use Rattle.ready_choices.proofs.laws.Regular.{taken_regular, next_regular, may_regular, live_regular, state_cong}

-- how many of the n kinds from k on are held once by the melds at most
unfoldable pub free : List ℕ → ℕ → ℕ → ℕ
free d zero k = 0
free d (suc n) k = cond (leb (get_or d k 0) 1) 1 0 + free d n (suc k)

free_many : (d : List ℕ) (n k : ℕ) → 2 * n + sum_below k (λ j. get_or d j 0) ≤ 2 * free d n k + sum_below (k + n) (λ j. get_or d j 0)
unfolding free
free_many d zero k = let q : k + 0 ≡ k = omega arith in rw q (omega arith)
free_many d (suc n) k =
    let q : k + suc n ≡ suc k + n = omega arith in
    rw q (go (leb (get_or d k 0) 1) refl (free_many d n (suc k)) (total_suc k (λ j. get_or d j 0)))
  where
    go : (b : Bool) → leb (get_or d k 0) 1 ≡ b → 2 * n + sum_below (suc k) (λ j. get_or d j 0) ≤ 2 * free d n (suc k) + sum_below (suc k + n) (λ j. get_or d j 0) →
        sum_below (suc k) (λ j. get_or d j 0) ≡ sum_below k (λ j. get_or d j 0) + get_or d k 0 →
        2 * suc n + sum_below k (λ j. get_or d j 0) ≤ 2 * (cond b 1 0 + free d n (suc k)) + sum_below (suc k + n) (λ j. get_or d j 0)
    go true e h t = omega arith
    go false e h t = omega (arith, leb-false (get_or d k 0) 1 e)

-- a choice without runs, in a state without runs
module _ (t d : List ℕ) (n k g p e : ℕ) (hg : g ≤ 4) (hp : p ≤ 1) (le : e < 10) (x : x_of e ≡ 0)
    (y z : ℕ) (ey : y_of e ≡ y) (ez : z_of e ≡ z) (hy : y ≤ g) (hz : z ≤ p) (room : 3 * y + 2 * z + get_or d k 0 ≤ 4) where
  choice_counts : 1 ≤ best t d n (suc k) (state 0 0 (g - y) (p - z)) → 1 ≤ best t d (suc n) k (state 0 0 g p)
  choice_counts h =
      let s = state 0 0 g p in
      let r = state_read 0 0 g p (omega arith) hp in
      let ra = r.runs_a in
      let rb = r.runs_b in
      let rg = r.groups in
      let rp = r.pairs in
      let tk = taken_regular k s e r.low in
      let ng : g_of s - (x_of e + y_of e) ≡ g - y = omega arith in
      let np : p_of s - z_of e ≡ p - z = omega arith in
      let nx : next s e ≡ state 0 0 (g - y) (p - z) = next_regular k s e r.low ∙ state_cong x ra ng np in
      let fit : taken k s e ≤ 4 - get_or d k 0 = omega (arith, tk, ra, rb, x, room) in
      let m1 : x_of e + y_of e ≤ g_of s = omega arith in
      let m2 : z_of e ≤ p_of s = omega arith in
      let f : fine (4 - get_or d k 0) k s e ≡ true =
      fine_of (4 - get_or d k 0) k s e (live_regular k s r.low (rw (ra)) (rw (rb))) (may_regular k s e r.low m1 m2 (rw x)) fit in
      let b : 1 ≤ best t d n (suc k) (next s e) = rw nx h in
      let w = worth_fine (get_or t k 0) (4 - get_or d k 0) (best t d n (suc k)) k s e f b in
      let c = best_suc t d n k s e le in
      omega arith

exists_end : (t d : List ℕ) (k g p : ℕ) → g ≡ 0 → p ≡ 0 → 1 ≤ best t d 0 k (state 0 0 g p)
unfolding best state place tetra triangle ended
exists_end t d k g p a b = rw (a, b) (omega arith)

module _ (t d : List ℕ) (n k : ℕ) (ih : (g p : ℕ) → g ≤ 4 → p ≤ 1 → g + p ≤ free d n (suc k) → 1 ≤ best t d n (suc k) (state 0 0 g p)) where
  -- nothing is taken
  pass : (g p : ℕ) → g ≤ 4 → p ≤ 1 → get_or d k 0 ≤ 4 → g + p ≤ free d n (suc k) → 1 ≤ best t d (suc n) k (state 0 0 g p)
  unfolding x_of y_of z_of
  pass g p a b r h =
      choice_counts t d n k g p 0 a b (omega arith) refl 0 0 refl refl (omega arith) (omega arith) (omega arith)
      (ih (g - 0) (p - 0) (omega arith) (omega arith) (omega arith))

  -- a triplet, or else the pair
  take : (g p : ℕ) → g ≤ 4 → p ≤ 1 → get_or d k 0 ≤ 1 → g + p ≤ 1 + free d n (suc k) → 1 ≤ g + p → 1 ≤ best t d (suc n) k (state 0 0 g p)
  unfolding x_of y_of z_of
  take zero p a b r h i =
      choice_counts t d n k 0 p 1 a b (omega arith) refl 0 1 refl refl (omega arith) (omega arith) (omega arith)
      (ih (0 - 0) (p - 1) (omega arith) (omega arith) (omega arith))
  take (suc g) p a b r h i =
      choice_counts t d n k (suc g) p 2 a b (omega arith) refl 1 0 refl refl (omega arith) (omega arith) (omega arith)
      (ih (suc g - 1) (p - 0) (omega arith) (omega arith) (omega arith))

  either : (g p : ℕ) → g ≤ 4 → p ≤ 1 → get_or d k 0 ≤ 4 → (a b : Bool) → leb (get_or d k 0) 1 ≡ a → leb (g + p) (free d n (suc k)) ≡ b
      → g + p ≤ cond a 1 0 + free d n (suc k) →
      1 ≤ best t d (suc n) k (state 0 0 g p)
  either g p hg hp r a true e f h = pass g p hg hp r (leb-true (g + p) (free d n (suc k)) f)
  either g p hg hp r true false e f h = let l = leb-false (g + p) (free d n (suc k)) f in take g p hg hp (leb-true (get_or d k 0) 1 e) h (omega arith)
  either g p hg hp r false false e f h = let l = leb-false (g + p) (free d n (suc k)) f in absurd (omega arith)

exists : (t d : List ℕ) → ((k : ℕ) → get_or d k 0 ≤ 4) → (n k g p : ℕ) → g ≤ 4 → p ≤ 1 → g + p ≤ free d n k → 1 ≤ best t d n k (state 0 0 g p)
unfolding free
exists t d four zero k g p hg hp h = exists_end t d k g p (omega arith) (omega arith)
exists t d four (suc n) k g p hg hp h =
    either t d n k (λ g p a b c. exists t d four n (suc k) g p a b c) g p hg hp (four k) (leb (get_or d k 0) 1) (leb (g + p) (free d n (suc k))) refl refl h

-- with few melds there is a complete hand
pub complete_exists : (t d : List ℕ) (m : ℕ) → ((k : ℕ) → get_or d k 0 ≤ 4) → MeldsTally d m → 1 ≤ best t d 34 0 (state 0 0 (4 - m) 1)
complete_exists t d m four h =
    let f : 2 * 34 + sum_below 0 (λ j. get_or d j 0) ≤ 2 * free d 34 0 + sum_below 34 (λ j. get_or d j 0) = free_many d 34 0 in
    exists t d four 34 0 (4 - m) 1 (omega arith) (omega arith) (omega (arith, h.few, h.tiles))
