-- Choices, one at each kind, and the hand that they make.
use Rattle.std.specs.Prelude.{◌≡◌, true, ◌&&◌, ◌⊎◌, List, ℕ, zero, suc, ◌+◌, ◌-◌, ◌≤◌, ◌<◌, min, get_or, leb}
use Rattle.std.proofs.Math.Path.{refl}
use Rattle.std.proofs.Common.{◌∙◌, inl, inr, eq-or-lt_of_le, le_of_suc-le-suc, arith, leb-true, le-leb}
use Rattle.tiles.specs.Below.{sum_below}
use Rattle.tiles.proofs.laws.Below.{and_true}
use Rattle.ready_choices.specs.search.Moves.{live, may, taken, next, fine, ended, kept, worth, best}
use Rattle.ready_choices.proofs.laws.Most.{most_ge}
use Rattle.ready_choices.proofs.laws.Sums.{total_suc, total_zero}

-- the hand w takes choices at the first k kinds from the state start to the state s
pub data Reach (start : ℕ) (d w : List ℕ) : ℕ → ℕ → Type 0 where
  begin : Reach start d w 0 start
  move : {k s r : ℕ} → Reach start d w k s → (e : ℕ) → e < 10 → fine (4 - get_or d k 0) k s e ≡ true →
      get_or w k 0 ≡ taken k s e → r ≡ next s e → Reach start d w (suc k) r

-- the tiles of kind k that t keeps in w
abbrev pub both : List ℕ → List ℕ → ℕ → ℕ
both t w k = min (get_or t k 0) (get_or w k 0)

pub kept_more : (v x : ℕ) → 1 ≤ v → kept v x ≡ v + x
unfolding kept
kept_more zero x h = absurd (omega arith)
kept_more (suc v) x h = refl

pub worth_fine : (have room : ℕ) (later : ℕ → ℕ) (k s e : ℕ) → fine room k s e ≡ true → 1 ≤ later (next s e) →
    worth have room later k s e ≡ later (next s e) + min have (taken k s e)
unfolding worth
worth_fine have room later k s e f h = rw f (kept_more _ _ h)

pub best_suc : (t d : List ℕ) (n k s e : ℕ) → e < 10 → worth (get_or t k 0) (4 - get_or d k 0) (best t d n (suc k)) k s e ≤ best t d (suc n) k s
unfolding best
best_suc t d n k s e h = most_ge (worth (get_or t k 0) (4 - get_or d k 0) (best t d n (suc k)) k s) 10 e h

-- one choice more
module _ (start : ℕ) (t d w : List ℕ) (k s r n e : ℕ) where
  further : e < 10 → fine (4 - get_or d k 0) k s e ≡ true → get_or w k 0 ≡ taken k s e → r ≡ next s e → 1 ≤ best t d n (suc k) r →
      (1 ≤ best t d (suc n) k s → sum_below k (both t w) + best t d (suc n) k s ≤ best t d 34 0 start) →
      sum_below (suc k) (both t w) + best t d n (suc k) r ≤ best t d 34 0 start
  further l f u q h p =
      let b : 1 ≤ best t d n (suc k) (next s e) = rw q at h in
      let v = worth_fine (get_or t k 0) (4 - get_or d k 0) (best t d n (suc k)) k s e f b in
      let x = best_suc t d n k s e l in
      rw (total_suc k (both t w), q, u) (omega (arith, p (omega arith)))

module _ (start : ℕ) (t d w : List ℕ) where
  -- no choices keep more than the best
  pub reach_best : (k s n : ℕ) → Reach start d w k s → k + n ≡ 34 → 1 ≤ best t d n k s →
      sum_below k (both t w) + best t d n k s ≤ best t d 34 0 start
  reach_best _ _ n begin e h = let q : n ≡ 34 = omega arith in rw (q, total_zero (both t w)) (omega arith)
  reach_best _ _ n (move {k} {s} {r} p e l f u q) g h = further start t d w k s r n e l f u q h (λ i. reach_best k s (suc n) p (omega arith) i)

  -- a hand that takes choices to an end keeps no more than the best
  pub reach_kept : (s : ℕ) → Reach start d w 34 s → ended s ≡ true → sum_below 34 (both t w) + 1 ≤ best t d 34 0 start
  unfolding best
  reach_kept s r e =
      let q : best t d 0 34 s ≡ 1 = rw e in
      omega (arith, reach_best 34 s 0 r refl (omega arith))

-- a choice looks at no later kind
pub reach_cong : (start : ℕ) (d w v : List ℕ) (k s : ℕ) → Reach start d w k s → ((j : ℕ) → j < k → get_or v j 0 ≡ get_or w j 0) → Reach start d v k s
reach_cong start d w v _ _ begin h = begin
reach_cong start d w v _ _ (move {k} {s} p e l f u q) h = move (reach_cong start d w v k s p (λ j i. h j (omega arith))) e l f (h k (omega arith) ∙ u) q

pub fine_begun : (room k s e : ℕ) → fine room k s e ≡ true → (live k s ≡ true) × (may k s e ≡ true) × (taken k s e ≤ room)
unfolding fine
fine_begun room k s e f =
    let p = and_true (live k s) (may k s e && leb (taken k s e) room) f in
    let q = and_true (may k s e) (leb (taken k s e) room) p.1 in
    (p.0, q.0, leb-true _ _ q.1)

pub fine_of : (room k s e : ℕ) → live k s ≡ true → may k s e ≡ true → taken k s e ≤ room → fine room k s e ≡ true
unfolding fine
fine_of room k s e l m h = rw (l, m, le-leb (taken k s e) room h)

-- no kind over four
pub reach_four : (start : ℕ) (d w : List ℕ) (k s : ℕ) → Reach start d w k s → ((j : ℕ) → get_or d j 0 ≤ 4) → (j : ℕ) → j < k → get_or w j 0 + get_or d j 0 ≤ 4
reach_four start d w _ _ begin h j l = absurd (omega arith)
reach_four start d w _ _ (move {k} {s} p e g f u q) h j l =
    last (λ i. reach_four start d w k s p h j i) (eq-or-lt_of_le (le_of_suc-le-suc l))
  where
    last : (j < k → get_or w j 0 + get_or d j 0 ≤ 4) → (j ≡ k) ⊎ (j < k) → get_or w j 0 + get_or d j 0 ≤ 4
    last r (inl i) = rw i (omega (arith, (fine_begun (4 - get_or d k 0) k s e f).2, h k))
    last r (inr i) = r i
