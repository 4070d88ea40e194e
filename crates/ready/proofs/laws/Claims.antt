-- What is true of every nearest hand, and that there is one.
use Rattle.std.specs.Prelude.{◌≡◌, refl, ◌↔◌, List, ℕ, zero, suc, ◌+◌, ◌-◌, ◌*◌, ◌≤◌, ◌<◌, get_or, replicate}
use Rattle.std.proofs.Common.{sym, subst, ⊎_elim, eq-or-lt_of_le, le_of_suc-le-suc, lt-ltb, le-ltb, arith}
use Rattle.tiles.specs.Below.{sum_below}
use Rattle.tiles.specs.Tally.{tally_of}
use Rattle.tiles.proofs.laws.Tally.{length_tally, get_d_tally}
use Rattle.hand.specs.declared.Held.{Held}
use Rattle.hand.specs.Held.{in_melds, in_others}
use Rattle.unfinished.specs.Unfinished.{held_of, refusal_of}
use Rattle.ready_choices.specs.search.Tallies.{HandTally, WaitTally}
use Rattle.ready_choices.proofs.laws.Sums.{total_suc, total_cong, total_none, total_le_of}
use Rattle.ready_nearest.specs.search.Top.{fewest}
use Rattle.ready_nearest.proofs.laws.Attained.{nearest_fewest}
use Rattle.ready.specs.declared.Ready.{Ready}
use Rattle.ready.specs.Ready.{SameMelds, IsReady, IsNearest, swaps, IsAnswer, unreadable, nearest}
use Rattle.ready.specs.Answer.{fewest_swaps}
use Rattle.ready.specs.search.Written.{same_melds_with}
use Rattle.ready.proofs.laws.Written.{written_exists}
use Rattle.ready.proofs.laws.Tallies.{tally_cong, same_melds, wait_tally, tally_wait, melds_tally, hand_tally_lem}
use Rattle.ready.proofs.laws.Nearest.{nearest_written}
use Rattle.ready.proofs.laws.Answer.{same_melds_self}

-- ---- there is one

nearest_hand : (s : List ℕ) → refusal_of s ≡ 0
    → (y : Held) × IsNearest (held_of s) (fewest (tally_of (in_others (held_of s))) (tally_of (in_melds (held_of s))) (held_of s).m) y
nearest_hand s e =
    let x = held_of s in
    let (few, b) = same_melds_self s e in
    let (u, q) = nearest_fewest (tally_of (in_others x)) (tally_of (in_melds x)) x.m (hand_tally_lem x few b.sound) (length_tally (in_melds x))
    (melds_tally x few) in
    let (i, r, w) = written_exists u (omega (arith, q.ready.hand.tiles)) in
    (same_melds_with x r, nearest_written x few b u r _ i q w)

-- ---- no swap

-- a sum of nothing has only nothings
total_each : (f : ℕ → ℕ) (n : ℕ) → sum_below n f ≡ 0 → (k : ℕ) → k < n → f k ≡ 0
total_each f zero e k l = absurd (omega arith)
total_each f (suc n) e k l =
    ⊎_elim (λ q. rw q (omega (arith, total_suc n f))) (λ i. total_each f n (omega (arith, total_suc n f)) k i) (eq-or-lt_of_le (le_of_suc-le-suc l))

-- terms that are no greater and have the same sum are the same
total_same : (f g : ℕ → ℕ) (n : ℕ) → ((k : ℕ) → k < n → f k ≤ g k) → sum_below n g ≤ sum_below n f → (k : ℕ) → k < n → f k ≡ g k
total_same f g zero h e k l = absurd (omega arith)
total_same f g (suc n) h e k l =
    let a = total_suc n f in
    let b = total_suc n g in
    let c = total_le_of f g n (λ j i. h j (omega arith)) in
    let o = h n (omega arith) in
    ⊎_elim (λ q. rw q (omega arith)) (λ i. total_same f g n (λ j x. h j (omega arith)) (omega arith) k i) (eq-or-lt_of_le (le_of_suc-le-suc l))

swaps_self : (x : Held) → swaps x x ≡ 0
unfolding swaps
swaps_self x = total_none (λ k. in_others x k - in_others x k) 34 (λ k l. omega arith)

tiles_of_lem : (x : Held) → HandTally (tally_of (in_others x)) (tally_of (in_melds x)) x.m → sum_below 34 (in_others x) + 3 * x.m ≡ 13
tiles_of_lem x h = omega (arith, h.tiles, total_cong (λ k. get_or (tally_of (in_others x)) k 0) (in_others x) 34 (λ k l. get_d_tally (in_others x) k l))

module _ (x : Held) (few : x.m ≤ 4) (b : SameMelds x x) where
  -- a hand no swap away has the same tiles
  same_tiles : (y : Held) → SameMelds x y → swaps x y ≡ 0 → (k : ℕ) → k < 34 → in_others x k ≡ in_others y k
  unfolding swaps
  same_tiles y h e =
      let n : y.m ≡ x.m = h.number in
      let each = total_each (λ k. in_others x k - in_others y k) 34 e in
      let p = tiles_of_lem x (hand_tally_lem x few b.sound) in
      let q = tiles_of_lem y (hand_tally_lem y (omega arith) h.sound) in
      total_same (in_others x) (in_others y) 34 (λ k l. omega (arith, each k l)) (omega arith)

  -- and so the same waits
  zero_ready : (y : Held) → IsNearest x 0 y → IsReady x
  zero_ready y q =
      let h = q.hand in
      let t : tally_of (in_others y) ≡ tally_of (in_others x) = tally_cong (in_others y) (in_others x) (λ k l. sym (same_tiles y h q.away k l)) in
      let d : tally_of (in_melds y) ≡ tally_of (in_melds x) = tally_cong (in_melds y) (in_melds x) (λ k l. same_melds x y h.number h.melds k) in
      let k = q.ready.0 in
      let w = subst (λ (t : List ℕ). WaitTally t (tally_of (in_melds y)) y.m k) t (wait_tally y k q.ready.1) in
      let v = subst (λ (d : List ℕ). WaitTally (tally_of (in_others x)) d y.m k) d w in
      (k, tally_wait x k (subst (λ (m : ℕ). WaitTally (tally_of (in_others x)) (tally_of (in_melds x)) m k) h.number v))

  ready_zero : (n : ℕ) (y : Held) → IsReady x → IsNearest x n y → n ≡ 0
  ready_zero n y r q = omega (arith, q.fewest x b r, swaps_self x)

-- ---- answers

only : (s : List ℕ) (a b : Ready) → IsAnswer s a → IsAnswer s b → (b.refusal ≡ a.refusal) × (b.swaps ≡ a.swaps)
only s a b (unreadable p) (unreadable q) = (refl, refl)
only s a b (unreadable p) (nearest e n y q) = absurd (omega arith)
only s a b (nearest e n y q) (unreadable p) = absurd (omega arith)
only s a b (nearest e n y p) (nearest f m z q) =
    (refl, omega (arith, p.away, q.away, p.fewest z q.hand q.ready, q.fewest y p.hand p.ready))

pub exactly_one : (s : List ℕ) → (a : Ready) × IsAnswer s a × ((b : Ready) → IsAnswer s b → (b.refusal ≡ a.refusal) × (b.swaps ≡ a.swaps))
exactly_one s = let l : 0 ≤ refusal_of s = omega arith in ⊎_elim found refused (eq-or-lt_of_le l)
  where
    Exactly : Type 0
    Exactly = (a : Ready) × IsAnswer s a × ((b : Ready) → IsAnswer s b → (b.refusal ≡ a.refusal) × (b.swaps ≡ a.swaps))

    found : 0 ≡ refusal_of s → Exactly
    found e =
        let (y, q) = nearest_hand s (sym e) in
        let n = fewest (tally_of (in_others (held_of s))) (tally_of (in_melds (held_of s))) (held_of s).m in
        let a : Ready = record { refusal = 0; swaps = n; hand = y.concealed } in
        let p : IsAnswer s a = nearest (sym e) n y q in
        (a, p, λ b. only s a b p)

    refused : 0 < refusal_of s → Exactly
    refused l =
        let a : Ready = record { refusal = refusal_of s; swaps = 0; hand = replicate 13 0 } in
        let p : IsAnswer s a = unreadable l in
        (a, p, λ b. only s a b p)

pub its_refusal : (s : List ℕ) (a : Ready) → IsAnswer s a → a.refusal ≡ refusal_of s
its_refusal s a (unreadable p) = refl
its_refusal s a (nearest e n y q) = sym e

pub fewest_hand : (s : List ℕ) → refusal_of s ≡ 0 → (y : Held) × IsNearest (held_of s) (fewest_swaps s) y
unfolding fewest_swaps
fewest_hand s e = rw (le-ltb 0 (refusal_of s) (omega arith)) (nearest_hand s e)

pub refused_none : (s : List ℕ) → 0 < refusal_of s → fewest_swaps s ≡ 0
unfolding fewest_swaps
refused_none s l = rw (lt-ltb 0 (refusal_of s) l)

pub its_number : (s : List ℕ) (a : Ready) → IsAnswer s a → a.swaps ≡ fewest_swaps s
its_number s a (unreadable p) = sym (refused_none s p)
its_number s a (nearest e n y p) =
    let (z, q) = fewest_hand s e in
    omega (arith, p.away, q.away, p.fewest z q.hand q.ready, q.fewest y p.hand p.ready)

pub its_hand : (s : List ℕ) (a : Ready) → IsAnswer s a → refusal_of s ≡ 0 → (y : Held) × IsNearest (held_of s) a.swaps y
its_hand s a (unreadable p) z = absurd (omega arith)
its_hand s a (nearest e n y q) z = (y, q)

pub its_zero : (s : List ℕ) (a : Ready) → IsAnswer s a → 0 < refusal_of s → a.swaps ≡ 0
its_zero s a (unreadable p) l = refl
its_zero s a (nearest e n y q) l = absurd (omega arith)

pub zero_when_ready : (s : List ℕ) → refusal_of s ≡ 0 → (n : ℕ) (y : Held) → IsNearest (held_of s) n y → (n ≡ 0) ↔ IsReady (held_of s)
zero_when_ready s e n y q =
    let (few, b) = same_melds_self s e in
    (λ z. zero_ready (held_of s) few b y (subst (λ (m : ℕ). IsNearest (held_of s) m y) z q), λ w. ready_zero (held_of s) few b n y w q)
