-- What the game needs to know of a scored hand: four changes, none over 48,000, where a child wins none under −32,000, summing to 0.
use Rattle.std.specs.Prelude.{◌≡◌, Bool, ◌||◌, cond, List, ℤ, ◌-ℤ◌, get_or, replicate}
use Rattle.std.proofs.Math.Path.{refl}
use Rattle.std.proofs.Common.{sym, ap, subst}
use Rattle.std.proofs.Math.Bool.{true, false}
use Prim.Native.Nat.{ℕ, zero, suc, ◌*◌, ◌≤◌, ◌<◌}
use Rattle.std.proofs.Math.Nat.{mul-le-mul}
use native.Mathlib.Omega.{arith}
use borrow.Author.Tests.{eqb-true}
use Rattle.std.proofs.Math.Dec.{ltb, eqb}
use Rattle.std.proofs.Math.IntN.{pos}
use Rattle.tiles.proofs.laws.Below.{cond_le}
use Rattle.hand.specs.declared.Hand.{Hand}
use Rattle.hand.specs.Hand.{is_ron}
use Rattle.hand_record.specs.Record.{Answer, Sound, Refused}
use Rattle.hand_record.specs.Record.{refusal_in, hand_of, read_of}
use Rattle.hand_record.proofs.laws.Bounds.{read_bounds}
use Rattle.points.specs.declared.Seats.{Seats}
use Rattle.points.specs.Points.{hundreds, times_a, pays, gain, change as change_of, changes, sum_of_four}
use Rattle.points.proofs.Claims.{changes_sum_zero}
use Rattle.points.proofs.laws.Bounds.{pays_le, gain_le}
use Rattle.score.specs.declared.Scored.{Scored}
use Rattle.score.specs.Named.{seats_of, refused_with}
use Rattle.score.specs.search.HandScore.{hand_score_of, found_by, found_of}
use Rattle.score.specs.Score.{score_of}
use Rattle.score.proofs.laws.Found.{kept_le}
use Rattle.score.proofs.laws.HandScore.{found_is_score}
use Rattle.score.proofs.laws.Best.{answers}
use Rattle.score.proofs.laws.Z.{dn, Within, sub_parts}

abbrev pub change : Hand → ℕ → ℕ → ℕ → ℤ
change h dealer wind i = get_or (hand_score_of h dealer wind).changes i (pos 0)

-- ---- of the payments for basic points a

module _ (s : Seats) (ron : Bool) (a : ℕ) (h : a ≤ 8000) where
  one_within : (i : ℕ) → i < 4 → Within (change_of s ron a i) 48000
  unfolding change_of
  one_within i l = go (eqb s.winner i) refl
    where
      go : (b : Bool) → eqb s.winner i ≡ b → Within (cond b (pos (gain s ron a)) (pos 0 -ℤ pos (pays s ron a i))) 48000
      go true e =
          let w : s.winner ≡ i = eqb-true s.winner i e in
          (gain_le s a h ron (omega arith), omega arith)
      go false e =
          let p = sub_parts (pos 0) (pos (pays s ron a i)) in
          (omega arith, omega (arith, pays_le s a h ron i))

  all_within : (i : ℕ) → Within (get_or (changes s ron a) i (pos 0)) 48000
  unfolding changes
  all_within zero = one_within 0 (omega arith)
  all_within (suc zero) = one_within 1 (omega arith)
  all_within (suc (suc zero)) = one_within 2 (omega arith)
  all_within (suc (suc (suc zero))) = one_within 3 (omega arith)
  all_within (suc (suc (suc (suc i)))) = (omega arith, omega arith)

-- where a child wins no seat pays over 32,000
module _ (s : Seats) (ron : Bool) (a : ℕ) (h : a ≤ 8000) (child : eqb s.winner s.dealer ≡ false) where
  child_times : (i : ℕ) → times_a s ron i ≤ 4
  unfolding times_a
  child_times i =
      rw child (cond_le (eqb s.winner i) _ _ 4 (omega arith)
      (cond_le ron _ _ 4 (cond_le (eqb s.discarder i) _ _ 4 (omega arith) (omega arith)) (cond_le (eqb s.dealer i) _ _ 4 (omega arith) (omega arith))))

  child_pays : (i : ℕ) → pays s ron a i ≤ 32000
  unfolding pays hundreds
  child_pays i = let l : times_a s ron i * a ≤ 4 * 8000 = mul-le-mul (child_times i) h in omega arith

  child_one : (i : ℕ) → dn (change_of s ron a i) ≤ 32000
  unfolding change_of
  child_one i = go (eqb s.winner i)
    where
      go : (b : Bool) → dn (cond b (pos (gain s ron a)) (pos 0 -ℤ pos (pays s ron a i))) ≤ 32000
      go true = omega arith
      go false = let p = sub_parts (pos 0) (pos (pays s ron a i)) in omega (arith, child_pays i)

  child_all : (i : ℕ) → dn (get_or (changes s ron a) i (pos 0)) ≤ 32000
  unfolding changes
  child_all zero = child_one 0
  child_all (suc zero) = child_one 1
  child_all (suc (suc zero)) = child_one 2
  child_all (suc (suc (suc zero))) = child_one 3
  child_all (suc (suc (suc (suc i)))) = omega arith

zeros_within : (i : ℕ) → Within (get_or (replicate 4 (pos 0)) i (pos 0)) 48000
zeros_within zero = (omega arith, omega arith)
zeros_within (suc zero) = (omega arith, omega arith)
zeros_within (suc (suc zero)) = (omega arith, omega arith)
zeros_within (suc (suc (suc zero))) = (omega arith, omega arith)
zeros_within (suc (suc (suc (suc i)))) = (omega arith, omega arith)

zeros_none : (i : ℕ) → dn (get_or (replicate 4 (pos 0)) i (pos 0)) ≤ 32000
zeros_none zero = omega arith
zeros_none (suc zero) = omega arith
zeros_none (suc (suc zero)) = omega arith
zeros_none (suc (suc (suc zero))) = omega arith
zeros_none (suc (suc (suc (suc i)))) = omega arith

-- ---- of a scored hand: zeros where it is refused, else its payments

module _ (P : List ℤ → Type 0) (h : Hand) (dealer wind : ℕ) (none : P (replicate 4 (pos 0)))
    (paid : (a : ℕ) → a ≤ 8000 → P (changes (seats_of h dealer) (is_ron h.fields) a)) where
  of_changes : P (hand_score_of h dealer wind).changes
  of_changes =
      let to : (x : Scored) → hand_score_of h dealer wind ≡ x → P x.changes → P (hand_score_of h dealer wind).changes =
      λ x e p. subst (λ (y : Scored). P y.changes) (sym e) p in
      answers h dealer wind (λ e. to (refused_with 6) e none) (λ e. to (refused_with 7) e none)
      (λ e. to _ e (paid _ (kept_le h dealer wind)))

module _ (h : Hand) (dealer wind : ℕ) where
  pub changes_within : (i : ℕ) → Within (change h dealer wind i) 48000
  changes_within i =
      of_changes (λ l. Within (get_or l i (pos 0)) 48000) h dealer wind (zeros_within i) (λ a l. all_within (seats_of h dealer) (is_ron h.fields) a l i)

-- ---- of a scored record

module _ (P : List ℤ → Type 0) (s : List ℕ) (dealer wind : ℕ) (none : P (replicate 4 (pos 0)))
    (paid : refusal_in (read_of s).answer ≡ 0 → (a : ℕ) → a ≤ 8000
    → P (changes (seats_of (hand_of (read_of s)) dealer) (is_ron (hand_of (read_of s)).fields) a)) where
  of_found : P (found_of s dealer wind).changes
  unfolding found_of found_by
  of_found = go (ltb 3 dealer || ltb 1 wind) (read_of s).answer refl
    where
      go : (b : Bool) (a : Answer) → (read_of s).answer ≡ a → P (cond b (refused_with 8) (found_by a (hand_of (read_of s)) dealer wind)).changes
      go true a e = none
      go false (Refused n) e = none
      go false (Sound f) e = of_changes P (hand_of (read_of s)) dealer wind none (paid (ap refusal_in e))

  of_score : P (score_of s dealer wind).changes
  of_score = subst (λ (x : Scored). P x.changes) (found_is_score s dealer wind) of_found

module _ (s : List ℕ) (dealer wind : ℕ) where
  pub score_within : (i : ℕ) → Within (get_or (score_of s dealer wind).changes i (pos 0)) 48000
  score_within i =
      of_score (λ l. Within (get_or l i (pos 0)) 48000) s dealer wind (zeros_within i)
      (λ e a l. all_within (seats_of (hand_of (read_of s)) dealer) (is_ron (hand_of (read_of s)).fields) a l i)

  pub score_child : eqb (hand_of (read_of s)).fields.winner dealer ≡ false → (i : ℕ) → dn (get_or (score_of s dealer wind).changes i (pos 0)) ≤ 32000
  score_child child i =
      of_score (λ l. dn (get_or l i (pos 0)) ≤ 32000) s dealer wind (zeros_none i)
      (λ e a l. child_all (seats_of (hand_of (read_of s)) dealer) (is_ron (hand_of (read_of s)).fields) a l child i)

  pub zero_sum : sum_of_four (score_of s dealer wind).changes ≡ pos 0
  zero_sum =
      of_score (λ l. sum_of_four l ≡ pos 0) s dealer wind refl
      (λ e a l. changes_sum_zero (seats_of (hand_of (read_of s)) dealer) (is_ron (hand_of (read_of s)).fields) a (omega (arith, (read_bounds s e).winner)))
