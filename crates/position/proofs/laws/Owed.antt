-- Who owes what at a win: all that the others owe is the gain and 300 a counter; no seat owes more than the whole and that. The four changes of a score are
-- what the others pay.
use Rattle.std.specs.Prelude.{◌≡◌, Bool, List, ltb, ℤ, pos, neg_ℤ, nat_abs, ◌-ℤ◌, get_or, replicate}
use Rattle.std.proofs.Math.Path.{refl, sym, ap}
use Rattle.std.proofs.Common.{◌∙◌, eq-eqb, ne_eqb, eqb-true, ltb-true, ltb-false}
use Rattle.std.proofs.Math.Bool.{true, false, cond}
use Prim.Native.Nat.{ℕ, zero, suc, ◌+◌, ◌*◌, ◌/◌, ◌≤◌, ◌<◌}
use native.Mathlib.Omega.{arith}
use Rattle.std.proofs.lemmas.Bool.{eqb-false}
use Rattle.std.proofs.Math.Dec.{eqb}
use Rattle.std.proofs.Math.IntN.{+ℤ_idl}
use Rattle.tiles.specs.Below.{sum}
use Rattle.hand.specs.Hand.{is_ron}
use Rattle.hand_record.specs.Record.{refusal_in, hand_of, read_of}
use Rattle.hand_record.proofs.laws.Bounds.{read_bounds}
use Rattle.points.specs.declared.Seats.{Seats}
use Rattle.points.specs.Points.{pays, gain, changes}
use Rattle.points.proofs.laws.Balance.{gain_of_others, winner_gets, other_pays}
use Rattle.score.specs.declared.Scored.{Scored}
use Rattle.score.specs.Named.{seats_of, worth, Named, reported, six, seven}
use Rattle.score.specs.IsScore.{IsScore, eight, unreadable, read}
use Rattle.score.specs.Score.{score_of}
use Rattle.score.proofs.laws.One.{is_score}
use Rattle.position.specs.Ledger.{paid_by_others, Liable, nobody, the_feeder, owes, liable_by, whole_of}
use Rattle.position.proofs.laws.PaidByOthers.{both_pay, one_pays, three_pay, none_pays}

-- ---- what they owe

-- a feeder who is liable is a seat, and another than the winner
abbrev pub IsOther : ℕ → Liable → Type 0
IsOther w nobody = Unit {0}
IsOther w (the_feeder x) = (x ≤ 3) × (w ≡ x → ⊥)

pub liable_other : (w n : ℕ) → n ≤ 4 → (n ≡ 1 + w → ⊥) → IsOther w (liable_by n)
liable_other w zero l other = tt
liable_other w (suc x) l other = (omega arith, λ e. other (omega arith))

pub whole_even : (t : Bool) → whole_of t ≡ 2 * cond t 24000 16000
whole_even true = refl
whole_even false = refl

-- all that the others owe without counters
abbrev pub gain_owed : (ℕ → ℕ) → ℕ → ℕ → Liable → ℕ
gain_owed taken w whole nobody = sum 4 (λ j. cond (eqb j w) 0 (taken j))
gain_owed taken w whole (the_feeder x) = whole

halves : (k m a b : ℕ) → a ≡ 2 * k / 2 → b ≡ 2 * k / 2 + m → a + b ≡ 2 * k + m
halves k m a b p q = omega arith

module _ (taken : ℕ → ℕ) (w d k n : ℕ) (h : w ≤ 3) (l : d ≤ 3) where
  -- of an even whole, so that two halves are it
  pub all_owed : (who : Liable) → IsOther w who → (ron : Bool) → (ron ≡ true → w ≡ d → ⊥)
      → sum 4 (λ j. cond (eqb j w) 0 (owes taken d (2 * k) n who ron j)) ≡ gain_owed taken w (2 * k) who + 300 * n
  unfolding owes
  all_owed nobody o true own =
      both_pay (λ j. eqb j w) taken (λ j. cond (eqb j d) (300 * n) 0)
      ∙ ap (λ (m : ℕ). gain_owed taken w (2 * k) nobody + m) (one_pays (300 * n) w d (omega arith) (own refl))
  all_owed nobody o false own =
      let three : sum 4 (λ j. cond (eqb j w) 0 (100 * n)) ≡ 300 * n = three_pay (100 * n) w (omega arith) ∙ omega arith in
      both_pay (λ j. eqb j w) taken (λ j. 100 * n) ∙ ap (λ (m : ℕ). gain_owed taken w (2 * k) nobody + m) three
  all_owed (the_feeder x) o true own =
      both_pay (λ j. eqb j w) (λ j. cond (eqb j x) (2 * k / 2) 0) (λ j. cond (eqb j d) (2 * k / 2 + 300 * n) 0)
      ∙ halves k (300 * n) _ _ (one_pays (2 * k / 2) w x (omega (arith, o.0)) o.1) (one_pays (2 * k / 2 + 300 * n) w d (omega arith) (own refl))
  all_owed (the_feeder x) o false own = one_pays (2 * k + 300 * n) w x (omega (arith, o.0)) o.1

module _ (taken : ℕ → ℕ) (d whole n i m : ℕ) (t : taken i ≤ m) (h : whole ≤ m) where
  one_le : (b : Bool) (a c : ℕ) → a ≤ c → cond b a 0 ≤ c
  one_le true a c l = l
  one_le false a c l = omega arith

  pub owes_le : (who : Liable) (ron : Bool) → owes taken d whole n who ron i ≤ m + 300 * n
  unfolding owes
  owes_le nobody true = omega (arith, t, one_le (eqb i d) (300 * n) (300 * n) (omega arith))
  owes_le nobody false = omega (arith, t)
  owes_le (the_feeder x) true =
      omega (
        arith,
        h,
        one_le (eqb i x) (whole / 2) (whole / 2) (omega arith),
        one_le (eqb i d) (whole / 2 + 300 * n) (whole / 2 + 300 * n) (omega arith),
      )
  owes_le (the_feeder x) false = omega (arith, h, one_le (eqb i x) (whole + 300 * n) (whole + 300 * n) (omega arith))

-- ---- the changes are what the others pay

-- of four changes c that winner w gets and the others pay
abbrev pub PaidFrom : ℕ → (ℕ → ℤ) → Type 0
PaidFrom w c = (i : ℕ) → paid_by_others w (λ j. nat_abs (c j)) i ≡ c i

module _ (w : ℕ) (c : ℕ → ℤ) (own : c w ≡ pos (sum 4 (λ j. cond (eqb j w) 0 (nat_abs (c j)))))
    (others : (j : ℕ) → eqb j w ≡ false → c j ≡ neg_ℤ (pos (nat_abs (c j)))) where
  from_others : PaidFrom w c
  unfolding paid_by_others
  from_others i = go (eqb i w) refl
    where
      go : (t : Bool) → eqb i w ≡ t → cond t (pos (sum 4 (λ j. cond (eqb j w) 0 (nat_abs (c j))))) (neg_ℤ (pos (nat_abs (c i)))) ≡ c i
      go true e = sym own ∙ ap c (sym (eqb-true i w e))
      go false e = sym (others i e)

pub less_size : (p : ℕ) → nat_abs (pos 0 -ℤ pos p) ≡ p
less_size zero = refl
less_size (suc p) = ap nat_abs (+ℤ_idl (neg_ℤ (pos (suc p))))

zeros : (j : ℕ) → get_or (replicate 4 (pos 0)) j (pos 0) ≡ pos 0
zeros zero = refl
zeros (suc zero) = refl
zeros (suc (suc zero)) = refl
zeros (suc (suc (suc zero))) = refl
zeros (suc (suc (suc (suc j)))) = refl

zeros_paid : (w : ℕ) → PaidFrom w (λ j. get_or (replicate 4 (pos 0)) j (pos 0))
zeros_paid w =
    from_others w (λ j. get_or (replicate 4 (pos 0)) j (pos 0)) (zeros w ∙ ap pos (sym (none_pays w)))
    (λ j e. zeros j ∙ sym (ap (λ (z : ℤ). neg_ℤ (pos (nat_abs z))) (zeros j)))

module _ (σ : Seats) (ron : Bool) (a : ℕ) where
  abbrev c : ℕ → ℤ
  c j = get_or (changes σ ron a) j (pos 0)

  beyond : (j : ℕ) → 4 ≤ j → c j ≡ pos 0
  unfolding changes
  beyond zero l = absurd (omega arith)
  beyond (suc zero) l = absurd (omega arith)
  beyond (suc (suc zero)) l = absurd (omega arith)
  beyond (suc (suc (suc zero))) l = absurd (omega arith)
  beyond (suc (suc (suc (suc j)))) l = refl

  pub other_size : (j : ℕ) → j < 4 → (σ.winner ≡ j → ⊥) → nat_abs (c j) ≡ pays σ ron a j
  other_size j l o = ap nat_abs (other_pays σ ron a j l o) ∙ less_size (pays σ ron a j)

  same : (j : ℕ) → j < 4 → cond (eqb j σ.winner) 0 (nat_abs (c j)) ≡ cond (eqb σ.winner j) 0 (pays σ ron a j)
  same j l = go (eqb σ.winner j) refl
    where
      go : (t : Bool) → eqb σ.winner j ≡ t → cond (eqb j σ.winner) 0 (nat_abs (c j)) ≡ cond t 0 (pays σ ron a j)
      go true e = rw (eq-eqb j σ.winner (sym (eqb-true σ.winner j e)))
      go false e = let o = eqb-false σ.winner j e in rw (ne_eqb j σ.winner (λ z. o (sym z))) (other_size j l o)

  -- all that they pay is the gain
  pub all_paid : sum 4 (λ j. cond (eqb j σ.winner) 0 (nat_abs (c j))) ≡ gain σ ron a
  all_paid =
      omega (arith, gain_of_others σ ron a, same 0 (omega arith), same 1 (omega arith), same 2 (omega arith), same 3 (omega arith))

  others : (j : ℕ) → eqb j σ.winner ≡ false → c j ≡ neg_ℤ (pos (nat_abs (c j)))
  others j e = go (ltb j 4) refl
    where
      go : (t : Bool) → ltb j 4 ≡ t → c j ≡ neg_ℤ (pos (nat_abs (c j)))
      go true q =
          let l = ltb-true j 4 q in
          let o : σ.winner ≡ j → ⊥ = λ z. eqb-false j σ.winner e (sym z) in
          other_pays σ ron a j l o ∙ +ℤ_idl (neg_ℤ (pos (pays σ ron a j))) ∙ ap (λ (p : ℕ). neg_ℤ (pos p)) (sym (other_size j l o))
      go false q = let z = beyond j (ltb-false j 4 q) in z ∙ sym (ap (λ (y : ℤ). neg_ℤ (pos (nat_abs y))) z)

  pub changes_paid : σ.winner < 4 → PaidFrom σ.winner c
  changes_paid h = from_others σ.winner c (winner_gets σ ron a h ∙ ap pos (sym all_paid)) others

-- of every record
module _ (s : List ℕ) (dealer wind : ℕ) where
  abbrev w : ℕ
  w = (hand_of (read_of s)).fields.winner

  named_paid : refusal_in (read_of s).answer ≡ 0 → {v : Scored} → Named (hand_of (read_of s)) dealer wind v → PaidFrom w (λ j. get_or v.changes j (pos 0))
  named_paid e (reported r x) =
      let h = hand_of (read_of s) in
      changes_paid (seats_of h dealer) (is_ron h.fields) (worth h dealer wind r).basic.0 (omega (arith, (read_bounds s e).winner))
  named_paid e (six x) = zeros_paid w
  named_paid e (seven q x y) = zeros_paid w

  answer_paid : {v : Scored} → IsScore s dealer wind v → PaidFrom w (λ j. get_or v.changes j (pos 0))
  answer_paid (eight x) = zeros_paid w
  answer_paid (unreadable x y n e) = zeros_paid w
  answer_paid (read x y f e m) = named_paid (ap refusal_in e) m

  pub score_paid : PaidFrom w (λ j. get_or (score_of s dealer wind).changes j (pos 0))
  score_paid = answer_paid (is_score s dealer wind)
