-- The two parts of a win's payments: what each gives a seat, so that no sum is made; who pays the counters alone; and that they are what the table says.
use Rattle.std.specs.Prelude.{◌≡◌, Bool, ◌||◌, Option, None, Some, is_some, unwrap_or, pos, neg_ℤ, ◌+ℤ◌}
use Rattle.std.specs.Option.{ForSome}
use Rattle.std.proofs.Math.Path.{refl}
use Rattle.std.proofs.Common.{ap, sym, ◌∙◌}
use Rattle.std.proofs.lemmas.Bool.{false≢true}
use Rattle.std.proofs.Math.Bool.{true, false, cond}
use Prim.Native.Nat.{ℕ, ◌+◌, ◌*◌, ◌/◌, ◌≤◌, ◌<◌}
use native.Mathlib.Omega.{arith}
use Rattle.std.proofs.Math.Dec.{eqb}
use Rattle.tiles.specs.Below.{sum}
use Rattle.score.proofs.laws.Z.{add_law, neg_law, eq_parts}
use Rattle.position.specs.Ledger.{paid_by_others, owes}
use Rattle.position.specs.search.Feeder.{liable_as}
use Rattle.position.proofs.laws.PaidByOthers.{both_pay, one_pays, three_pay}
use Rattle.position_payments.specs.search.Parts.{pao_pays, repeat_pays}

-- the winner gets m, which is what the others pay
given_at : (w : ℕ) (p : ℕ → ℕ) (m : ℕ) → sum 4 (λ j. cond (eqb j w) 0 (p j)) ≡ m → (i : ℕ) → cond (eqb i w) (pos m) (neg_ℤ (pos (p i))) ≡ paid_by_others w p i
unfolding paid_by_others
given_at w p m e i = rw e

-- ---- the counters

module _ (w d : ℕ) (alone : Bool) (n : ℕ) (h : w ≤ 3) (l : d ≤ 3) (k : alone ≡ true → w ≡ d → ⊥) where
  all_counters : sum 4 (λ j. cond (eqb j w) 0 (repeat_pays d alone n j)) ≡ 300 * n
  unfolding repeat_pays
  all_counters = go alone refl
    where
      go : (t : Bool) → alone ≡ t → sum 4 (λ j. cond (eqb j w) 0 (cond t (cond (eqb j d) (300 * n) 0) (100 * n))) ≡ 300 * n
      go true e = one_pays (300 * n) w d (omega arith) (k e)
      go false e = three_pay (100 * n) w (omega arith) ∙ omega arith

  -- what they give seat i
  pub added_at : (i : ℕ)
      → cond (eqb i w) (pos (300 * n)) (neg_ℤ (pos (cond alone (cond (eqb i d) (300 * n) 0) (100 * n)))) ≡ paid_by_others w (repeat_pays d alone n) i
  unfolding repeat_pays
  added_at = given_at w (repeat_pays d alone n) (300 * n) all_counters

-- a seat that pays the counters alone is a seat, and another than the winner
pub payer_small : (w : ℕ) (payer : Option ℕ) → ForSome payer (λ x. (x ≤ 3) × (w ≡ x → ⊥)) → unwrap_or payer 0 ≤ 3
payer_small w None o = omega arith
payer_small w (Some x) o = (o x refl).0

pub payer_other : (w : ℕ) (payer : Option ℕ) → ForSome payer (λ x. (x ≤ 3) × (w ≡ x → ⊥)) → is_some payer ≡ true → w ≡ unwrap_or payer 0 → ⊥
payer_other w None o a e = absurd (false≢true a)
payer_other w (Some x) o a e = (o x refl).1 e

-- the discarder on ron, else the feeder
module _ (w d : ℕ) (f : Option ℕ) where
  abbrev payer : Bool → Option ℕ
  payer ron = cond ron (Some d) f

  pub payer_is : (ron : Bool) (n : ℕ) → repeat_pays (unwrap_or (payer ron) 0) (is_some (payer ron)) n ≡ repeat_pays (cond ron d (unwrap_or f 0)) (ron || is_some f) n
  payer_is true n = refl
  payer_is false n = refl

  pub payer_seat : (ron : Bool) → d ≤ 3 → (ron ≡ true → w ≡ d → ⊥) → ForSome f (λ x. (x ≤ 3) × (w ≡ x → ⊥)) → ForSome (payer ron) (λ x. (x ≤ 3) × (w ≡ x → ⊥))
  payer_seat true l own o x e =
      let same : d ≡ x = cc in
      (omega arith, λ z. own refl (z ∙ sym same))
  payer_seat false l own o x e = o x e

-- ---- the gain with pao

twice : (k a b : ℕ) → a ≡ 2 * k / 2 → b ≡ 2 * k / 2 → a + b ≡ 2 * k
twice k a b p q = omega arith

-- of an even whole, so that two halves are it
module _ (w d f k : ℕ) (ron : Bool) (g : f < 4) (other : w ≡ f → ⊥) (l : ron ≡ true → d < 4) (own : ron ≡ true → w ≡ d → ⊥) where
  abbrev whole : ℕ
  whole = 2 * k

  all_paid : sum 4 (λ j. cond (eqb j w) 0 (pao_pays d f ron whole j)) ≡ whole
  unfolding pao_pays
  all_paid = go ron refl
    where
      go : (r : Bool) → ron ≡ r → sum 4 (λ j. cond (eqb j w) 0
          (cond r (cond (eqb j f) (whole / 2) 0 + cond (eqb j d) (whole / 2) 0) (cond (eqb j f) whole 0))) ≡ whole
      go true e =
          both_pay (λ j. eqb j w) (λ j. cond (eqb j f) (whole / 2) 0) (λ j. cond (eqb j d) (whole / 2) 0)
          ∙ twice k _ _ (one_pays (whole / 2) w f g other) (one_pays (whole / 2) w d (l e) (own e))
      go false e = one_pays whole w f g other

  -- what it gives seat i
  pub pao_at : (i : ℕ) → cond (eqb i w) (pos whole)
      (neg_ℤ (pos (cond ron (cond (eqb i f) (whole / 2) 0 + cond (eqb i d) (whole / 2) 0) (cond (eqb i f) whole 0))))
      ≡ paid_by_others w (pao_pays d f ron whole) i
  unfolding pao_pays
  pao_at = given_at w (pao_pays d f ron whole) whole all_paid

-- ---- together

paid_apart : (w : ℕ) (x y : ℕ → ℕ) (i : ℕ) → paid_by_others w (λ j. x j + y j) i ≡ paid_by_others w x i +ℤ paid_by_others w y i
unfolding paid_by_others
paid_apart w x y i = go (eqb i w)
  where
    go : (t : Bool) → cond t (pos (sum 4 (λ j. cond (eqb j w) 0 (x j + y j)))) (neg_ℤ (pos (x i + y i)))
        ≡ cond t (pos (sum 4 (λ j. cond (eqb j w) 0 (x j)))) (neg_ℤ (pos (x i))) +ℤ cond t (pos (sum 4 (λ j. cond (eqb j w) 0 (y j)))) (neg_ℤ (pos (y i)))
    go true = ap pos (both_pay (λ j. eqb j w) x y)
    go false = eq_parts _ _ (omega (
      arith,
      add_law (neg_ℤ (pos (x i))) (neg_ℤ (pos (y i))),
      neg_law (pos (x i)),
      neg_law (pos (y i)),
      neg_law
          (pos (x i + y i)),
    ))

paid_same : (w : ℕ) (x y : ℕ → ℕ) → ((j : ℕ) → x j ≡ y j) → (i : ℕ) → paid_by_others w x i ≡ paid_by_others w y i
unfolding paid_by_others
paid_same w x y e i = rw (e 0, e 1, e 2, e 3, e i)

apart : (b : Bool) (x y : ℕ) → cond b (x + y) 0 ≡ cond b x 0 + cond b y 0
apart true x y = refl
apart false x y = refl

module _ (taken : ℕ → ℕ) (d whole n : ℕ) where
  -- what seat i pays of the gain: with pao by article 67, else what the reading takes
  abbrev pub gain_pays : Option ℕ → Bool → ℕ → ℕ
  gain_pays feeder ron i = cond (is_some feeder) (pao_pays d (unwrap_or feeder 0) ron whole i) (taken i)

  owed_parts : (feeder : Option ℕ) (ron : Bool) (i : ℕ)
      → owes taken d whole n (liable_as feeder) ron i
      ≡ gain_pays feeder ron i + repeat_pays (cond ron d (unwrap_or feeder 0)) (ron || is_some feeder) n i
  unfolding owes pao_pays repeat_pays
  owed_parts None true i = refl
  owed_parts None false i = refl
  owed_parts (Some x) true i = rw (apart (eqb i d) (whole / 2) (300 * n)) (omega arith)
  owed_parts (Some x) false i = apart (eqb i x) whole (300 * n)

  -- what each seat gets or pays, in two parts
  pub in_parts : (w : ℕ) (feeder : Option ℕ) (ron : Bool) (i : ℕ)
      → paid_by_others w (owes taken d whole n (liable_as feeder) ron) i
      ≡ paid_by_others w (gain_pays feeder ron) i +ℤ paid_by_others w (repeat_pays (cond ron d (unwrap_or feeder 0)) (ron || is_some feeder) n) i
  in_parts w feeder ron i =
      paid_same w (owes taken d whole n (liable_as feeder) ron)
      (λ j. gain_pays feeder ron j + repeat_pays (cond ron d (unwrap_or feeder 0)) (ron || is_some feeder) n j) (owed_parts feeder ron) i
      ∙ paid_apart w (gain_pays feeder ron) (repeat_pays (cond ron d (unwrap_or feeder 0)) (ron || is_some feeder) n) i
