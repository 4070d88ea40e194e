-- Messages that are told apart: where clips of one sort end, and what follows from two messages being the same.
use Rattle.std.proofs.Math.Path.{◌≡◌, refl, ap}
use Rattle.std.proofs.Common.{sym, ◌∙◌, eq-or-lt_of_le, le_of_suc-le-suc}
use Rattle.std.specs.Prelude.{Bool, ◌||◌, ltb, eqb, pos, nat_abs, get_or}
use Rattle.std.proofs.Math.Bool.{true, false, cond}
use Rattle.std.proofs.lemmas.Bool.{false≢true}
use mathlib.Core.List.{List, [], ◌∷◌, ◌++◌, append_assoc, Memᴰ as Member}
use Rattle.std.proofs.Math.Logic.{⊎_elim}
use Prim.Native.Nat.{ℕ, zero, suc, ◌+◌, ◌≤◌, ◌<◌}
use native.Mathlib.Omega.{arith}
use borrow.Author.Tests.{ltb-true, ltb-false, lt-ltb, le-ltb, eq-eqb, ne_eqb}
use Rattle.std.proofs.Math.IntN.{ℤ}
use Rattle.std.specs.Int.Signed.{lt_z}
use Rattle.speech_numerals.specs.Numerals.{numeral}
use Rattle.speech_numerals.specs.Heard.{on_sheet}
use Rattle.speech_numerals.proofs.laws.Heard.{alike}
use Rattle.speech_numerals.proofs.laws.Sheet.{on_numeral}
use Rattle.speech_told.specs.Phrases.{paid, player, chosen, yaku_clips, limit_clips, worth_clips, amount_clips, pays_clips, payments_clips}

-- ---- two lists that begin with clips of one sort, up to a clip of another

-- all clips of a list have p
unfoldable pub Each : (ℕ → Bool) → List ℕ → Type 0
Each p [] = Unit
Each p (c ∷ l) = (p c ≡ true) × Each p l

each_then : (p : ℕ → Bool) (a b : List ℕ) → Each p a → Each p b → Each p (a ++ b)
unfolding Each
each_then p [] b x y = y
each_then p (c ∷ a) b x y = (x.0, each_then p a b x.1 y)

never : {A : Type 0} (p : ℕ → Bool) {c d : ℕ} → c ≡ d → p c ≡ true → p d ≡ false → A
never p e t f = absurd (false≢true (sym f ∙ sym (ap p e) ∙ t))

-- heads and tails of equal lists
pub head_eq : {c d : ℕ} {x y : List ℕ} → c ∷ x ≡ d ∷ y → c ≡ d
head_eq e = cc

pub tail_eq : {c d : ℕ} {x y : List ℕ} → c ∷ x ≡ d ∷ y → x ≡ y
tail_eq e = cc

-- the clips before the first without p, and those from it on
pub cut : (p : ℕ → Bool) (a b : List ℕ) {m n : ℕ} {x y : List ℕ} → Each p a → Each p b → p m ≡ false → p n ≡ false
    → a ++ (m ∷ x) ≡ b ++ (n ∷ y) → (a ≡ b) × (m ∷ x ≡ n ∷ y)
unfolding Each
cut p [] [] s t f g e = (refl, e)
cut p [] (d ∷ b) s t f g e = never p (sym (head_eq e)) t.0 f
cut p (c ∷ a) [] s t f g e = never p (head_eq e) s.0 g
cut p (c ∷ a) (d ∷ b) s t f g e =
    let r = cut p a b s.1 t.1 f g (tail_eq e) in
    let h : c ≡ d = head_eq e in
    (ap (λ (k : ℕ). k ∷ a) h ∙ ap (λ (k : List ℕ). d ∷ k) r.0, r.1)

-- ---- numbers are clips below 60, and yaku clips over 140

unfoldable pub is_low : ℕ → Bool
is_low c = ltb c 60

unfoldable pub is_high : ℕ → Bool
is_high c = ltb 140 c

each_of : (p : ℕ → Bool) (cs : List ℕ) → ((c : ℕ) → Member c cs → p c ≡ true) → Each p cs
unfolding Each
each_of p [] h = tt
each_of p (c ∷ cs) h = (h c (Member.head refl), each_of p cs (λ d m. h d (Member.tail m)))

sheet_low : (l c : ℕ) → on_sheet l c ≡ true → is_low c ≡ true
unfolding is_low on_sheet
sheet_low l c h = go (ltb c 60) refl
  where
    go : (b : Bool) → ltb c 60 ≡ b → b ≡ true
    go true e = refl
    go false e =
        let g = ltb-false c 60 e in
        absurd (false≢true (rw (
          le-ltb c 28 (omega arith),
          le-ltb c 39 (omega arith),
          ne_eqb c 39 (λ q. omega arith),
          lt-ltb 39 c (omega arith),
          le-ltb c 42
              (omega arith),
          lt-ltb 41 c (omega arith),
          le-ltb c 54 (omega arith),
        ) at h))

numeral_low : (l n : ℕ) → n < 1000000000000 → Each is_low (numeral l n)
numeral_low l n h = each_of is_low (numeral l n) (λ c m. sheet_low l c ((on_numeral l n h).on c m))

chosen_high : (first : ℕ) (p : ℕ → Bool) (n : ℕ) → 140 < first → Each is_high (chosen first p n)
unfolding chosen Each is_high
chosen_high first p zero h = tt
chosen_high first p (suc n) h = each_then is_high (chosen first p n) (cond (p n) ((first + n) ∷ []) []) (chosen_high first p n h) (go (p n))
  where
    go : (b : Bool) → Each is_high (cond b ((first + n) ∷ []) [])
    go true = (lt-ltb 140 (first + n) (omega arith), tt)
    go false = tt

-- ---- the set that was chosen

has : ℕ → List ℕ → Bool
has c [] = false
has c (d ∷ l) = eqb d c || has c l

has_then : (c : ℕ) (a b : List ℕ) → has c (a ++ b) ≡ has c a || has c b
unfolding has
has_then c [] b = refl
has_then c (d ∷ a) b = ap (λ (t : Bool). eqb d c || t) (has_then c a b) ∙ sym (or_assoc (eqb d c) (has c a) (has c b))
  where
    or_assoc : (x y z : Bool) → (x || y) || z ≡ x || (y || z)
    or_assoc true y z = refl
    or_assoc false y z = refl

or_none : (b : Bool) → b || false ≡ b
or_none true = refl
or_none false = refl

module _ (first : ℕ) (p : ℕ → Bool) where
  last_other : (n k : ℕ) → (n ≡ k → ⊥) → has (first + k) (cond (p n) ((first + n) ∷ []) []) ≡ false
  unfolding has
  last_other n k h = go (p n)
    where
      go : (b : Bool) → has (first + k) (cond b ((first + n) ∷ []) []) ≡ false
      go true = rw (ne_eqb (first + n) (first + k) (λ e. h (omega arith)))
      go false = refl

  last_same : (n : ℕ) → has (first + n) (cond (p n) ((first + n) ∷ []) []) ≡ p n
  unfolding has
  last_same n = go (p n)
    where
      go : (b : Bool) → has (first + n) (cond b ((first + n) ∷ []) []) ≡ b
      go true = rw (eq-eqb (first + n) (first + n) refl)
      go false = refl

  chosen_out : (n k : ℕ) → n ≤ k → has (first + k) (chosen first p n) ≡ false
  unfolding chosen has
  chosen_out zero k h = refl
  chosen_out (suc n) k h =
      has_then (first + k) (chosen first p n) (cond (p n) ((first + n) ∷ []) [])
      ∙ ap (λ (t : Bool). t || has (first + k) (cond (p n) ((first + n) ∷ []) [])) (chosen_out n k (omega arith)) ∙ last_other n k (λ e. omega arith)

  chosen_has : (n k : ℕ) → k < n → has (first + k) (chosen first p n) ≡ p k
  unfolding chosen
  chosen_has zero k h = absurd (omega arith)
  chosen_has (suc n) k h =
      has_then (first + k) (chosen first p n) (cond (p n) ((first + n) ∷ []) [])
      ∙ ⊎_elim same (λ g. less g (chosen_has n k g)) (eq-or-lt_of_le (le_of_suc-le-suc h))
    where
      same : k ≡ n → has (first + k) (chosen first p n) || has (first + k) (cond (p n) ((first + n) ∷ []) []) ≡ p k
      same e = rw (e, chosen_out n n (omega arith)) (last_same n)

      less : k < n → has (first + k) (chosen first p n) ≡ p k → has (first + k) (chosen first p n) || has (first + k) (cond (p n) ((first + n) ∷ []) []) ≡ p k
      less g r = rw (r, last_other n k (λ e. omega arith)) (or_none (p k))

pub chosen_same : (first : ℕ) (p q : ℕ → Bool) (n : ℕ) → chosen first p n ≡ chosen first q n → (k : ℕ) → k < n → p k ≡ q k
chosen_same first p q n e k h = sym (chosen_has first p n k h) ∙ ap (has (first + k)) e ∙ chosen_has first q n k h

-- ---- payments

pub player_same : (dealer i j : ℕ) → i ≤ 3 → j ≤ 3 → player dealer i ≡ player dealer j → i ≡ j
player_same dealer i j h g e = omega arith

module _ (l dealer : ℕ) where
  -- a message that does not go on with what the seat pays
  NotNext : ℕ → List ℕ → Type 0
  NotNext seat t = (x : List ℕ) → t ≡ player dealer seat ∷ 66 ∷ x → ⊥

  next_amount : (seat who g : ℕ) → NotNext seat (amount_clips l who 67 g)
  unfolding amount_clips NotNext
  next_amount seat who g x e = let z : ◌≡◌ {A = ℕ} 67 66 = head_eq (tail_eq e) in omega arith

  next_pays : (seat other : ℕ) (z : ℤ) (t : List ℕ) → seat ≤ 3 → other ≤ 3 → (seat ≡ other → ⊥) → NotNext seat t
      → NotNext seat (pays_clips l dealer other z ++ t)
  unfolding pays_clips amount_clips NotNext
  next_pays seat other z t h g n r x = go (lt_z z (pos 0))
    where
      go : (b : Bool) → cond b (player dealer other ∷ 66 ∷ (numeral l (nat_abs z) ++ (68 ∷ []))) [] ++ t ≡ player dealer seat ∷ 66 ∷ x → ⊥
      go true e = n (sym (player_same dealer other seat g h (head_eq e)))
      go false e = r x e

  -- one seat
  pays_same : (seat : ℕ) (y z : ℤ) (t u : List ℕ) → nat_abs y < 1000000000000 → nat_abs z < 1000000000000 → NotNext seat t → NotNext seat u
      → pays_clips l dealer seat y ++ t ≡ pays_clips l dealer seat z ++ u → (paid y ≡ paid z) × (t ≡ u)
  unfolding pays_clips amount_clips NotNext paid is_low
  pays_same seat y z t u f g n m = go (lt_z y (pos 0)) (lt_z z (pos 0))
    where
      clips : ℤ → List ℕ
      clips w = player dealer seat ∷ 66 ∷ (numeral l (nat_abs w) ++ (68 ∷ []))

      go : (b c : Bool) → cond b (clips y) [] ++ t ≡ cond c (clips z) [] ++ u → (cond b (nat_abs y) 0 ≡ cond c (nat_abs z) 0) × (t ≡ u)
      go true true e =
          let r = cut is_low (numeral l (nat_abs y)) (numeral l (nat_abs z)) {m = 68} {n = 68} {x = t} {y = u} (numeral_low l (nat_abs y) f)
          (numeral_low l (nat_abs z) g) refl refl
          (sym (append_assoc (numeral l (nat_abs y)) (68 ∷ []) t) ∙ tail_eq (tail_eq e) ∙ append_assoc (numeral l (nat_abs z)) (68 ∷ []) u) in
          (alike l l (nat_abs y) (nat_abs z) f g r.0, tail_eq r.1)
      go true false e = absurd (m ((numeral l (nat_abs y) ++ (68 ∷ [])) ++ t) (sym e))
      go false true e = absurd (n ((numeral l (nat_abs z) ++ (68 ∷ [])) ++ u) e)
      go false false e = (refl, e)

-- all four
module _ (l dealer : ℕ) (c d : List ℤ) (f : (k : ℕ) → nat_abs (get_or c k (pos 0)) < 1000000000000) (g : (k : ℕ) → nat_abs (get_or d k (pos 0)) < 1000000000000) where
  abbrev seat_c : ℕ → List ℕ
  seat_c k = pays_clips l dealer k (get_or c k (pos 0))

  abbrev seat_d : ℕ → List ℕ
  seat_d k = pays_clips l dealer k (get_or d k (pos 0))

  four_apart : (p : ℕ → List ℕ) (a : List ℕ) → (p 0 ++ (p 1 ++ (p 2 ++ p 3))) ++ a ≡ p 0 ++ (p 1 ++ (p 2 ++ (p 3 ++ a)))
  four_apart p a = simp append_assoc

  module _ (who x y : ℕ) (e : payments_clips l dealer c ++ amount_clips l who 67 x ≡ payments_clips l dealer d ++ amount_clips l who 67 y) where
    abbrev ax : List ℕ
    ax = amount_clips l who 67 x

    abbrev ay : List ℕ
    ay = amount_clips l who 67 y

    -- what follows seat k does not go on with it
    past : (k j : ℕ) (z : ℤ) (t : List ℕ) → k < j → j ≤ 3 → NotNext l dealer k t → NotNext l dealer k (pays_clips l dealer j z ++ t)
    past k j z t h i = next_pays l dealer k j z t (omega arith) i (λ q. omega arith)

    all_paid : (paid (get_or c 0 (pos 0)) ≡ paid (get_or d 0 (pos 0))) × (paid (get_or c 1 (pos 0)) ≡ paid (get_or d 1 (pos 0)))
        × (paid (get_or c 2 (pos 0)) ≡ paid (get_or d 2 (pos 0))) × (paid (get_or c 3 (pos 0)) ≡ paid (get_or d 3 (pos 0)))
    unfolding payments_clips
    all_paid =
        let n0 = next_amount l dealer 0 who in
        let n1 = next_amount l dealer 1 who in
        let n2 = next_amount l dealer 2 who in
        let n3 = next_amount l dealer 3 who in
        let r0 = pays_same l dealer 0 _ _ (seat_c 1 ++ (seat_c 2 ++ (seat_c 3 ++ ax))) (seat_d 1 ++ (seat_d 2 ++ (seat_d 3 ++ ay))) (f 0) (g 0)
        (past 0 1 _ _ (omega arith) (omega arith) (past 0 2 _ _ (omega arith) (omega arith) (past 0 3 _ _ (omega arith) (omega arith) (n0 x))))
        (past 0 1 _ _ (omega arith) (omega arith) (past 0 2 _ _ (omega arith) (omega arith) (past 0 3 _ _ (omega arith) (omega arith) (n0 y))))
        (sym (four_apart seat_c ax) ∙ e ∙ four_apart seat_d ay) in
        let r1 = pays_same l dealer 1 _ _ (seat_c 2 ++ (seat_c 3 ++ ax)) (seat_d 2 ++ (seat_d 3 ++ ay)) (f 1) (g 1)
        (past 1 2 _ _ (omega arith) (omega arith) (past 1 3 _ _ (omega arith) (omega arith) (n1 x)))
        (past 1 2 _ _ (omega arith) (omega arith) (past 1 3 _ _ (omega arith) (omega arith) (n1 y))) r0.1 in
        let r2 = pays_same l dealer 2 _ _ (seat_c 3 ++ ax) (seat_d 3 ++ ay) (f 2) (g 2)
        (past 2 3 _ _ (omega arith) (omega arith) (n2 x)) (past 2 3 _ _ (omega arith) (omega arith) (n2 y)) r1.1 in
        let r3 = pays_same l dealer 3 _ _ ax ay (f 3) (g 3) (n3 x) (n3 y) r2.1 in
        (r0.0, r1.0, r2.0, r3.0)

    pub payments_same : (k : ℕ) → k < 4 → paid (get_or c k (pos 0)) ≡ paid (get_or d k (pos 0))
    payments_same zero h = all_paid.0
    payments_same (suc zero) h = all_paid.1
    payments_same (suc (suc zero)) h = all_paid.2
    payments_same (suc (suc (suc zero))) h = all_paid.3
    payments_same (suc (suc (suc (suc k)))) h = absurd (omega arith)

-- ---- han and fu

drop_front : (a : List ℕ) {x y : List ℕ} → a ++ x ≡ a ++ y → x ≡ y
drop_front [] e = e
drop_front (c ∷ a) e = drop_front a (tail_eq e)

module _ (l : ℕ) where
  worth_apart : (h fu : ℕ) (t : List ℕ) → (numeral l h ++ (69 ∷ (numeral l fu ++ (70 ∷ limit_clips h fu)))) ++ t
      ≡ numeral l h ++ (69 ∷ (numeral l fu ++ (70 ∷ (limit_clips h fu ++ t))))
  worth_apart h fu t = append_assoc (numeral l h) _ t ∙ ap (λ (k : List ℕ). numeral l h ++ (69 ∷ k)) (append_assoc (numeral l fu) (70 ∷ limit_clips h fu) t)

  pub worth_same : (yakuman : Bool) (h k fu gu : ℕ) (t u : List ℕ) → h < 1000000000000 → k < 1000000000000 → fu < 1000000000000 → gu < 1000000000000
      → worth_clips l yakuman h fu ++ t ≡ worth_clips l yakuman k gu ++ u → (yakuman ≡ false → (h ≡ k) × (fu ≡ gu)) × (t ≡ u)
  unfolding worth_clips is_low
  worth_same true h k fu gu t u hh hk hf hg e = (λ f. absurd (false≢true (sym f)), tail_eq e)
  worth_same false h k fu gu t u hh hk hf hg e =
      let r = cut is_low (numeral l h) (numeral l k) {m = 69} {n = 69} (numeral_low l h hh) (numeral_low l k hk) refl refl
      (sym (worth_apart h fu t) ∙ e ∙ worth_apart k gu u) in
      let q = cut is_low (numeral l fu) (numeral l gu) {m = 70} {n = 70} {x = limit_clips h fu ++ t} {y = limit_clips k gu ++ u} (numeral_low l fu hf)
      (numeral_low l gu hg) refl refl (tail_eq r.1) in
      let a = alike l l h k hh hk r.0 in
      let b = alike l l fu gu hf hg q.0 in (
        λ f. (a, b),
        drop_front (limit_clips h fu) (tail_eq q.1
            ∙ ap (λ (c : List ℕ). c ++ u) (ap (λ (n : ℕ). limit_clips n gu) (sym a) ∙ ap (limit_clips h) (sym b))),
      )

  -- it begins with a clip that is no yaku's
  front : (a : List ℕ) (k : ℕ) (y : List ℕ) → Each is_low a → is_high k ≡ false → (m : ℕ) × (x : List ℕ) × (a ++ (k ∷ y) ≡ m ∷ x) × (is_high m ≡ false)
  unfolding Each is_low is_high
  front [] k y s f = (k, y, refl, f)
  front (c ∷ a) k y s f = (c, a ++ (k ∷ y), refl, le-ltb 140 c (omega (arith, ltb-true c 60 s.0)))

  pub worth_front : (yakuman : Bool) (h fu : ℕ) (t : List ℕ) → h < 1000000000000
      → (m : ℕ) × (x : List ℕ) × (worth_clips l yakuman h fu ++ t ≡ m ∷ x) × (is_high m ≡ false)
  unfolding worth_clips is_high
  worth_front true h fu t g = (75, t, refl, refl)
  worth_front false h fu t g =
      let r = front (numeral l h) 69 (numeral l fu ++ (70 ∷ (limit_clips h fu ++ t))) (numeral_low l h g) refl in
      (r.0, r.1, worth_apart h fu t ∙ r.2, r.3)

-- ---- the yaku

pub yaku_same : (y z : List Bool) (v w : List ℕ) → ((m : ℕ) × (x : List ℕ) × (v ≡ m ∷ x) × (is_high m ≡ false))
    → ((m : ℕ) × (x : List ℕ) × (w ≡ m ∷ x) × (is_high m ≡ false))
    → yaku_clips y ++ v ≡ yaku_clips z ++ w → ((k : ℕ) → k < 36 → get_or y (k + 1) false ≡ get_or z (k + 1) false) × (v ≡ w)
unfolding yaku_clips
yaku_same y z v w a b e =
    let p : ℕ → Bool = λ k. get_or y (k + 1) false in
    let q : ℕ → Bool = λ k. get_or z (k + 1) false in
    let r = cut is_high (chosen 141 p 36) (chosen 141 q 36) {m = a.0} {n = b.0} {x = a.1} {y = b.1} (chosen_high 141 p 36 (omega arith))
    (chosen_high 141 q 36 (omega arith)) a.3 b.3
    (ap (λ (k : List ℕ). chosen 141 p 36 ++ k) (sym a.2) ∙ e ∙ ap (λ (k : List ℕ). chosen 141 q 36 ++ k) b.2) in
    (chosen_same 141 p q 36 r.0, a.2 ∙ r.1 ∙ sym b.2)
