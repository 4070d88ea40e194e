-- What a renaming of suits does to a kind: it can be undone, and what a test asks of a number or of an honour stays.
use Rattle.std.specs.Prelude.{ℕ, zero, suc, ◌+◌, ◌-◌, ◌*◌, ◌/◌, ◌%◌, ◌≤◌, ◌<◌, ◌≡◌, refl, Bool, [], ◌∷◌, ltb, leb, eqb, get_or}
use Rattle.std.proofs.Common.{sym, ap, ◌∙◌, arith}
use Rattle.std.proofs.Math.Bool.{true, false, cond}
use borrow.Author.Tests.{ltb-true, ltb-false, lt-ltb, le-ltb, lt-leb, le-leb, eqb-true, eqb-false}
use Rattle.tiles.specs.Kinds.{is_number, in_suit, is_honour, is_wind, is_dragon, is_terminal, is_yaochu, is_simple, is_run_start, dora_of}
use Rattle.tiles.proofs.laws.Below.{same_test}
use Rattle.symmetry.specs.Renamed.{IsRenaming, renamed}

-- ---- renamed and renamed back

-- a number below three
pub one_of_three : (P : ℕ → Type 0) → P 0 → P 1 → P 2 → (s : ℕ) → s < 3 → P s
one_of_three P a b c zero h = a
one_of_three P a b c (suc zero) h = b
one_of_three P a b c (suc (suc zero)) h = c
one_of_three P a b c (suc (suc (suc s))) h = absurd (omega arith)

-- a renaming with the one that undoes it
pub record Renaming : Type 0 where
  pub to : ℕ → ℕ
  pub from : ℕ → ℕ
  pub to_lt : (s : ℕ) → s < 3 → to s < 3
  pub from_lt : (s : ℕ) → s < 3 → from s < 3
  pub from_to : (s : ℕ) → s < 3 → from (to s) ≡ s
  pub to_from : (s : ℕ) → s < 3 → to (from s) ≡ s

abbrev pub back : Renaming → Renaming
back u = record { to = u.from; from = u.to; to_lt = u.from_lt; from_lt = u.to_lt; from_to = u.to_from; to_from = u.from_to }

module _ (σ : ℕ → ℕ) (y : IsRenaming σ) where
  -- the suit that becomes s
  abbrev pub undone : ℕ → ℕ
  undone s = cond (eqb (σ 0) s) 0 (cond (eqb (σ 1) s) 1 2)

  third : (a b c s : ℕ) → a < 3 → b < 3 → c < 3 → s < 3 → (a ≡ b → ⊥) → (a ≡ c → ⊥) → (b ≡ c → ⊥) → (a ≡ s → ⊥) → (b ≡ s → ⊥) → c ≡ s
  third a b c s ha hb hc hs p q r u v = omega arith

  low : (s : ℕ) → s ≤ 2 → σ s < 3
  low s h = y.suit s (omega arith)

  differ : (s t : ℕ) → s < t → t ≤ 2 → σ s ≡ σ t → ⊥
  differ s t h g e = omega (arith, y.apart s t (omega arith) (omega arith) e)

  pub undone_is : (s : ℕ) → s < 3 → (undone s < 3) × (σ (undone s) ≡ s)
  undone_is s h = go (eqb (σ 0) s) (eqb (σ 1) s) refl refl
    where
      go : (a b : Bool) → eqb (σ 0) s ≡ a → eqb (σ 1) s ≡ b → (cond a 0 (cond b 1 2) < 3) × (σ (cond a 0 (cond b 1 2)) ≡ s)
      go true b p q = (omega arith, eqb-true (σ 0) s p)
      go false true p q = (omega arith, eqb-true (σ 1) s q)
      go false false p q = (
        omega arith,
        third (σ 0) (σ 1) (σ 2) s (low 0 (omega arith)) (low 1 (omega arith)) (low 2 (omega arith)) h
            (differ 0 1 (omega arith) (omega arith)) (differ 0 2 (omega arith) (omega arith)) (differ 1 2 (omega arith) (omega arith))
            (eqb-false (σ 0) s p) (eqb-false (σ 1) s q),
      )

  abbrev pub renaming : Renaming
  renaming = record {
    to = σ;
    from = undone;
    to_lt = y.suit;
    from_lt = λ s h. (undone_is s h).0;
    from_to = λ s h. let e = undone_is (σ s) (y.suit s h) in y.apart (undone (σ s)) s e.0 h e.1;
    to_from = λ s h. (undone_is s h).1;
  }

-- three numbers below 3, no two the same
pub renaming_of : (a b c : ℕ) → a < 3 → b < 3 → c < 3 → (a ≡ b → ⊥) → (a ≡ c → ⊥) → (b ≡ c → ⊥) → IsRenaming (λ s. get_or (a ∷ b ∷ c ∷ []) s 0)
renaming_of a b c ha hb hc p q r = record { suit = one_of_three (λ s. get_or (a ∷ b ∷ c ∷ []) s 0 < 3) ha hb hc; apart = λ s t h g. among s h t g }
  where
    among : (s : ℕ) → s < 3 → (t : ℕ) → t < 3 → get_or (a ∷ b ∷ c ∷ []) s 0 ≡ get_or (a ∷ b ∷ c ∷ []) t 0 → s ≡ t
    among =
        one_of_three (λ s. (t : ℕ) → t < 3 → get_or (a ∷ b ∷ c ∷ []) s 0 ≡ get_or (a ∷ b ∷ c ∷ []) t 0 → s ≡ t)
        (one_of_three (λ t. a ≡ get_or (a ∷ b ∷ c ∷ []) t 0 → 0 ≡ t) (λ e. refl) (λ e. absurd (p e)) (λ e. absurd (q e)))
        (one_of_three (λ t. b ≡ get_or (a ∷ b ∷ c ∷ []) t 0 → 1 ≡ t) (λ e. absurd (p (sym e))) (λ e. refl) (λ e. absurd (r e)))
        (one_of_three (λ t. c ≡ get_or (a ∷ b ∷ c ∷ []) t 0 → 2 ≡ t) (λ e. absurd (q (sym e))) (λ e. absurd (r (sym e))) (λ e. refl))

-- ---- kinds

-- a number or no number
pub number_or : {P : Type 0} (k : ℕ) → (k < 27 → P) → (27 ≤ k → P) → P
number_or {P} k f g = go (ltb k 27) refl
  where
    go : (b : Bool) → ltb k 27 ≡ b → P
    go true e = f (ltb-true k 27 e)
    go false e = g (ltb-false k 27 e)

renamed_number : (σ : ℕ → ℕ) (k : ℕ) → k < 27 → renamed σ k ≡ 9 * σ (k / 9) + k % 9
unfolding renamed
renamed_number σ k h = rw (lt-ltb k 27 h)

pub renamed_other : (σ : ℕ → ℕ) (k : ℕ) → 27 ≤ k → renamed σ k ≡ k
unfolding renamed
renamed_other σ k h = rw (le-ltb k 27 h)

module _ (u : Renaming) where
  abbrev f : ℕ → ℕ
  f = renamed u.to

  pub number_stays : (k : ℕ) → k < 27 → (f k < 27) × (f k % 9 ≡ k % 9) × (f k / 9 ≡ u.to (k / 9))
  number_stays k h =
      let l = u.to_lt (k / 9) (omega arith) in
      let e = renamed_number u.to k h in
      (omega arith, omega arith, omega arith)

  -- the number i of the suit s
  pub at_suit : (s i : ℕ) → s < 3 → i < 9 → f (9 * s + i) ≡ 9 * u.to s + i
  at_suit s i h g =
      let q : (9 * s + i) / 9 ≡ s = omega arith in
      let r : (9 * s + i) % 9 ≡ i = omega arith in
      renamed_number u.to (9 * s + i) (omega arith) ∙ rw (q, r)

  pub there_back : (k : ℕ) → renamed u.from (f k) ≡ k
  there_back k =
      number_or k
      (λ h. let n = number_stays k h in renamed_number u.from (f k) n.0 ∙ rw (n.1, n.2, u.from_to (k / 9) (omega arith)) (omega arith))
      (λ h. ap (renamed u.from) (renamed_other u.to k h) ∙ renamed_other u.from k h)

  pub test_stays : (a b : ℕ) → eqb (f a) (f b) ≡ eqb a b
  test_stays a b = same_test (f a) (f b) a b (λ e. sym (there_back a) ∙ ap (renamed u.from) e ∙ there_back b) (λ e. ap f e)

  -- against what is no number
  pub test_other : (a b : ℕ) → 27 ≤ b → eqb (f a) b ≡ eqb a b
  test_other a b h = ap (eqb (f a)) (sym (renamed_other u.to b h)) ∙ test_stays a b

  pub next_stays : (k i : ℕ) → k < 27 → k % 9 + i ≤ 8 → f (k + i) ≡ f k + i
  next_stays k i h g =
      let q : (k + i) / 9 ≡ k / 9 = omega arith in
      let r : (k + i) % 9 ≡ k % 9 + i = omega arith in
      let e = renamed_number u.to k h in
      renamed_number u.to (k + i) (omega arith) ∙ rw (q, r) (omega arith)

  pub lt_stays : (n k : ℕ) → 27 ≤ n → k < n → f k < n
  lt_stays n k h g = number_or k (λ l. omega (arith, (number_stays k l).0)) (λ l. omega (arith, renamed_other u.to k l))

  -- within a suit, and among honours, the order stays
  pub kind_order : (k l : ℕ) → k / 9 ≡ l / 9 → k < l → f k < f l
  kind_order k l e h =
      number_or k
      (λ a.
      let n = number_stays k a in
      let m = number_stays l (omega arith) in
      let z : u.to (k / 9) ≡ u.to (l / 9) = ap u.to e in
      omega arith)
      (λ a. omega (arith, renamed_other u.to k a, renamed_other u.to l (omega arith)))

  -- a test that asks a number only for its number
  stays : (p : ℕ → Bool) → ((a b : ℕ) → a < 27 → b < 27 → a % 9 ≡ b % 9 → p a ≡ p b) → (k : ℕ) → p (f k) ≡ p k
  stays p h k = number_or k (λ l. let n = number_stays k l in h (f k) k n.0 l n.1) (λ l. ap p (renamed_other u.to k l))

  pub is_number_stays : (k : ℕ) → is_number (f k) ≡ is_number k
  is_number_stays = stays is_number (λ a b g h e. rw (lt-ltb a 27 g, lt-ltb b 27 h))

  pub is_honour_stays : (k : ℕ) → is_honour (f k) ≡ is_honour k
  is_honour_stays = stays is_honour (λ a b g h e. rw (lt-leb 27 a g, lt-leb 27 b h))

  pub is_wind_stays : (k : ℕ) → is_wind (f k) ≡ is_wind k
  is_wind_stays = stays is_wind (λ a b g h e. rw (lt-leb 27 a g, lt-leb 27 b h))

  pub is_dragon_stays : (k : ℕ) → is_dragon (f k) ≡ is_dragon k
  is_dragon_stays = stays is_dragon (λ a b g h e. rw (lt-leb 31 a (omega arith), lt-leb 31 b (omega arith)))

  pub is_terminal_stays : (k : ℕ) → is_terminal (f k) ≡ is_terminal k
  is_terminal_stays = stays is_terminal (λ a b g h e. rw (lt-ltb a 27 g, lt-ltb b 27 h, e))

  pub is_yaochu_stays : (k : ℕ) → is_yaochu (f k) ≡ is_yaochu k
  is_yaochu_stays k = rw (is_terminal_stays k, is_honour_stays k)

  over_stays : (k : ℕ) → leb (f k) 33 ≡ leb k 33
  over_stays = stays (λ k. leb k 33) (λ a b g h e. rw (le-leb a 33 (omega arith), le-leb b 33 (omega arith)))

  pub is_simple_stays : (k : ℕ) → is_simple (f k) ≡ is_simple k
  is_simple_stays k = rw (is_terminal_stays k, is_honour_stays k, over_stays k)

  pub is_run_start_stays : (k : ℕ) → is_run_start (f k) ≡ is_run_start k
  is_run_start_stays = stays is_run_start (λ a b g h e. rw (lt-ltb a 27 g, lt-ltb b 27 h, e))

  pub in_suit_stays : (s k : ℕ) → s < 3 → in_suit (u.to s) (f k) ≡ in_suit s k
  in_suit_stays s k h =
      number_or k
      (λ l.
      let n = number_stays k l in
      rw (lt-ltb (f k) 27 n.0, lt-ltb k 27 l, n.2)
      (same_test (u.to (k / 9)) (u.to s) (k / 9) s (λ e. sym (u.from_to (k / 9) (omega arith)) ∙ ap u.from e ∙ u.from_to s h) (λ e. ap u.to e)))
      (λ l. rw (renamed_other u.to k l, le-ltb k 27 l))

  -- "9 to 1": the dora of a renamed indicator is the dora renamed
  pub dora_stays : (k : ℕ) → k < 34 → dora_of (f k) ≡ f (dora_of k)
  unfolding dora_of
  dora_stays k h =
      number_or k
      (λ l.
      let n = number_stays k l in
      rw (lt-ltb (f k) 27 n.0, lt-ltb k 27 l, n.1, n.2) (sym (at_suit (k / 9) ((k % 9 + 1) % 9) (omega arith) (omega arith))))
      (λ l. rw (renamed_other u.to k l, le-ltb k 27 l, lt-ltb k 34 h) (sym (go (ltb k 31))))
    where
      go : (a : Bool) → f (cond a (27 + (k - 27 + 1) % 4) (31 + (k - 31 + 1) % 3)) ≡ cond a (27 + (k - 27 + 1) % 4) (31 + (k - 31 + 1) % 3)
      go true = renamed_other u.to (27 + (k - 27 + 1) % 4) (omega arith)
      go false = renamed_other u.to (31 + (k - 31 + 1) % 3) (omega arith)

pub dora_lt : (k : ℕ) → dora_of k < 34
unfolding dora_of
dora_lt k = go (ltb k 27) (ltb k 31) (ltb k 34) refl
  where
    go : (a b c : Bool) → ltb k 27 ≡ a → cond a (9 * (k / 9) + (k % 9 + 1) % 9) (cond b (27 + (k - 27 + 1) % 4) (cond c (31 + (k - 31 + 1) % 3) 0)) < 34
    go true b c p = omega (arith, ltb-true k 27 p)
    go false true c p = omega arith
    go false false true p = omega arith
    go false false false p = omega arith
