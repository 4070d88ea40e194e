-- Which kinds can be the pair, of the suits and honours so far.
use Rattle.std.proofs.Common.{◌≡◌, Bool, true, false, List, ℕ, ◌+◌, ◌*◌, ◌/◌, ◌%◌, ◌≤◌, ◌<◌, refl, sym, ap, ◌∙◌, arith, ltb, eqb, ltb-true, ltb-false, eqb-true, length, get_or}
use Rattle.std.proofs.lemmas.Bool.{eqb-false}
use Rattle.tiles.specs.Below.{sum}
use Rattle.reading.specs.search.Pairs.{PairBeside, Among, OnlyPairs, weighed}
use Rattle.reading.proofs.laws.Groups.{at_same, get_d_pos}
use Rattle.reading.proofs.laws.Pairs.{suit_of_pair, suit_beside, weight_of_pair, honour_of_pair, honour_beside}
use Rattle.reading_steps.specs.declared.Pairs.{Pairs}

-- of the kinds below x only those of p can be the pair, and where p has some it is below x
abbrev pub Upto : List ℕ → ℕ → Pairs → Type 0
Upto t x p = (k : ℕ) (gs : List ℕ) → PairBeside t k gs → (k < x → Among p.first p.last k) × ((p.first ≡ 34 → ⊥) → k < x)

-- the kinds from x to y are a suit or an honour with so many tiles over threes
module _ (t : List ℕ) (x y over : ℕ) (p q r : Pairs) (h : x ≤ y)
    (inside : (k : ℕ) (gs : List ℕ) → PairBeside t k gs → x ≤ k → k < y → (over ≡ 2) × Among q.first q.last k)
    (beside : (k : ℕ) (gs : List ℕ) → PairBeside t k gs → (x ≤ k → k < y → ⊥) → over ≡ 0)
    (none : over ≡ 0 → r ≡ p) (some : over ≡ 2 → p.first ≡ 34 → r ≡ q) where
  pub upto_more : Upto t x p → Upto t y r
  upto_more u k gs b = go (ltb k x) (ltb k y) refl refl
    where
      first : x ≤ k → (e : Bool) → eqb p.first 34 ≡ e → p.first ≡ 34
      first l true e = eqb-true p.first 34 e
      first l false e = absurd (omega (arith, (u k gs b).1 (eqb-false p.first 34 e)))

      go : (e f : Bool) → ltb k x ≡ e → ltb k y ≡ f → (k < y → Among r.first r.last k) × ((r.first ≡ 34 → ⊥) → k < y)
      go true f i j =
          let l = ltb-true k x i in
          rw (none (beside k gs b (λ m n. omega arith))) (λ m. (u k gs b).0 l, λ d. omega arith)
      go false true i j =
          let l = ltb-false k x i in
          let m = ltb-true k y j in
          let z = inside k gs b l m in
          rw (some z.0 (first l (eqb p.first 34) refl)) (λ n. z.1, λ d. m)
      go false false i j =
          let m = ltb-false k y j in
          rw (none (beside k gs b (λ n o. omega arith))) (λ n. absurd (omega arith), λ d. absurd (omega (arith, (u k gs b).1 d)))

module _ (t : List ℕ) (p r : Pairs) where
  pub upto_suit : (s n w : ℕ) → n ≡ sum 9 (λ i. get_or t (9 * s + i) 0) → w ≡ weighed (λ i. get_or t (9 * s + i) 0) →
      (n % 3 ≡ 0 → r ≡ p) → (n % 3 ≡ 2 → p.first ≡ 34 → r ≡ record { first = 9 * s + w % 3; last = 9 * s + w % 3 + 6 }) →
      Upto t (9 * s) p → Upto t (9 * (s + 1)) r
  upto_suit s n w en ew a b =
      upto_more t (9 * s) (9 * (s + 1)) (n % 3) p (record { first = 9 * s + w % 3; last = 9 * s + w % 3 + 6 }) r (omega arith)
      (λ k gs z l m.
      let q : k / 9 ≡ s = omega arith in
      let v : w % 3 ≡ k % 3 = ap (λ (x : ℕ). x % 3) ew ∙ weight_of_pair z s q in
      (ap (λ (x : ℕ). x % 3) en ∙ suit_of_pair z s q, (omega arith, omega arith, omega arith)))
      (λ k gs z d. ap (λ (x : ℕ). x % 3) en ∙ suit_beside z s (λ q. d (omega arith) (omega arith))) a b

  pub upto_honour : (j n : ℕ) → 27 ≤ j → n ≡ get_or t j 0 → (n % 3 ≡ 0 → r ≡ p) → (n % 3 ≡ 2 → p.first ≡ 34 → r ≡ record { first = j; last = j }) →
      Upto t j p → Upto t (j + 1) r
  upto_honour j n h e a b =
      upto_more t j (j + 1) (n % 3) p (record { first = j; last = j }) r (omega arith)
      (λ k gs z l m.
      let q : k ≡ j = omega arith in
      (ap (λ (x : ℕ). x % 3) e ∙ ap (λ (x : ℕ). get_or t x 0 % 3) (sym q) ∙ honour_of_pair z (omega arith), (omega arith, omega arith, ap (λ (x : ℕ). x % 3) q)))
      (λ k gs z d. ap (λ (x : ℕ). x % 3) e ∙ honour_beside z j h (λ q. d (omega arith) (omega arith))) a b

pub upto_all : (t : List ℕ) (p : Pairs) → length t ≡ 34 → Upto t 34 p → OnlyPairs t p.first p.last
upto_all t p l u k gs z = (u k gs z).0 (rw l at (get_d_pos t k (omega (arith, z.tiles k, at_same k 2))))
