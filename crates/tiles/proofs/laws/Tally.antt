-- What a tally holds at a kind, and that it is known by that.
use Rattle.std.specs.Prelude.{◌≡◌, refl, Bool, true, false, cond, List, [], ◌∷◌, ℕ, ◌+◌, ◌≤◌, ◌<◌, eqb, ltb, get_or, set, length}
use Rattle.std.proofs.Common.{sym, ◌∙◌, add-zero, arith, get_or-set_same, get_or-set_other, ext_get_or, eqb-true, ltb-true, ltb-false}
use Rattle.std.proofs.Math.ListN.{get_or-eq_default}
use Rattle.std.proofs.lemmas.Bool.{eqb-false}
use Rattle.tiles.specs.Groups.{at_kind}
use Rattle.tiles.specs.Tally.{tally_of, more}
use Rattle.tiles.proofs.laws.Tabulate.{length_tabulate, get_d_tabulate}

-- how many of the tiles of a list are of kind k
unfoldable pub of_kind : List ℕ → ℕ → ℕ
of_kind [] k = 0
of_kind (x ∷ l) k = at_kind x 1 k + of_kind l k

pub length_tally : (f : ℕ → ℕ) → length (tally_of f) ≡ 34
unfolding tally_of
length_tally f = length_tabulate 34 0 f

pub get_d_tally : (f : ℕ → ℕ) (k : ℕ) → k < 34 → get_or (tally_of f) k 0 ≡ f k
unfolding tally_of
get_d_tally f k h = get_d_tabulate 0 34 f k h

-- a list of 34 numbers is the tally of what it holds
pub tally_ext : (t : List ℕ) (f : ℕ → ℕ) → length t ≡ 34 → ((k : ℕ) → k < 34 → get_or t k 0 ≡ f k) → t ≡ tally_of f
tally_ext t f l h = ext_get_or 0 t (tally_of f) (l ∙ sym (length_tally f)) (λ k g. h k (omega arith) ∙ sym (get_d_tally f k (omega arith)))

-- n more of kind a
pub get_d_more : (t : List ℕ) (a n k : ℕ) → k < length t → get_or (more t a n) k 0 ≡ get_or t k 0 + at_kind a n k
unfolding more at_kind
get_d_more t a n k h = go (eqb a k) refl
  where
    go : (b : Bool) → eqb a k ≡ b → get_or (set t a (get_or t a 0 + n)) k 0 ≡ get_or t k 0 + cond b n 0
    go true e =
        let q : a ≡ k = eqb-true a k e in
        rw q (get_or-set_same t k _ 0 h)
    go false e = rw add-zero (get_or-set_other t a k _ 0 (λ q. eqb-false a k e (sym q)))

pub at_le : (a n k : ℕ) → at_kind a n k ≤ n
unfolding at_kind
at_le a n k = go (eqb a k)
  where
    go : (b : Bool) → cond b n 0 ≤ n
    go true = omega arith
    go false = omega arith

module _ (t : List ℕ) (l : length t ≡ 34) where
  -- a bound at each kind is one everywhere
  pub tally_bound : (b : ℕ) → ((k : ℕ) → k < 34 → get_or t k 0 ≤ b) → (k : ℕ) → get_or t k 0 ≤ b
  tally_bound b h k = go (ltb k 34) refl
    where
      go : (x : Bool) → ltb k 34 ≡ x → get_or t k 0 ≤ b
      go true e = h k (ltb-true k 34 e)
      go false e = rw (get_or-eq_default t 0 {n = k} (omega (arith, ltb-false k 34 e))) (omega arith)

  -- n more of kind a, over a tally that is known kind by kind
  pub more_adds : (u : List ℕ) (f : ℕ → ℕ) (a n : ℕ) → u ≡ more t a n → ((k : ℕ) → k < 34 → get_or t k 0 ≡ f k) → (k : ℕ) → k < 34
      → get_or u k 0 ≡ f k + at_kind a n k
  more_adds u f a n e h k g = rw (e, get_d_more t a n k (omega arith), h k g)
