-- A test whether a tally splits: the lowest tile is in a part, and what is left splits in turn. The code tries fewer parts (laws/Groups). Nobody has
-- to believe it: that the test holds exactly where the tally splits is the contract of `splits`.
use Rattle.std.specs.Prelude.{Bool, true, false, ◌&&◌, ◌||◌, not, cond, List, ℕ, zero, suc, ◌+◌, ltb, leb, eqb, get_or}
use Rattle.reading.specs.search.Readings.{is_empty, less, fits, without}

-- both tests; the second is a function so that antt computes it only where the first holds
abbrev pub also : Bool → (Unit {0} → Bool) → Bool
also true f = f tt
also false f = false

-- the lowest of the j kinds from k on that t has, or the kind after them
unfoldable pub lowest : ℕ → ℕ → List ℕ → ℕ
lowest zero k t = k
lowest (suc j) k t = cond (eqb (get_or t k 0) 0) (lowest j (k + 1) t) k

-- a part that has the kind k as its lowest, and the rest of t: a pair where one is to come, a triplet, a run
unfoldable pub piece_at : (Bool → List ℕ → Bool) → Bool → ℕ → List ℕ → Bool
piece_at rest pair k t =
    also (pair && leb 2 (get_or t k 0)) (λ _. rest false (less t k 2))
    || also (fits t (34 + k)) (λ _. rest pair (without t (34 + k)))
    || also (fits t k) (λ _. rest pair (without t k))

-- t is so many parts: groups, and a pair where one is to come
unfoldable pub splits_into : ℕ → Bool → List ℕ → Bool
splits_into zero pair t = not pair && is_empty t
splits_into (suc n) pair t = let k = lowest 34 0 t in also (ltb k 34) (λ _. piece_at (splits_into n) pair k t)
