-- What the functions of the crate promise each other. Nobody has to believe it: what is found is stated in specs/Ready.antt.
use Rattle.std.specs.Prelude.{◌≡◌, List, ℕ, ◌+◌, ◌≤◌, ◌<◌, eqb, length, get_or}
use Rattle.tiles.specs.Below.{sum_below, count_below}
use Rattle.hand.specs.declared.Held.{Held}

-- the hand of the concealed tiles c beside the melds of x
abbrev pub same_melds_with : Held → List ℕ → Held
same_melds_with x c = record { m = x.m; melds = x.melds; concealed = c }

-- how many of the first i places of r have the kind q
abbrev pub in_first : List ℕ → ℕ → ℕ → ℕ
in_first r i q = count_below i (λ p. eqb (get_or r p 0) q)

-- the tiles of the tally u below the kind k, and j of k, stand at the first i places of r in order, zeros after them
pub record Written (u : List ℕ) (k j i : ℕ) (r : List ℕ) : Type 0 where
  pub long : length r ≡ 13
  pub many : i ≡ sum_below k (λ q. get_or u q 0) + j
  pub before : (q : ℕ) → q < k → in_first r i q ≡ get_or u q 0
  pub here : in_first r i k ≡ j
  pub kinds : (p : ℕ) → p < i → get_or r p 0 < 34
  pub top : (p : ℕ) → p < i → get_or r p 0 ≤ k
  pub order : (p : ℕ) → p + 1 < i → get_or r p 0 ≤ get_or r (p + 1) 0
  pub zeros : (p : ℕ) → i ≤ p → get_or r p 0 ≡ 0
