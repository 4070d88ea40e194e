-- How far an unfinished hand is from ready (02, S-14). Nothing here says how the nearest ready hand is found; `Answer` has the one number.
use Rattle.std.specs.Prelude.{◌≡◌, false, List, ℕ, ◌-◌, ◌≤◌, ◌<◌, length, replicate}
use Rattle.tiles.specs.Below.{sum_below}
use Rattle.hand.specs.declared.Held.{Held}
use Rattle.hand.specs.Held.{in_others, unused_not_zero}
use Rattle.unfinished.specs.Unfinished.{held_refusal, held_of, refusal_of}
use Rattle.waits.specs.Waits.{IsWait}
use Rattle.ready.specs.declared.Ready.{Ready}

-- "melds kept and no kind over four held": y has the melds of x and 13 − 3m concealed tiles, zeros after them, and Read's 2 to 4 let it pass
pub record SameMelds (x y : Held) : Type 0 where
  pub number : y.m ≡ x.m
  pub melds : y.melds ≡ x.melds
  pub sound : held_refusal y 0 ≡ 0
  pub long : length y.concealed ≡ 13
  pub unused : unused_not_zero y ≡ false

-- "Readiness is S-1's, a non-empty set of waits"
abbrev pub IsReady : Held → Type 0
IsReady y = (k : ℕ) × IsWait y k

-- "tiles that must be swapped for others": those of x that y lacks
unfoldable pub swaps : Held → Held → ℕ
swaps x y = sum_below 34 (λ k. in_others x k - in_others y k)

-- y is a ready hand n swaps from x: "The number is the fewest tiles that must be swapped for others", "any one such hand that many swaps away",
-- "and every other ready hand with those melds needs at least as many swaps"
pub record IsNearest (x : Held) (n : ℕ) (y : Held) : Type 0 where
  pub hand : SameMelds x y
  pub ready : IsReady y
  pub away : swaps x y ≡ n
  pub fewest : (z : Held) → SameMelds x z → IsReady z → n ≤ swaps x z

-- what the call answers of the bytes s: "The input is S-1's, with its checks 1 to 4"; refused, "all else zero" (01)
pub data IsAnswer (s : List ℕ) : Ready → Type 0 where
  unreadable : 0 < refusal_of s → IsAnswer s (record { refusal = refusal_of s; swaps = 0; hand = replicate 13 0 })
  nearest : refusal_of s ≡ 0 → (n : ℕ) (y : Held) → IsNearest (held_of s) n y → IsAnswer s (record { refusal = 0; swaps = n; hand = y.concealed })
