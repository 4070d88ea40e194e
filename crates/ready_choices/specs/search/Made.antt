-- What the functions that make a choice promise. Nobody has to believe it: what is found is stated in `ready`.
use Rattle.std.specs.Prelude.{◌≡◌, true, false, cond, Option, Some, None, ℕ, ◌+◌, ◌-◌, ◌*◌, ◌<◌, min, ltb, leb}
use Rattle.tiles.specs.Kinds.{is_run_start}
use Rattle.ready_choices.specs.declared.Begun.{Begun}
use Rattle.ready_choices.specs.declared.Move.{Move}
use Rattle.ready_choices.specs.search.Moves.{state, choices, may, taken, next, kept}

-- how many choices are tried at the kind k in the state s with g groups left: the others cannot be made
unfoldable pub tries_of : ℕ → ℕ → ℕ → ℕ
tries_of k s g = cond (ltb s 70) (cond (is_run_start k) (choices g) (min 3 (choices g))) 2

-- the choice of x runs, y triplets and z pairs in a state of the parts q
unfoldable pub takes : Begun → ℕ → ℕ → ℕ → Move
takes q x y z = record { to = state x q.last (q.groups - (x + y)) (q.pairs - z); tiles = q.last + q.earlier + x + 3 * y + 2 * z }

-- the move m is the choice e at the kind k in the state s, which can be made
pub record IsMove (k s e : ℕ) (m : Move) : Type 0 where
  pub may_be : may k s e ≡ true
  pub to : m.to ≡ next s e
  pub tiles : m.tiles ≡ taken k s e
  pub low : m.to < 80

-- the choice e at the kind k in the state s: its move, or none where it cannot be made
abbrev pub Makes : ℕ → ℕ → ℕ → Option Move → Type 0
Makes k s e None = may k s e ≡ false
Makes k s e (Some m) = IsMove k s e m

-- what the move m is worth
unfoldable pub value_of : Move → ℕ → ℕ → ℕ → ℕ
value_of m later have room = cond (leb m.tiles room) (kept later (min have m.tiles)) 0
