-- What the settling of a win comes to, as the code makes it: of the fields and the score of a record that read, and of any record.
use Rattle.std.specs.Prelude.{◌≡◌, Bool, not, ◌||◌, cond, Option, is_some, unwrap_or, Result, IfOk, List, ℕ, ◌*◌, ltb, eqb, ℤ, pos, ◌+ℤ◌, get_or}
use Rattle.refusals.specs.declared.Refusal.{Refusal}
use Rattle.refusals.specs.Refusal.{refusal_in as refusal_of}
use Rattle.tiles.specs.Below.{tabulate}
use Rattle.hand.specs.declared.Fields.{Fields}
use Rattle.hand.specs.Hand.{is_ron}
use Rattle.score.specs.declared.Scored.{Scored}
use Rattle.position.specs.declared.Position.{Position}
use Rattle.position.specs.Ledger.{is_declared, hand_for, paid_by_others, whole_of, win_gives}
use Rattle.position.specs.search.Amounts.{Gifts}
use Rattle.position.specs.search.First.{win_refusal}
use Rattle.position_payments.specs.search.Parts.{pao_pays, repeat_pays}
use Rattle.position_win.specs.declared.Settled.{Settled}

-- what a win with changes c and additions a gives each seat, the winner taking k sticks
abbrev pub winnings_of : List ℤ → List ℤ → ℕ → ℕ → List ℤ
winnings_of c a winner k = tabulate 4 0 (λ i. get_or c i (pos 0) +ℤ get_or a i (pos 0) +ℤ cond (eqb i winner) (pos (1000 * k)) (pos 0))

-- 11's condition, of a win with the fields f
abbrev pub mismatched : Position → Fields → Bool
mismatched g f = cond (ltb 0 f.riichi) (not (is_declared g f.winner)) (is_declared g f.winner)

-- its refusal where it scores v
abbrev pub won_refusal : Position → Fields → Scored → ℕ
won_refusal g f v = cond (ltb 0 v.refusal) v.refusal (cond (mismatched g f) 11 0)

-- what article 67 gives, where the feeder of the yaku that is reported is liable
abbrev pub pao_gives : Position → Fields → Option ℕ → ℕ → ℤ
pao_gives g f feeder = paid_by_others f.winner (pao_pays f.discarder (unwrap_or feeder 0) (is_ron f) (whole_of (eqb f.winner g.dealer)))

-- the changes, or what article 67 gives
abbrev pub changes_of : Position → Fields → Scored → Option ℕ → List ℤ
changes_of g f v feeder = cond (is_some feeder) (tabulate 4 0 (pao_gives g f feeder)) v.changes

-- what n counters add
abbrev pub additions_of : Fields → Option ℕ → ℕ → List ℤ
additions_of f feeder n = tabulate 4 0 (paid_by_others f.winner (repeat_pays (cond (is_ron f) f.discarder (unwrap_or feeder 0)) (is_ron f || is_some feeder) n))

-- what it comes to, the winner taking n counters and k sticks
abbrev pub SettledAs : Position → Fields → Scored → Option ℕ → ℕ → ℕ → Result Settled Refusal → Type 0
SettledAs g f v feeder n k r =
    (refusal_of r ≡ won_refusal g f v)
    × IfOk r (λ t. (t.winner ≡ f.winner) × (t.gives ≡ winnings_of (changes_of g f v feeder) (additions_of f feeder n) f.winner k) × Gifts t.gives)

-- a record s, of which the winner takes n counters and k sticks
module _ (g : Position) (s : List ℕ) (n k : ℕ) where
  -- what its settling comes to
  abbrev pub IsSettled : Result Settled Refusal → Type 0
  IsSettled r =
      (refusal_of r ≡ win_refusal g s)
      × IfOk r (λ t. (t.winner ≡ (hand_for s).fields.winner) × (t.gives ≡ tabulate 4 0 (win_gives g s n k)) × Gifts t.gives)
