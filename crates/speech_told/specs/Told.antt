-- What two scores have in common, and what the name of a limit stands for (SPEECH, What is claimed: "the winner, the way of winning, the yaku, h, fu and
-- each seat's payment").
use Rattle.std.specs.Prelude.{◌≡◌, Bool, false, cond, List, [], ◌∷◌, ℕ, ◌-◌, ◌≤◌, ◌<◌, pos, eqb, length, get_or}
use Rattle.score.specs.declared.Scored.{Scored}
use Rattle.speech_told.specs.Phrases.{paid}

-- winners w and v, ways p and q, scores a and b
pub record Agree (w v : ℕ) (p q : Bool) (a b : Scored) : Type 0 where
  pub winner : w ≡ v
  pub ron : p ≡ q
  pub yaku : (n : ℕ) → 1 ≤ n → n ≤ 36 → get_or a.yaku n false ≡ get_or b.yaku n false
  pub h : a.h.0 ≡ b.h.0
  pub fu : a.fu.0 ≡ b.fu.0
  pub payments : (seat : ℕ) → seat < 4 → paid (get_or a.changes seat (pos 0)) ≡ paid (get_or b.changes seat (pos 0))

-- what the name of a limit stands for, by document 01's "h up to 5, 2,000; 6-7, 3,000; 8-10, 4,000; 11 up, 6,000": mangan, haneman, baiman, sanbaiman;
-- where none is named, the amount a
unfoldable pub named_amount : List ℕ → ℕ → ℕ
named_amount clips a = cond (eqb (length clips) 0) a (get_or (2000 ∷ 3000 ∷ 4000 ∷ 6000 ∷ []) (get_or clips 0 0 - 71) 0)
