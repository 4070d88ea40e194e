-- What the win of a record that scores v comes to, and that this is the ledger's.
use Rattle.std.specs.Option.{ForSome}
use Rattle.std.specs.Prelude.{◌≡◌, refl, Option, None, Some, is_some, unwrap_or, Result, Ok, Err, IfOk, Bool, true, false, not, ◌&&◌, ◌||◌, List, eqb, pos, nat_abs, ◌+ℤ◌, get_or}
use Rattle.std.proofs.Common.{sym, ◌∙◌, subst, arith, lt-ltb}
use Rattle.std.proofs.Math.Path.{ap}
use Rattle.std.proofs.Math.Bool.{cond}
use Prim.Native.Nat.{ℕ, ◌+◌, ◌*◌, ◌≤◌, ◌<◌}
use Rattle.std.proofs.Math.IntN.{ℤ}
use Rattle.refusals.specs.declared.Refusal.{Refusal}
use Rattle.refusals.specs.Refusal.{number}
use Rattle.refusals.proofs.Numbers.{number_above}
use Rattle.tiles.specs.Below.{tabulate}
use Rattle.hand.specs.declared.Fields.{Fields}
use Rattle.hand.specs.declared.Hand.{Hand}
use Rattle.hand.specs.Hand.{is_ron}
use Rattle.hand_record.specs.Record.{refusal_in, read_of}
use Rattle.score.specs.declared.Scored.{Scored}
use Rattle.score.specs.search.HandScore.{hand_score_of}
use Rattle.score.proofs.laws.Best.{answers}
use Rattle.score.proofs.laws.HandScore.{score_unreadable}
use Rattle.position.specs.declared.Position.{Position}
use Rattle.position.specs.Booking.{result, win}
use Rattle.position.specs.Ledger.{hand_for, scored_for, paid_by_others, Liable, owes, liable_in, whole_of, is_dealers_win}
use Rattle.position.specs.Ledger.{payments, holds_four_winds, win_gives, effect_of, applied}
use Rattle.position.proofs.laws.PaidByOthers.{sticks_to}
use Rattle.position.specs.search.First.{win_refusal}
use Rattle.position.proofs.laws.Form.{Open}
use Rattle.position.specs.search.Feeder.{liable_as}
use Rattle.position.proofs.laws.Owed.{IsOther, score_paid}
use Rattle.position.proofs.laws.Sums.{Gifts}
use Rattle.position_moves.proofs.laws.Steps.{finished}
use Rattle.position_payments.specs.search.Parts.{pao_pays, repeat_pays}
use Rattle.position_payments.proofs.laws.Parts.{gain_pays, in_parts}
use Rattle.position_win.specs.declared.Settled.{Settled}
pub use Rattle.position_win.specs.search.Settling.{winnings_of, mismatched, won_refusal, pao_gives, changes_of, additions_of, SettledAs, IsSettled}

-- c, or what `by` says of each seat where t: seat by seat
seat_by_seat : (by : ℕ → ℤ) (c a : List ℤ) (winner k : ℕ) (t : Bool) →
    winnings_of (cond t (tabulate 4 0 by) c) a winner k
    ≡ tabulate 4 0 (λ i. cond t (by i) (get_or c i (pos 0)) +ℤ get_or a i (pos 0) +ℤ cond (eqb i winner) (pos (1000 * k)) (pos 0))
seat_by_seat by c a winner k true = refl
seat_by_seat by c a winner k false = refl

-- who is liable for the yaku that is reported of record s
abbrev pub liable_of : Position → List ℕ → Liable
liable_of g s =
    let yaku = (scored_for g s).yaku in
    liable_in g (hand_for s).fields.winner (get_or yaku 28 false) (get_or yaku 29 false && holds_four_winds (hand_for s))

-- ---- a record that read

-- a win with the fields f that scores v, with the feeder of the yaku that is reported; the winner takes n counters and k sticks
module _ (g : Position) (f : Fields) (v : Scored) (feeder : Option ℕ) (n k : ℕ) where
  pub given : (r : Result Settled Refusal) → SettledAs g f v feeder n k r → IfOk r (λ t. Gifts t.gives)
  given (Err m) w = tt
  given (Ok t) w = w.1.2

-- a hand that read is refused with 6 or 7
pub hand_score_refusal : (h : Hand) (dealer wind : ℕ) → let n = (hand_score_of h dealer wind).refusal in (0 < n → 6 ≤ n) × (n ≤ 7)
hand_score_refusal h dealer wind =
    let P : Scored → Type 0 = λ v. (0 < v.refusal → 6 ≤ v.refusal) × (v.refusal ≤ 7) in
    answers h dealer wind (λ e. subst P (sym e) (λ l. omega arith, omega arith)) (λ e. subst P (sym e) (λ l. omega arith, omega arith))
    (λ e. subst P (sym e) (λ l. omega arith, omega arith))

-- a feeder who is liable is a seat, and another than the winner
pub other_seat : (w : ℕ) (feeder : Option ℕ) → IsOther w (liable_as feeder) → ForSome feeder (λ x. (x ≤ 3) × (w ≡ x → ⊥))
other_seat w None o x e = cc
other_seat w (Some y) o x e =
    let same : y ≡ x = cc in
    (omega (arith, o.0), λ z. o.1 (z ∙ sym same))

-- ---- a record

module _ (g : Position) (s : List ℕ) (n k : ℕ) where
  -- the code's parts are what the table says, by the feeder
  module _ (feeder : Option ℕ) (e : liable_as feeder ≡ liable_of g s) where
    abbrev f : Fields
    f = (hand_for s).fields

    abbrev v : Scored
    v = scored_for g s

    abbrev taken : ℕ → ℕ
    taken i = nat_abs (get_or v.changes i (pos 0))

    abbrev whole : ℕ
    whole = whole_of (is_dealers_win g s)

    abbrev change : ℕ → ℤ
    change i = cond (is_some feeder) (pao_gives g f feeder i) (get_or v.changes i (pos 0))

    gain_part : (i : ℕ) → change i ≡ paid_by_others f.winner (gain_pays taken f.discarder whole n feeder (is_ron f)) i
    gain_part i = go (is_some feeder)
      where
        go : (t : Bool) → cond t (pao_gives g f feeder i) (get_or v.changes i (pos 0))
            ≡ paid_by_others f.winner (λ j. cond t (pao_pays f.discarder (unwrap_or feeder 0) (is_ron f) whole j) (taken j)) i
        go true = refl
        go false = sym (score_paid s g.dealer g.wind i)

    both_parts : (i : ℕ) → let payer = cond (is_ron f) f.discarder (unwrap_or feeder 0) in
        change i +ℤ paid_by_others f.winner (repeat_pays payer (is_ron f || is_some feeder) n) i +ℤ sticks_to s k i ≡ win_gives g s n k i
    unfolding win_gives payments
    both_parts i =
        let payer : ℕ = cond (is_ron f) f.discarder (unwrap_or feeder 0) in
        let added : ℤ = paid_by_others f.winner (repeat_pays payer (is_ron f || is_some feeder) n) i in
        ap (λ (z : ℤ). z +ℤ added +ℤ sticks_to s k i) (gain_part i)
        ∙ ap (λ (z : ℤ). z +ℤ sticks_to s k i) (sym (in_parts taken f.discarder whole n f.winner feeder (is_ron f) i))
        ∙ ap (λ (who : Liable). paid_by_others f.winner (owes taken f.discarder whole n who (is_ron f)) i +ℤ sticks_to s k i) e

    winnings_are : winnings_of (changes_of g f v feeder) (additions_of f feeder n) f.winner k ≡ tabulate 4 0 (win_gives g s n k)
    winnings_are =
        seat_by_seat (pao_gives g f feeder) v.changes (additions_of f feeder n) f.winner k (is_some feeder)
        ∙ rw (both_parts 0, both_parts 1, both_parts 2, both_parts 3)

  pub settled_read : (h : Hand) (x : Scored) (feeder : Option ℕ) (r : Result Settled Refusal) → h ≡ hand_for s → x ≡ scored_for g s
      → liable_as feeder ≡ liable_of g s → SettledAs g h.fields x feeder n k r → IsSettled g s n k r
  settled_read h x feeder (Err m) p q e w = (rw (p, q) at w.0, tt)
  settled_read h x feeder (Ok t) p q e w =
      let y = rw (p, q) at w.1 in
      (rw (p, q) at w.0, (y.0, y.1 ∙ winnings_are feeder e, y.2))

  pub settled_unreadable : Open g → (r : Refusal) (m : ℕ) → number r ≡ m → refusal_in (read_of s).answer ≡ m → IsSettled g s n k (Err r)
  settled_unreadable o r m e q =
      let f = o.form in
      let l : 0 < m = omega (arith, e, number_above r) in
      let c : win_refusal g s ≡ m = rw (score_unreadable s g.dealer g.wind f.dealer f.wind m q l, lt-ltb 0 m l) in
      (e ∙ sym c, tt)

-- ---- the game after a win

pub win_applied : (g : Position) (s : List ℕ) (by : List ℤ) (w m : ℕ) → by ≡ tabulate 4 0 (win_gives g s g.counter g.sticks)
    → w ≡ (hand_for s).fields.winner
    → m ≡ cond (eqb w g.dealer) (g.counter + 1) 0 → finished g by 0 (not (eqb w g.dealer)) m ≡ applied g (effect_of g (result (win s)))
unfolding finished applied effect_of
win_applied g s by w m e p q = rw (e, q, p)
