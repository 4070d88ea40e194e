-- A multiple ron of one record is the win of it.
use Rattle.std.specs.Prelude.{◌≡◌, refl, Bool, true, false, ◌||◌, cond, List, [], ◌∷◌, ℕ, ltb, eqb}
use Rattle.std.proofs.Math.Path.{sym}
use Rattle.std.proofs.Common.{◌∙◌, ltb-false, arith}
use Rattle.std.proofs.lemmas.Bool.{false≢true}
use Rattle.std.proofs.Math.IntN.{+ℤ_idr}
use Rattle.hand.specs.Hand.{is_ron}
use Rattle.hand_record.specs.Record.{Answer, Sound, Refused}
use Rattle.hand_record.specs.Record.{refusal_in, fields_of, read_of}
use Rattle.hand_rons.specs.Records.{hand_for, records_of, first_unreadable, conflicts, not_on_one_tile, is_winner, first_winner}
use Rattle.hand_rons.proofs.laws.OneTile.{first_wins}
use Rattle.position.specs.declared.Position.{Position}
use Rattle.position.specs.Booking.{result, win, multi_ron}
use Rattle.position.specs.Ledger.{refusal_for, refusals_of, win_gives, multi_ron_gives, effect_of, applied, after, record_refusals}
use Rattle.position.specs.search.First.{win_refusal}

either : (b : Bool) → b || false ≡ b
either true = refl
either false = refl

own : (n : ℕ) → cond (ltb 0 n) n 0 ≡ n
own n = go (ltb 0 n) refl
  where
    go : (b : Bool) → ltb 0 n ≡ b → cond b n 0 ≡ n
    go true e = refl
    go false e = omega (arith, ltb-false 0 n e)

-- a record of a ron has read
ron_reads : (a : Answer) → is_ron (fields_of a) ≡ true → refusal_in a ≡ 0
ron_reads (Sound f) e = refl
ron_reads (Refused n) e = absurd (false≢true e)

module _ (l : Position) (s : List ℕ) (r : is_ron (hand_for s).fields ≡ true) where
  reads : refusal_in (read_of s).answer ≡ 0
  reads = ron_reads (read_of s).answer r

  on_one_tile : not_on_one_tile (s ∷ []) ≡ false
  unfolding not_on_one_tile conflicts
  on_one_tile = rw r

  same_refusal : refusal_for l (result (multi_ron 1 s)) ≡ refusal_for l (result (win s))
  unfolding refusal_for refusals_of records_of first_unreadable record_refusals
  same_refusal = rw (reads, on_one_tile, own (win_refusal l s))

  -- its winner is the first
  foremost : eqb (hand_for s).fields.winner (first_winner (s ∷ [])) ≡ true
  unfolding is_winner
  foremost = sym (either (eqb (hand_for s).fields.winner (first_winner (s ∷ [])))) ∙ first_wins (s ∷ []) (omega arith) (reads, tt) on_one_tile

  given : (i : ℕ) → multi_ron_gives l (first_winner (s ∷ [])) (s ∷ []) i ≡ win_gives l s l.counter l.sticks i
  unfolding multi_ron_gives
  given i = rw foremost (+ℤ_idr (win_gives l s l.counter l.sticks i))

  same_effect : applied l (effect_of l (result (multi_ron 1 s))) ≡ applied l (effect_of l (result (win s)))
  unfolding applied effect_of records_of is_winner
  same_effect = rw (given 0, given 1, given 2, given 3, either (eqb (hand_for s).fields.winner l.dealer))

  pub one_is_win : (refusal_for l (result (multi_ron 1 s)) ≡ refusal_for l (result (win s))) × (after l (result (multi_ron 1 s)) ≡ after l (result (win s)))
  unfolding after
  one_is_win = (same_refusal, rw (same_refusal, same_effect))
