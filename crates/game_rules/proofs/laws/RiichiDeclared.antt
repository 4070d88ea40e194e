-- An accepted win's riichi field and its winner's declaration.
use Rattle.std.specs.Prelude.{◌≡◌, Bool, true, false, not, cond, ℕ, ◌≤◌, ltb}
use Rattle.std.proofs.Common.{sym, ◌∙◌, arith}
use mathlib.Core.List.{List, [], ◌∷◌}
use Rattle.std.proofs.lemmas.Bool.{not-false}
use Rattle.reading.specs.All.{Each, none, also}
use Rattle.hand_record.proofs.laws.Bounds.{read_bounds}
use Rattle.hand_rons.specs.Records.{records_of}
use Rattle.hand_rons.proofs.laws.OneTile.{AllRead, own_zero, winner_of}
use Rattle.position.specs.declared.Position.{Position}
use Rattle.position.specs.Booking.{Booking, result, riichi, win, draw, chombo, pao, multi_ron}
use Rattle.position.specs.Ledger.{hand_for, is_declared, scored_for, riichi_mismatch, refusal_for, record_refusals}
use Rattle.position.specs.search.First.{win_refusal, first_refused}
use Rattle.position.proofs.laws.Accepted.{cond_zero, win_accepted}
use Rattle.position.proofs.laws.MultiRon.{multi_ron_accepted}
use Rattle.game_rules.specs.History.{History, RiichiAgrees, RiichiDeclared}

-- no mismatch is agreement
agrees : (marked declared : Bool) → cond marked (not declared) declared ≡ false → marked ≡ declared
agrees true declared e = sym (not-false declared e)
agrees false declared e = sym e

no_mismatch : (marked declared : Bool) → marked ≡ declared → cond marked (not declared) declared ≡ false
no_mismatch true declared e = rw (← e)
no_mismatch false declared e = sym e

module _ (past : List Booking) (l : Position) (h : History past l) where
  pub agrees_record : (s : List ℕ) → winner_of s ≤ 3 → RiichiAgrees past s → riichi_mismatch l (hand_for s) ≡ false
  agrees_record s m e =
      no_mismatch (ltb 0 (hand_for s).fields.riichi) (is_declared l (winner_of s)) (e ∙ sym (h.declared (winner_of s) (omega arith)))

  pub record_agrees : (s : List ℕ) → winner_of s ≤ 3 → riichi_mismatch l (hand_for s) ≡ false → RiichiAgrees past s
  record_agrees s m e =
      agrees (ltb 0 (hand_for s).fields.riichi) (is_declared l (winner_of s)) e ∙ h.declared (winner_of s) (omega arith)

  each_agrees : (ss : List (List ℕ)) → AllRead ss → first_refused l ss ≡ 0 → Each (RiichiAgrees past) ss
  unfolding record_refusals
  each_agrees [] r e = none
  each_agrees (s ∷ ss) r e =
      let p = own_zero (win_refusal l s) (first_refused l ss) e in
      let q = own_zero (scored_for l s).refusal (cond (riichi_mismatch l (hand_for s)) 11 0) p.0 in
      also (record_agrees s (read_bounds s r.0).winner (cond_zero (riichi_mismatch l (hand_for s)) 10 0 q.1).0) (each_agrees ss r.1 p.1)

  pub accepted_agrees : (b : Booking) → refusal_for l b ≡ 0 → RiichiDeclared b past
  accepted_agrees (riichi seat) e = none
  accepted_agrees (pao holder feeder yaku) e = none
  accepted_agrees (result (draw bits)) e = none
  accepted_agrees (result (chombo seat)) e = none
  accepted_agrees (result (win s)) e =
      let a = win_accepted l s e in
      also (record_agrees s (read_bounds s a.1).winner a.3) none
  accepted_agrees (result (multi_ron number s)) e =
      let a = multi_ron_accepted l number s e in
      each_agrees (records_of number s) a.read a.scored
