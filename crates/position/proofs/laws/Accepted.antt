-- What a booking that no refusal meets has.
use Rattle.std.specs.Prelude.{◌≡◌, Bool, true, false, ◌||◌, List}
use Rattle.std.proofs.Math.Path.{refl}
use Rattle.std.proofs.Common.{sym, ap, ◌∙◌, arith}
use Rattle.std.proofs.Math.Bool.{cond}
use Prim.Native.Nat.{ℕ, zero, suc, ◌≤◌}
use borrow.Author.Tests.{ltb-false}
use Rattle.std.proofs.Math.Dec.{ltb}
use Rattle.tiles.proofs.laws.Below.{or_both}
use Rattle.hand_record.specs.Record.{refusal_in, read_of}
use Rattle.hand_rons.proofs.laws.OneTile.{own_zero}
use Rattle.score.specs.declared.Scored.{Scored}
use Rattle.score.proofs.laws.HandScore.{score_unreadable}
use Rattle.position.specs.declared.Position.{Position}
use Rattle.position.specs.Booking.{result, riichi, win, draw, chombo, pao}
use Rattle.position.specs.Ledger.{is_declared, not_open, hand_for, scored_for, riichi_mismatch, lacks_stick, wrong_pao, refusal_for, refusals_of}
use Rattle.position.proofs.laws.Form.{open_of}

pub cond_zero : (b : Bool) (n m : ℕ) → cond b (suc n) m ≡ 0 → (b ≡ false) × (m ≡ 0)
cond_zero true n m e = absurd (omega arith)
cond_zero false n m e = (refl, e)

module _ (g : Position) where
  pub riichi_accepted : (seat : ℕ) → refusal_for g (riichi seat) ≡ 0
      → (seat ≤ 3) × (not_open g ≡ false) × (is_declared g seat ≡ false) × (lacks_stick g seat ≡ false)
  unfolding refusal_for refusals_of
  riichi_accepted seat e =
      let c : ℕ = cond (is_declared g seat) 10 (cond (lacks_stick g seat) 21 0) in
      let p = cond_zero (ltb 3 seat) 7 (cond (not_open g) 9 c) e in
      let q = cond_zero (not_open g) 8 c p.1 in
      let r = cond_zero (is_declared g seat) 9 (cond (lacks_stick g seat) 21 0) q.1 in
      (ltb-false 3 seat p.0, q.0, r.0, (cond_zero (lacks_stick g seat) 20 0 r.1).0)

  pub chombo_accepted : (seat : ℕ) → refusal_for g (result (chombo seat)) ≡ 0 → (seat ≤ 3) × (not_open g ≡ false)
  unfolding refusal_for refusals_of
  chombo_accepted seat e =
      let p = cond_zero (ltb 3 seat) 7 (cond (not_open g) 9 0) e in
      (ltb-false 3 seat p.0, (cond_zero (not_open g) 8 0 p.1).0)

  pub draw_accepted : (bits : ℕ) → refusal_for g (result (draw bits)) ≡ 0 → not_open g ≡ false
  unfolding refusal_for refusals_of
  draw_accepted bits e = (cond_zero (not_open g) 8 0 (cond_zero (ltb 15 bits) 7 (cond (not_open g) 9 0) e).1).0

  pub pao_accepted : (holder feeder yaku : ℕ) → refusal_for g (pao holder feeder yaku) ≡ 0
      → (holder ≤ 3) × (feeder ≤ 3) × (not_open g ≡ false) × (wrong_pao g holder feeder yaku ≡ false)
  unfolding refusal_for refusals_of
  pao_accepted holder feeder yaku e =
      let p = cond_zero (ltb 3 holder || ltb 3 feeder) 7 (cond (not_open g) 9 (cond (wrong_pao g holder feeder yaku) 18 0)) e in
      let q = cond_zero (not_open g) 8 (cond (wrong_pao g holder feeder yaku) 18 0) p.1 in
      let o = or_both (ltb 3 holder) (ltb 3 feeder) p.0 in
      (ltb-false 3 holder o.0, ltb-false 3 feeder o.1, q.0, (cond_zero (wrong_pao g holder feeder yaku) 17 0 q.1).0)

  -- in an open game a record that scores has read
  read_of_lem : (s : List ℕ) → not_open g ≡ false → (scored_for g s).refusal ≡ 0 → (n : ℕ) → refusal_in (read_of s).answer ≡ n → n ≡ 0
  read_of_lem s o e zero q = refl
  read_of_lem s o e (suc n) q =
      let f = (open_of g o).form in
      let z : suc n ≡ 0 = ap (λ (x : Scored). x.refusal) (sym (score_unreadable s g.dealer g.wind f.dealer f.wind (suc n) q (omega arith))) ∙ e in
      absurd (omega arith)

  pub win_accepted : (s : List ℕ) → refusal_for g (result (win s)) ≡ 0
      → (not_open g ≡ false) × (refusal_in (read_of s).answer ≡ 0) × ((scored_for g s).refusal ≡ 0) × (riichi_mismatch g (hand_for s) ≡ false)
  unfolding refusal_for refusals_of
  win_accepted s e =
      let m : ℕ = cond (riichi_mismatch g (hand_for s)) 11 0 in
      let v : ℕ = (scored_for g s).refusal in
      let p = cond_zero (not_open g) 8 (cond (ltb 0 v) v m) e in
      let q = own_zero v m p.1 in
      (p.0, read_of_lem s p.0 q.0 _ refl, q.0, (cond_zero (riichi_mismatch g (hand_for s)) 10 0 q.1).0)
