use Rattle.std.specs.Prelude.{Option}
use Rattle.std.proofs.Common.{◌≡◌, false, ◌&&◌, List, ℕ, get_or, sym, ap, ◌∙◌, subst, arith}
use Rattle.hand.specs.declared.Hand.{Hand}
use Rattle.hand_record.specs.Record.{refusal_in, read_of}
use Rattle.score.specs.declared.Scored.{Scored}
use Rattle.score.specs.search.HandScore.{hand_score_of}
use Rattle.score.proofs.laws.Changes.{changes_within}
use Rattle.score.proofs.laws.HandScore.{score_read}
use Rattle.position.specs.declared.Position.{Position}
use Rattle.position.specs.Ledger.{hand_for, scored_for, liable_in, holds_four_winds}
use Rattle.position.specs.search.Feeder.{liable_as}
use Rattle.position.specs.search.Form.{Open}
use Rattle.position.proofs.laws.Owed.{IsOther}
use Rattle.position.proofs.laws.Pao.{feeder_seat}
use Rattle.position_win.proofs.laws.Settling.{liable_of, given, hand_score_refusal, other_seat, settled_read}
use Rattle.position_win.proofs.settle_hand.Goals as goal

-- of a position, a hand, what Score gives of it, and a record that reads as the hand
module _ (p : Position) (o : Open p) (h : Hand) (v : Scored) (scored : v ≡ hand_score_of h p.dealer p.wind)
    (s : List ℕ) (z : refusal_in (read_of s).answer ≡ 0) (e : h ≡ hand_for s) where
  -- what is settled is what Score gives of the record
  scores : v ≡ scored_for p s
  scores =
      scored ∙ ap (λ (x : Hand). hand_score_of x p.dealer p.wind) e
      ∙ sym (score_read s p.dealer p.wind o.form.dealer o.form.wind z)

  -- who is liable is whom the ledger finds
  liable : (feeder : Option ℕ) → liable_as feeder ≡ liable_in p h.fields.winner (get_or v.yaku 28 false) (get_or v.yaku 29 false && holds_four_winds h)
      → liable_as feeder ≡ liable_of p s
  liable feeder found =
      found
      ∙ ap (λ (x : Hand). liable_in p x.fields.winner (get_or v.yaku 28 false) (get_or v.yaku 29 false && holds_four_winds x)) e
      ∙ ap (λ (x : Scored). liable_in p (hand_for s).fields.winner (get_or x.yaku 28 false) (get_or x.yaku 29 false && holds_four_winds (hand_for s))) scores

pub score_hand-v-requires : goal.score_hand-v-requires
score_hand-v-requires c = let b = c.requires.1 in let f = c.requires.0.form in (b.few, b.winner, f.dealer, f.wind, b.discarder, b.other)

pub pao_of-feeder-requires : goal.pao_of-feeder-requires
pao_of-feeder-requires c = c.requires.1.winner

pub settle_scored-requires : goal.settle_scored-requires
settle_scored-requires c =
    let a = c.args in
    let p = c.requires in
    let b = p.1 in
    let y = c.score_hand-v.result.yaku in
    let winner = a.h.fields.winner in
    let seat = feeder_seat a.p p.0.form winner b.winner (get_or y 28 false) (get_or y 29 false && holds_four_winds a.h) in
    let refusal = hand_score_refusal a.h a.p.dealer a.p.wind in (
      p.0,
      b.winner,
      b.discarder,
      b.other,
      λ i. let w = changes_within a.h a.p.dealer a.p.wind i in rw c.score_hand-v.ensures.value (omega arith, omega arith),
      other_seat winner c.pao_of-feeder.result (subst (IsOther winner) (sym c.pao_of-feeder.ensures) seat),
      p.2,
      p.3,
      rw c.score_hand-v.ensures.value refusal.0,
      rw c.score_hand-v.ensures.value refusal.1,
    )

pub returns : goal.returns
returns c =
    let a = c.args in
    let o = c.requires.0 in
    let v = c.score_hand-v.result in
    record {
      gifts = given a.p a.h.fields v c.pao_of-feeder.result a.n a.k c.settle_scored.result c.settle_scored.ensures;
      by_index = λ s z e.
          settled_read a.p s a.n a.k a.h v c.pao_of-feeder.result c.settle_scored.result e (scores a.p o a.h v c.score_hand-v.ensures.value s z e)
          (liable a.p o a.h v c.score_hand-v.ensures.value s z e c.pao_of-feeder.result c.pao_of-feeder.ensures) c.settle_scored.ensures;
    }
