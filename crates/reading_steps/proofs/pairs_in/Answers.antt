-- Of the suits and honours so far, the kinds found are all that can be the pair.
use Rattle.std.proofs.Common.{◌≡◌, List, ℕ, ◌+◌, ◌-◌, ◌*◌, ◌<◌, get_or, take, drop, refl, ◌∙◌, arith}
use Rattle.std.proofs.lemmas.List.{get_or-take, get_or-drop}
use Rattle.tiles.specs.Below.{sum}
use Rattle.tiles.proofs.laws.Sums.{sum_cong}
use Rattle.reading.specs.search.Pairs.{weighed}
use Rattle.reading.proofs.laws.Pairs.{weighed_cong}
use Rattle.reading_steps.proofs.Upto.{upto_suit, upto_honour, upto_all}
use Rattle.reading_steps.proofs.pairs_in.Goals as goal

-- a suit is a part of the tally
module _ (t : List ℕ) (a : ℕ) where
  abbrev suit : List ℕ
  suit = take (a + 9 - a) (drop a t)

  suit_at : (i : ℕ) → i < 9 → get_or suit i 0 ≡ get_or t (a + i) 0
  suit_at i h = let e : a + 9 - a ≡ 9 = omega arith in rw (e, get_or-take 9 (drop a t) i 0 h, get_or-drop a t i 0)

  suit_tiles : sum 9 (λ i. get_or suit i 0) ≡ sum 9 (λ i. get_or t (a + i) 0)
  suit_tiles = sum_cong (λ i. get_or suit i 0) (λ i. get_or t (a + i) 0) 9 suit_at

  suit_weight : weighed (λ i. get_or suit i 0) ≡ weighed (λ i. get_or t (a + i) 0)
  suit_weight = weighed_cong (λ i. get_or suit i 0) (λ i. get_or t (a + i) 0) suit_at

pub loop-s-init : goal.loop-s-init
loop-s-init c = (omega arith, λ k gs z. (λ l. absurd (omega arith), λ d. absurd (d refl)))

pub loop-s-preserved : goal.loop-s-preserved
loop-s-preserved c =
    let j = c.joined-p.ensures in
    let n = c.in_suit-n.ensures in (
      j.2 c.loop-s.invariant.0 (omega arith),
      upto_suit c.args.t.now _ _ c.loop-s.s _ _ (n.0 ∙ suit_tiles c.args.t.now (9 * c.loop-s.s)) (n.1 ∙ suit_weight c.args.t.now (9 * c.loop-s.s)) j.0 j.1 c.loop-s.invariant.1,
    )

pub loop-k-init : goal.loop-k-init
loop-k-init c = let e : 9 * c.loop-s.s ≡ 27 = omega arith in (c.loop-s.invariant.0, rw e at c.loop-s.invariant.1)

pub loop-k-preserved : goal.loop-k-preserved
loop-k-preserved c =
    let j = c.joined-p-in-loop-k.ensures in
    (j.2 c.loop-k.invariant.0 (omega arith), upto_honour _ _ _ c.loop-k.k _ (omega arith) c.from.ensures j.0 j.1 c.loop-k.invariant.1)

pub returns : goal.returns
returns c = let e : c.loop-k.k ≡ 34 = omega arith in (c.loop-k.invariant.0, upto_all _ _ c.requires (rw e at c.loop-k.invariant.1))
