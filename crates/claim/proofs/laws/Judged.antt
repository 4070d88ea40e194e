-- The one answer is what the code finds; each verdict exactly when S-13 names it.
use Rattle.std.specs.Prelude.{ℕ, ◌≤◌, ◌<◌, ◌≡◌, refl, List, ◌↔◌}
use Rattle.std.proofs.Common.{sym, ◌∙◌, subst, arith}
use Rattle.std.proofs.Math.Path.{ap}
use Rattle.std.proofs.Math.IntN.{pos}
use Rattle.std.proofs.Math.ListN.{get_or}
use Rattle.hand.specs.declared.Hand.{Hand}
use Rattle.hand.specs.Hand.{is_ron, concealed_tally}
use Rattle.hand_record.specs.Record.{refusal_in, hand_of, read_of, IsSound}
use Rattle.hand_record.proofs.Claims.{sound}
use Rattle.hand_record.proofs.laws.Bounds.{read_bounds, refused_number}
use Rattle.reading.specs.declared.Reading.{Reading}
use Rattle.points.proofs.Claims.{gain_is_payments}
use Rattle.points.proofs.laws.Bounds.{gain_le}
use Rattle.points_value.specs.Value.{value_of}
use Rattle.score_best.proofs.laws.Top.{basic_le}
use Rattle.score.specs.declared.Scored.{Scored}
use Rattle.score.specs.Named.{won_of, seats_of, worth, ReadsWithYaku, IsReported, gain_in}
use Rattle.score.specs.Score.{score_of}
use Rattle.score.proofs.laws.Named.{most, best, accepted as accepted_by}
use Rattle.score.proofs.laws.HandScore.{scored}
use Rattle.claim.specs.declared.Judged.{Judged}
use Rattle.claim.specs.Claim.{Names}
use Rattle.claim.specs.Verdict.{PaysMost, IsVerdict, accepted, one, two, three, four}
use Rattle.claim.specs.IsJudged.{refused_with, judged_as, IsNamed, NamedWith, IsJudged, eight, unreadable, faulty, passed}
use Rattle.claim.specs.Judge.{judged_of, HasVerdict}
use Rattle.claim.proofs.laws.One.{is_judged, one_answer}
use Rattle.claim.specs.search.Judge.{found_of}
use Rattle.claim.proofs.laws.Names.{claimable}
use Rattle.claim.proofs.laws.Exact.{one_claim, found_is}

module _ (s claim : List ℕ) (dealer wind : ℕ) where
  abbrev hand : Hand
  hand = hand_of (read_of s)

  -- ---- the answer is what the code finds

  pub found_is_judged : found_of s claim dealer wind ≡ judged_of s claim dealer wind
  found_is_judged = one_answer s claim dealer wind (found_of s claim dealer wind) (found_is s claim dealer wind)

  pub both : (x : Judged) → x ≡ found_of s claim dealer wind → IsJudged s claim dealer wind x × (x ≡ judged_of s claim dealer wind)
  both x e = (subst (λ (y : Judged). IsJudged s claim dealer wind y) (sym e) (found_is s claim dealer wind), e ∙ found_is_judged)

  -- ---- each verdict

  -- what is named, of an answer that is no refusal
  passed_of : {a : Judged} → IsJudged s claim dealer wind a → a.refusal ≡ 0
      → (r : Reading) × (g : ℕ) × IsNamed s claim dealer wind r g × IsVerdict hand dealer wind r g a.verdict
  passed_of (eight o) e = absurd (omega arith)
  passed_of (unreadable d w n q) e = absurd (omega (arith, refused_number s n q))
  passed_of (faulty d w y n) e = absurd (omega arith)
  passed_of (passed {r} {g} x v) e = (r, g, x, v)

  pub exactly : (v : ℕ) → HasVerdict s claim dealer wind v ↔ NamedWith s claim dealer wind (λ r g. IsVerdict hand dealer wind r g v)
  exactly v = (
    λ e. passed_of (subst (λ (a : Judged). IsJudged s claim dealer wind a) e (is_judged s claim dealer wind)) refl,
    λ (r, g, x, i). sym (one_answer s claim dealer wind (judged_as v) (passed x i)),
  )

  -- what the verdict 0 says of what the claim names
  abbrev Accepted : Reading → ℕ → Type 0
  Accepted r g = ReadsWithYaku hand dealer wind r × (gain_in hand dealer wind r ≡ g) × PaysMost hand dealer wind r

  is_accepted : {r : Reading} {g v : ℕ} → IsVerdict hand dealer wind r g v → v ≡ 0 → Accepted r g
  is_accepted (accepted a b c) e = (a, b, c)
  is_accepted (one a) e = absurd (omega arith)
  is_accepted (two a b) e = absurd (omega arith)
  is_accepted (three a b) e = absurd (omega arith)
  is_accepted (four a b q u l) e = absurd (omega arith)

  pub accepted_exactly : HasVerdict s claim dealer wind 0 ↔ NamedWith s claim dealer wind Accepted
  accepted_exactly = (
    λ e. let (r, g, x, i) = (exactly 0).0 e in (r, g, x, is_accepted i refl),
    λ (r, g, x, p). (exactly 0).1 (r, g, x, accepted p.0 p.1 p.2),
  )

  -- ---- 22

  pub twenty_two_exactly : dealer ≤ 3 → wind ≤ 1 → IsSound s
      → (judged_of s claim dealer wind ≡ refused_with 22) ↔ ((r : Reading) (g : ℕ) → Names hand.held.m claim r g → ⊥)
  twenty_two_exactly d w y = (
    λ e r g n. of (is_judged s claim dealer wind) (ap (λ (j : Judged). j.refusal) e) n,
    λ n. sym (one_answer s claim dealer wind (refused_with 22) (faulty d w y n)),
  )
    where
      of : {a : Judged} {r : Reading} {g : ℕ} → IsJudged s claim dealer wind a → a.refusal ≡ 22 → Names hand.held.m claim r g → ⊥
      of (eight o) e n = omega arith
      of (unreadable c v k q) e n =
          let z : k ≡ 0 = ap refusal_in (sym q) ∙ (sound s).0 y in
          omega arith
      of (faulty c v z k) e n = k _ _ n
      of (passed x v) e n = omega arith

  -- ---- Score's own reading

  module _ {r : Reading} {g : ℕ} (t : HasVerdict s claim dealer wind 0) (n : Names hand.held.m claim r g) where
    claims : IsNamed s claim dealer wind r g × Accepted r g
    claims =
        let (q, k, x, p) = accepted_exactly.0 t in
        let (e, f) = one_claim s claim dealer wind x.sound x.names n in
        subst (λ (y : Reading). IsNamed s claim dealer wind y g × Accepted y g) e (subst (λ (y : ℕ). IsNamed s claim dealer wind q y × Accepted q y) f (x, p))

    pub pays_as_scored : get_or (score_of s dealer wind).changes hand.fields.winner (pos 0) ≡ pos g
    unfolding worth value_of won_of
    pays_as_scored =
        let (x, (w, p, m)) = claims in
        let named = scored s dealer wind x.seat x.round x.sound in
        let b = best hand dealer wind named ((accepted_by hand dealer wind named).1 (r, w)) in
        let e : gain_in hand dealer wind b.0 ≡ g = omega (arith, most hand dealer wind b.0 r b.1 w, m b.0 b.1.yaku, p) in
        let few = read_bounds s ((sound s).0 x.sound) in
        ap (λ (a : Scored). get_or a.changes hand.fields.winner (pos 0)) b.2
        ∙ (gain_is_payments (seats_of hand dealer) (is_ron hand.fields) (worth hand dealer wind b.0).basic.0).got (omega (arith, few.winner))
        ∙ ap pos e

-- 17 bits hold every gain
pub gain_fits : (h : Hand) (dealer wind : ℕ) (r : Reading) → h.fields.winner ≤ 3 → gain_in h dealer wind r < 131072
unfolding worth value_of won_of
gain_fits h dealer wind r w = omega (arith, gain_le (seats_of h dealer) (worth h dealer wind r).basic.0 (basic_le _ _ _) (is_ron h.fields) (omega arith))

pub own_reading : (s : List ℕ) (dealer wind : ℕ) → dealer ≤ 3 → wind ≤ 1 → IsSound s → (r : Reading) → IsReported (hand_of (read_of s)) dealer wind r
    → (claim : List ℕ) × Names (hand_of (read_of s)).held.m claim r (gain_in (hand_of (read_of s)) dealer wind r) × HasVerdict s claim dealer wind 0
own_reading s dealer wind d w y r i =
    let h = hand_of (read_of s) in
    let b = read_bounds s ((sound s).0 y) in
    let c = claimable h.held.m b.few (gain_in h dealer wind r) (gain_fits h dealer wind r b.winner) (concealed_tally h) h.fields.winning r
    i.yaku.0 in (
      c.0,
      c.1,
      (accepted_exactly s c.0 dealer wind).1
          (r, gain_in h dealer wind r, record { seat = d; round = w; sound = y; names = c.1 }, (i.yaku, refl, λ q u. most h dealer wind r q i u)),
    )
