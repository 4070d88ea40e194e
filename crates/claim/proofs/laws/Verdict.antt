-- The code's verdict is the one that S-13 names, and it names one.
use Rattle.std.specs.Prelude.{ℕ, ◌≡◌, Bool, true, false, not, cond, ◌↔◌, ltb, eqb}
use Rattle.std.proofs.Math.Path.{refl}
use Rattle.std.proofs.Common.{sym, ap, ◌∙◌, arith, ltb-true, ltb-false, eqb-true}
use Rattle.std.proofs.lemmas.Bool.{false≢true, eqb-false}
use Rattle.hand.specs.declared.Hand.{Hand}
use Rattle.hand.specs.Hand.{concealed_tally}
use Rattle.reading.specs.declared.Reading.{Reading}
use Rattle.points_value.specs.declared.Value.{Value}
use Rattle.score_best.specs.Best.{with_yaku}
use Rattle.score.specs.Readings.{all_kinds}
use Rattle.score.specs.Named.{worth, IsReadingOf, ReadsWithYaku, IsReported, gain_in}
use Rattle.score.specs.search.HandScore.{kept_of}
use Rattle.score.proofs.laws.Best.{over_kept}
use Rattle.score.proofs.laws.Named.{most}
use Rattle.score.proofs.laws.Paid.{Paid, may_end}
use Rattle.claim.specs.Verdict.{IsVerdict, accepted, one, two, three, four}
use Rattle.claim.specs.search.Verdict.{IsFormed, reads, weighed_as, verdict_of}
use Rattle.claim.proofs.laws.Reads.{decides}

module _ (h : Hand) (dealer wind : ℕ) (paid : Paid h dealer) where
  -- where a reading has a yaku, the reported one is kept
  pub reported : (r : Reading) → ReadsWithYaku h dealer wind r → (q : Reading) × IsReported h dealer wind q
      × (gain_in h dealer wind q ≡ (kept_of h dealer wind).value.gain.0)
  reported r w = go (kept_of h dealer wind).valued refl
    where
      go : (v : Bool) → (kept_of h dealer wind).valued ≡ v → (q : Reading) × IsReported h dealer wind q
          × (gain_in h dealer wind q ≡ (kept_of h dealer wind).value.gain.0)
      go false e = absurd (false≢true (sym ((over_kept h dealer wind (may_end h dealer wind paid)).worthless e r w.0) ∙ w.1))
      go true e =
          let y = (over_kept h dealer wind (may_end h dealer wind paid)).best e in
          ((kept_of h dealer wind).reading, record { yaku = (y.0, y.1); first = λ q u. y.3 q u.0 u.1 }, ap (λ (x : Value). x.gain.0) (sym y.2))

  module _ (r : Reading) (g : ℕ) where
    pub named : IsFormed h.held.m r → IsVerdict h dealer wind r g (verdict_of h dealer wind r g)
    unfolding verdict_of weighed_as
    named f = go _ _ _ _ refl refl refl refl
      where
        test : (reads (concealed_tally h) h.held.m h.fields.winning r ≡ true) ↔ IsReadingOf h r
        test = decides (concealed_tally h) h.held.m h.fields.winning (all_kinds h) r f

        go : (a y p l : Bool) → reads (concealed_tally h) h.held.m h.fields.winning r ≡ a → with_yaku (worth h dealer wind) r ≡ y
            → eqb (gain_in h dealer wind r) g ≡ p
            → ltb (gain_in h dealer wind r) (kept_of h dealer wind).value.gain.0 ≡ l
            → IsVerdict h dealer wind r g (cond a (cond (not y) 2 (cond (not p) 3 (cond l 4 0))) 1)
        go false y p l ea ey ep el = one (λ i. false≢true (sym ea ∙ test.1 i))
        go true false p l ea ey ep el = two (test.0 ea) (λ w. false≢true (sym ey ∙ w.1))
        go true true false l ea ey ep el = three (test.0 ea, ey) (λ e. eqb-false (gain_in h dealer wind r) g ep e)
        go true true true true ea ey ep el =
            let (q, i, e) = reported r (test.0 ea, ey) in
            let p = eqb-true (gain_in h dealer wind r) g ep in
            four (test.0 ea, ey) p q i.yaku (omega (arith, p, e, ltb-true (gain_in h dealer wind r) (kept_of h dealer wind).value.gain.0 el))
        go true true true false ea ey ep el =
            let (q, i, e) = reported r (test.0 ea, ey) in
            accepted (test.0 ea, ey) (eqb-true (gain_in h dealer wind r) g ep)
            (λ x u. omega (arith, most h dealer wind q x i u, e, ltb-false (gain_in h dealer wind r) (kept_of h dealer wind).value.gain.0 el))

module _ (h : Hand) (dealer wind : ℕ) (r : Reading) (g : ℕ) where
  pub only_one : {v w : ℕ} → IsVerdict h dealer wind r g v → IsVerdict h dealer wind r g w → v ≡ w
  only_one (accepted a b c) (accepted p q s) = refl
  only_one (accepted a b c) (one p) = absurd (p a.0)
  only_one (accepted a b c) (two p q) = absurd (q a)
  only_one (accepted a b c) (three p q) = absurd (q b)
  only_one (accepted a b c) (four p q x u l) = absurd (omega (arith, c x u, b, l))
  only_one (one a) (accepted p q s) = absurd (a p.0)
  only_one (one a) (one p) = refl
  only_one (one a) (two p q) = absurd (a p)
  only_one (one a) (three p q) = absurd (a p.0)
  only_one (one a) (four p q x u l) = absurd (a p.0)
  only_one (two a b) (accepted p q s) = absurd (b p)
  only_one (two a b) (one p) = absurd (p a)
  only_one (two a b) (two p q) = refl
  only_one (two a b) (three p q) = absurd (b p)
  only_one (two a b) (four p q x u l) = absurd (b p)
  only_one (three a b) (accepted p q s) = absurd (b q)
  only_one (three a b) (one p) = absurd (p a.0)
  only_one (three a b) (two p q) = absurd (q a)
  only_one (three a b) (three p q) = refl
  only_one (three a b) (four p q x u l) = absurd (b q)
  only_one (four a b x u l) (accepted p q s) = absurd (omega (arith, s x u, q, l))
  only_one (four a b x u l) (one p) = absurd (p a.0)
  only_one (four a b x u l) (two p q) = absurd (q a)
  only_one (four a b x u l) (three p q) = absurd (q b)
  only_one (four a b x u l) (four p q y v k) = refl
