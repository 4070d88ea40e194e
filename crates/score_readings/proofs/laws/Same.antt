-- Readings are the same where their parts are, and the one that the search kept is the one that is reported.
use Rattle.std.specs.Prelude.{Bool, true, false, ◌&&◌, List, ◌↔◌, ◌≡◌, refl, ℕ, zero, suc, ◌≤◌, ◌<◌, eqb, length, get_or, replicate}
use Rattle.std.proofs.lemmas.Bool.{false≢true}
use Rattle.std.proofs.Common.{sym, ap, ◌∙◌, subst, arith, eqb-true, eq-eqb, length-append, ext_get_or}
use Rattle.std.proofs.lemmas.List.{length-replicate}
use Rattle.tiles.proofs.laws.Below.{and_true}
use Rattle.hand.specs.declared.Hand.{Hand}
use Rattle.reading.specs.declared.Reading.{Reading}
use Rattle.reading.specs.Reading.{regular, pairs, orphans}
use Rattle.score_best.proofs.laws.Over.{over_same}
use Rattle.score.specs.Named.{worth, IsReadingOf, IsReported}
use Rattle.score.specs.search.HandScore.{kept_of}
use Rattle.score.proofs.laws.Best.{over_kept}
use Rattle.score.proofs.laws.Paid.{Paid, may_end}
use Rattle.score_readings.specs.search.Found.{same_reading, is_kept}

-- ---- the same parts

below_four : (P : ℕ → Type 0) → P 0 → P 1 → P 2 → P 3 → (n : ℕ) → n < 4 → P n
below_four P a b c d zero h = a
below_four P a b c d (suc zero) h = b
below_four P a b c d (suc (suc zero)) h = c
below_four P a b c d (suc (suc (suc zero))) h = d
below_four P a b c d (suc (suc (suc (suc n)))) h = absurd (omega arith)

four_same : (l k : List ℕ) → length l ≡ 4 → length k ≡ 4 → get_or l 0 0 ≡ get_or k 0 0 → get_or l 1 0 ≡ get_or k 1 0 → get_or l 2 0 ≡ get_or k 2 0
    → get_or l 3 0 ≡ get_or k 3 0 → l ≡ k
four_same l k el ek a b c d =
    ext_get_or 0 l k (el ∙ sym ek) (λ i h. below_four (λ n. get_or l n 0 ≡ get_or k n 0) a b c d i (omega (arith, el)))

parts_same : (a b : Reading) → a.shape ≡ b.shape → a.pair ≡ b.pair → a.groups ≡ b.groups → a.place ≡ b.place → a ≡ b
parts_same a b p q r s =
    ap (λ (n : ℕ). record { shape = n; pair = a.pair; groups = a.groups; place = a.place }) p
    ∙ ap (λ (n : ℕ). record { shape = b.shape; pair = n; groups = a.groups; place = a.place }) q
    ∙ ap (λ (l : List ℕ). record { shape = b.shape; pair = b.pair; groups = l; place = a.place }) r
    ∙ ap (λ (n : ℕ). record { shape = b.shape; pair = b.pair; groups = b.groups; place = n }) s

pub same_true : (a b : Reading) → length a.groups ≡ 4 → length b.groups ≡ 4 → same_reading a b ≡ true → a ≡ b
unfolding same_reading
same_true a b la lb e =
    let g : ℕ → Bool = λ i. eqb (get_or a.groups i 0) (get_or b.groups i 0) in
    let p0 = eqb a.shape b.shape && eqb a.pair b.pair in
    let p1 = p0 && eqb a.place b.place in
    let x3 = and_true (((p1 && g 0) && g 1) && g 2) (g 3) e in
    let x2 = and_true ((p1 && g 0) && g 1) (g 2) x3.0 in
    let x1 = and_true (p1 && g 0) (g 1) x2.0 in
    let x0 = and_true p1 (g 0) x1.0 in
    let y1 = and_true p0 (eqb a.place b.place) x0.0 in
    let y0 = and_true (eqb a.shape b.shape) (eqb a.pair b.pair) y1.0 in
    parts_same a b (eqb-true _ _ y0.0) (eqb-true _ _ y0.1)
    (four_same a.groups b.groups la lb (eqb-true (get_or a.groups 0 0) (get_or b.groups 0 0) x0.1)
    (eqb-true (get_or a.groups 1 0) (get_or b.groups 1 0) x1.1) (eqb-true (get_or a.groups 2 0) (get_or b.groups 2 0) x2.1)
    (eqb-true (get_or a.groups 3 0) (get_or b.groups 3 0) x3.1))
    (eqb-true _ _ y1.1)

same_self : (a : Reading) → same_reading a a ≡ true
unfolding same_reading
same_self a =
    rw (
      eq-eqb a.shape a.shape refl,
      eq-eqb a.pair a.pair refl,
      eq-eqb a.place a.place refl,
      eq-eqb (get_or a.groups 0 0) (get_or a.groups 0 0) refl,
      eq-eqb (get_or a.groups 1 0) (get_or a.groups 1 0) refl,
      eq-eqb (get_or a.groups 2 0) (get_or a.groups 2 0) refl,
      eq-eqb (get_or a.groups 3 0) (get_or a.groups 3 0) refl,
    )

-- ---- of a hand

module _ (h : Hand) (few : h.held.m ≤ 4) where
  -- a reading has four places for groups
  four_groups : (r : Reading) → IsReadingOf h r → length r.groups ≡ 4
  four_groups r (regular i) =
      ap length i.groups ∙ omega (arith, i.size, length-append i.codes (replicate h.held.m 68), length-replicate {A = ℕ} h.held.m 68)
  four_groups r (pairs i) = rw i.reading refl
  four_groups r (orphans i) = rw i.reading refl

  module _ (dealer wind : ℕ) (paid : Paid h dealer) where
    -- what the search kept is reported
    kept_reported : (kept_of h dealer wind).valued ≡ true → IsReported h dealer wind (kept_of h dealer wind).reading
    kept_reported v =
        let y = (over_kept h dealer wind (may_end h dealer wind paid)).best v in
        record { yaku = (y.0, y.1); first = λ q w. y.3 q w.0 w.1 }

    -- so that something was kept where a reading is reported
    kept_some : (r : Reading) → IsReported h dealer wind r → (kept_of h dealer wind).valued ≡ true
    kept_some r i = go (kept_of h dealer wind).valued refl
      where
        go : (c : Bool) → (kept_of h dealer wind).valued ≡ c → (kept_of h dealer wind).valued ≡ true
        go true e = e
        go false e = absurd (false≢true (sym ((over_kept h dealer wind (may_end h dealer wind paid)).worthless e r i.yaku.0) ∙ i.yaku.1))

    pub one_reported : (r q : Reading) → IsReported h dealer wind r → IsReported h dealer wind q → r ≡ q
    one_reported r q i j = over_same (worth h dealer wind) r q (i.first q j.yaku) (j.first r i.yaku)

    -- the mark is right
    pub kept_iff : (r : Reading) → IsReadingOf h r → (is_kept h dealer wind r ≡ true) ↔ IsReported h dealer wind r
    unfolding is_kept
    kept_iff r i = (to, from)
      where
        x : Reading
        x = (kept_of h dealer wind).reading

        to : (kept_of h dealer wind).valued && same_reading x r ≡ true → IsReported h dealer wind r
        to e =
            let p = and_true (kept_of h dealer wind).valued (same_reading x r) e in
            let k = kept_reported p.0 in
            subst (λ (z : Reading). IsReported h dealer wind z) (same_true x r (four_groups x k.yaku.0) (four_groups r i) p.1) k

        from : IsReported h dealer wind r → (kept_of h dealer wind).valued && same_reading x r ≡ true
        from j =
            let v = kept_some r j in
            let q : same_reading x r ≡ true = subst (λ (z : Reading). same_reading z r ≡ true) (one_reported r x j (kept_reported v)) (same_self r) in
            rw (v, q)
