-- The code's test decides whether what a claim names is a reading.
use Rattle.std.specs.Prelude.{ℕ, ◌-◌, ◌≤◌, ◌<◌, ◌&&◌, List, [], ◌∷◌, ◌++◌, ◌↔◌, leb, length, replicate}
use Rattle.std.proofs.Math.Path.{◌≡◌, refl, ap}
use Rattle.std.proofs.Common.{◌∙◌, inl, inr, ⊎_elim, arith}
use Rattle.std.proofs.Math.Bool.{true}
use borrow.Author.Tests.{le-leb, leb-true, eqb-true, eq-eqb}
use Rattle.std.proofs.Math.Dec.{eqb}
use Rattle.std.proofs.Math.ListN.{get_or, take}
use Rattle.std.proofs.Math.Seq.{take_at}
use Rattle.tiles.proofs.laws.Below.{and_true}
use Rattle.reading.specs.declared.Reading.{Reading}
use Rattle.reading.specs.Reading.{used_by, Ascends, holds, is_seven_pairs, is_orphans, of_shape, IsReading, regular, pairs, orphans}
use Rattle.reading.specs.search.Readings.{less, fits, without}
use Rattle.reading.proofs.laws.Groups.{fits_of, without_at, without_long, less_at, less_long, at_same, empty_at, empty_of}
use Rattle.claim.specs.search.Verdict.{IsFormed, formed, without_groups, strip, regularly, reads}

-- ---- taking groups off

pub strip_uses : (gs t : List ℕ) → length t ≡ 34 → strip t gs ≡ true → (k : ℕ) → get_or t k 0 ≡ used_by gs k
unfolding strip used_by
strip_uses [] t l e k = empty_at t l e k
strip_uses (g ∷ gs) t l e k =
    let p = and_true (fits t g) (strip (without t g) gs) e in
    omega (arith, without_at t g p.0 k, strip_uses gs (without t g) (without_long t g l) p.1 k)

pub strip_of : (gs t : List ℕ) (c : ℕ) → Ascends c gs → ((k : ℕ) → get_or t k 0 ≡ used_by gs k) → strip t gs ≡ true
unfolding strip used_by
strip_of [] t c o h = empty_of t h
strip_of (g ∷ gs) t c o h =
    let f : fits t g ≡ true = fits_of t g o.1 (λ k. omega (arith, h k)) in
    rw f (strip_of gs (without t g) g o.2 (λ k. omega (arith, h k, without_at t g f k)))

-- ---- a reading as a claim names it

module _ (t : List ℕ) (m win : ℕ) (l : length t ≡ 34) where
  module _ (pair place : ℕ) (codes : List ℕ) (size : length codes ≡ 4 - m) (order : Ascends 0 codes) (p : pair < 34) (q : place ≤ 4 - m) where
    abbrev groups : List ℕ
    groups = codes ++ replicate m 68

    abbrev named : Reading
    named = record { shape = 0; pair = pair; groups = groups; place = place }

    taken : take (4 - m) groups ≡ codes
    taken = take_at codes (replicate m 68) (4 - m) size

    reads_regular : reads t m win named ≡ true → IsReading t m win named
    unfolding reads regularly
    reads_regular e =
        let a = and_true (leb 2 (get_or t pair 0)) (strip (less t pair 2) (take (4 - m) groups) && holds pair groups place win) e in
        let b = and_true (strip (less t pair 2) (take (4 - m) groups)) (holds pair groups place win) a.1 in
        let s : strip (less t pair 2) codes ≡ true = rw taken at b.0 in
        let two : 2 ≤ get_or t pair 0 = leb-true 2 (get_or t pair 0) a.0 in
        regular (record {
          shape = refl;
          codes = codes;
          size = size;
          groups = refl;
          order = order;
          pair = p;
          tiles = λ k. omega (arith, less_at t pair 2 (omega arith) two k, strip_uses codes (less t pair 2) (less_long t pair 2 l) s k);
          place = q;
          holding = b.1;
        })

    regular_reads : IsReading t m win named → reads t m win named ≡ true
    unfolding reads regularly
    regular_reads (regular i) =
        let same : take (4 - m) groups ≡ i.codes = ap (take (4 - m)) i.groups ∙ take_at i.codes (replicate m 68) (4 - m) i.size in
        let two : 2 ≤ get_or t pair 0 = omega (arith, i.tiles pair, at_same pair 2) in
        let s : strip (less t pair 2) i.codes ≡ true = strip_of i.codes (less t pair 2) 0 i.order
        (λ k. omega (arith, i.tiles k, less_at t pair 2 (omega arith) two k)) in
        rw (le-leb 2 (get_or t pair 0) two, same, s) i.holding
    regular_reads (pairs i) = let z : ◌≡◌ {A = ℕ} 0 1 = ap (λ (x : Reading). x.shape) i.reading in absurd (omega arith)
    regular_reads (orphans i) = let z : ◌≡◌ {A = ℕ} 0 2 = ap (λ (x : Reading). x.shape) i.reading in absurd (omega arith)

  seven : (reads t m win (of_shape 1) ≡ true) ↔ IsReading t m win (of_shape 1)
  unfolding reads
  seven = (λ e. let p = and_true (eqb m 0) (is_seven_pairs t) e in pairs (record { meldless = eqb-true m 0 p.0; kinds = p.1; reading = refl }), back)
    where
      back : IsReading t m win (of_shape 1) → eqb m 0 && is_seven_pairs t ≡ true
      back (regular i) = absurd (omega (arith, i.shape))
      back (pairs i) = rw (eq-eqb m 0 i.meldless, i.kinds)
      back (orphans i) = let z : ◌≡◌ {A = ℕ} 1 2 = ap (λ (x : Reading). x.shape) i.reading in absurd (omega arith)

  thirteen : (reads t m win (of_shape 2) ≡ true) ↔ IsReading t m win (of_shape 2)
  unfolding reads
  thirteen = (λ e. let p = and_true (eqb m 0) (is_orphans t) e in orphans (record { meldless = eqb-true m 0 p.0; kinds = p.1; reading = refl }), back)
    where
      back : IsReading t m win (of_shape 2) → eqb m 0 && is_orphans t ≡ true
      back (regular i) = absurd (omega (arith, i.shape))
      back (pairs i) = let z : ◌≡◌ {A = ℕ} 2 1 = ap (λ (x : Reading). x.shape) i.reading in absurd (omega arith)
      back (orphans i) = rw (eq-eqb m 0 i.meldless, i.kinds)

  pub decides : (r : Reading) → IsFormed m r → (reads t m win r ≡ true) ↔ IsReading t m win r
  decides r (formed pair place codes size order p q) = (reads_regular pair place codes size order p q, regular_reads pair place codes size order p q)
  decides r (without_groups k (inl e)) = rw e seven
  decides r (without_groups k (inr e)) = rw e thirteen

-- what the calls of the test ask
pub formed_bounds : (m : ℕ) (r : Reading) → IsFormed m r → (r.place ≤ 4) × (r.shape ≡ 0 → r.pair < 34)
formed_bounds m r (formed pair place codes size order p q) = (omega arith, λ e. p)
formed_bounds m r (without_groups k o) = (omega arith, λ e. absurd (⊎_elim (λ z. omega arith) (λ z. omega arith) o))
