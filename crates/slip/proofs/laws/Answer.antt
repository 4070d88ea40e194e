-- What the slip answers, and the page afterwards.
use Rattle.std.specs.Prelude.{◌≡◌, true, List, ◌++◌, ℕ, ◌≤◌, ◌<◌, length, drop}
use Rattle.std.proofs.Common.{ap, sym, ◌∙◌, arith}
use borrow.Author.Tests.{lt-ltb, le-ltb}
use Rattle.yaku.specs.Yaku.{is_yakuman}
use Rattle.score.specs.declared.Scored.{Scored}
use Rattle.slip.specs.Slip.{slip_text, slip_refusal, slip_page}

module _ (a : Scored) (page : List ℕ) where
  score_first : 0 < a.refusal → slip_refusal a page ≡ a.refusal
  unfolding slip_refusal
  score_first h = rw (lt-ltb 0 a.refusal h)

  then_short : a.refusal ≤ 0 → length page < 150 → slip_refusal a page ≡ 16
  unfolding slip_refusal
  then_short h g = rw (le-ltb 0 a.refusal h, lt-ltb (length page) 150 g)

  then_none : a.refusal ≤ 0 → 150 ≤ length page → slip_refusal a page ≡ 0
  unfolding slip_refusal
  then_none h g = rw (le-ltb 0 a.refusal h, le-ltb (length page) 150 g)

  pub page_stays : 0 < slip_refusal a page → page ≡ slip_page a page
  unfolding slip_page
  page_stays h = rw (lt-ltb 0 (slip_refusal a page) h)

  pub page_written : slip_refusal a page ≡ 0 → slip_text a ++ drop 150 page ≡ slip_page a page
  unfolding slip_page
  page_written e = rw e

-- b is what Score gave
module _ (a b : Scored) (page : List ℕ) (e : b ≡ a) where
  abbrev same_refusal : b.refusal ≡ a.refusal
  same_refusal = ap (λ (x : Scored). x.refusal) e

  pub refused : 0 < b.refusal → (b.refusal ≡ slip_refusal a page) × (page ≡ slip_page a page)
  refused h =
      let t = score_first a page (omega (arith, same_refusal)) in
      (same_refusal ∙ sym t, page_stays a page (omega (arith, t, same_refusal)))

  pub too_short : b.refusal ≤ 0 → length page < 150 → (16 ≡ slip_refusal a page) × (page ≡ slip_page a page)
  too_short h g =
      let t = then_short a page (omega (arith, same_refusal)) g in
      (sym t, page_stays a page (omega (arith, t)))

  pub written : b.refusal ≤ 0 → 150 ≤ length page → (new : List ℕ) → new ≡ slip_text a ++ drop 150 page → (0 ≡ slip_refusal a page) × (new ≡ slip_page a page)
  written h g new q =
      let t = then_none a page (omega (arith, same_refusal)) g in
      (sym t, q ∙ page_written a page t)

  pub same_zero : (is_yakuman a.yaku ≡ true → a.fu.0 ≡ 0) → is_yakuman b.yaku ≡ true → b.fu.0 ≡ 0
  same_zero zero-fu = rw e zero-fu
