-- Where a limit is paid, by the fu that it takes at each h.
use Rattle.std.specs.Prelude.{◌≡◌, true, false, ℕ, ◌*◌, ◌≤◌, ◌<◌, ltb}
use Rattle.std.proofs.Common.{arith}
use borrow.Author.Tests.{lt-ltb, le-ltb, ltb-true, le-leb}
use Rattle.points.specs.Points.{plain}
use Rattle.tiles.proofs.laws.Below.{both_ways}
use Rattle.speech_told.specs.Phrases.{is_limit}

-- A exceeds 2,000 where fu exceeds q, if a times fu does
over : (a q fu : ℕ) → (2000 < fu * a → q < fu) → (q < fu → 2000 < fu * a) → ltb q fu ≡ ltb 2000 (fu * a)
over a q fu f g = both_ways (ltb q fu) (ltb 2000 (fu * a)) (λ t. lt-ltb 2000 (fu * a) (g (ltb-true q fu t))) (λ t. lt-ltb q fu (f (ltb-true 2000 (fu * a) t)))

module _ (h fu : ℕ) where
  pub limit_5 : 5 ≤ h → true ≡ is_limit h fu
  unfolding is_limit
  limit_5 g = rw (le-leb 5 h g)

  pub limit_4 : h ≡ 4 → ltb 31 fu ≡ is_limit h fu
  unfolding is_limit plain
  limit_4 e = rw e (over 64 31 fu (λ q. omega arith) (λ q. omega arith))

  pub limit_3 : h ≡ 3 → ltb 62 fu ≡ is_limit h fu
  unfolding is_limit plain
  limit_3 e = rw e (over 32 62 fu (λ q. omega arith) (λ q. omega arith))

  pub limit_2 : h ≡ 2 → ltb 125 fu ≡ is_limit h fu
  unfolding is_limit plain
  limit_2 e = rw e (over 16 125 fu (λ q. omega arith) (λ q. omega arith))

  pub limit_1 : h ≡ 1 → ltb 250 fu ≡ is_limit h fu
  unfolding is_limit plain
  limit_1 e = rw e (over 8 250 fu (λ q. omega arith) (λ q. omega arith))

  pub limit_0 : h ≡ 0 → fu < 256 → false ≡ is_limit h fu
  unfolding is_limit plain
  limit_0 e f = rw (e, le-ltb 2000 (fu * 4) (omega arith))
