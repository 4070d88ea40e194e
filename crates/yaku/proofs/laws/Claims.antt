-- The proofs of the claims.
use Rattle.std.specs.Prelude.{◌≡◌, true, false, ◌&&◌, ℕ, ◌<◌, get_or}
use Rattle.std.proofs.Math.Path.{refl}
use Rattle.std.proofs.Math.Bool.{not}
use borrow.Author.Tests.{not-true}
use Rattle.tiles.specs.Below.{all, all_below}
use Rattle.tiles.proofs.laws.Below.{every_at}
use Rattle.yaku_basics.specs.Tests.{twins}
use Rattle.yaku.specs.Yaku.{closed_only, pinfu, tests_of, is_yakuman, listed, yaku_of}
use Rattle.yaku.specs.declared.Won.{Won}
use Rattle.yaku.specs.declared.FullReading.{FullReading}
use Rattle.yaku.proofs.laws.Lists.{not_both}

module _ (w : Won) (p : FullReading) where
  pub closed_only_lem : w.closed ≡ false → all 8 (λ i. not (get_or (tests_of w p) (get_or closed_only i 0) false)) ≡ true
  unfolding tests_of pinfu
  closed_only_lem e = rw e

  pub not_both_twins : get_or (tests_of w p) 5 false && get_or (tests_of w p) 21 false ≡ false
  unfolding tests_of
  not_both_twins = not_both w.closed (twins p.groups) 1 2 refl

  pub not_both_riichi : get_or (tests_of w p) 10 false && get_or (tests_of w p) 11 false ≡ false
  unfolding tests_of
  not_both_riichi = not_both w.closed w.riichi 1 2 refl

  pub yakuman_alone : is_yakuman (tests_of w p) ≡ true → (n : ℕ) → n < 26 → get_or (yaku_of w p) n false ≡ false
  unfolding yaku_of listed all_below
  yakuman_alone e n h = not-true _ (every_at (λ i. not (get_or (yaku_of w p) i false)) 26 n (rw e) h)
