-- What holds of the yaku of every reading (01, Yaku).
use Rattle.std.specs.Prelude.{◌≡◌, true, false, ◌&&◌, not, ℕ, ◌<◌, get_or}
use Rattle.tiles.specs.Below.{all}
use Rattle.yaku.specs.Yaku.{closed_only, tests_of, is_yakuman, yaku_of}
use Rattle.yaku.specs.declared.Won.{Won}
use Rattle.yaku.specs.declared.FullReading.{FullReading}
use Rattle.yaku.proofs.laws.Claims as laws

module _ (w : Won) (p : FullReading) where
  -- "c" closed only
  pub closed_only_lem : w.closed ≡ false → all 8 (λ i. not (get_or (tests_of w p) (get_or closed_only i 0) false)) ≡ true
  closed_only_lem e = laws.closed_only_lem w p e

  -- 21 "instead of 5"
  pub not_both_twins : get_or (tests_of w p) 5 false && get_or (tests_of w p) 21 false ≡ false
  not_both_twins = laws.not_both_twins w p

  -- 11 "instead of 10"
  pub not_both_riichi : get_or (tests_of w p) 10 false && get_or (tests_of w p) 11 false ≡ false
  not_both_riichi = laws.not_both_riichi w p

  -- "With a yakuman only yakuman are listed"
  pub yakuman_alone : is_yakuman (tests_of w p) ≡ true → (n : ℕ) → n < 26 → get_or (yaku_of w p) n false ≡ false
  yakuman_alone e n h = laws.yakuman_alone w p e n h
