-- The ranges of a hand that was read, which the code that scores it asks for.
use Rattle.std.specs.Prelude.{◌≡◌, false, ◌≤◌}
use Rattle.hand.specs.declared.Hand.{Hand}
use Rattle.hand.specs.Refusals.{wrong_discarder}

pub record Bounds (h : Hand) : Type 0 where
  pub few : h.held.m ≤ 4
  pub winner : h.fields.winner ≤ 3
  pub discarder : h.fields.discarder ≤ 3
  pub winning : h.fields.winning ≤ 33
  pub indicator : h.fields.indicator ≤ 33
  pub other : wrong_discarder h.fields ≡ false
