-- There is a kind that t lacks, since the hand has a tile more.
use Rattle.std.proofs.Common.{get_or, refl, arith}
use Rattle.reading.specs.search.Readings.{less}
use Rattle.ready_choices.proofs.laws.Sums.{total_le_of}
use Rattle.ready_nearest.proofs.short.Goals as goal

pub returns-in-Some : goal.returns-in-Some
unfolding less
returns-in-Some c = record { kind = c.in-Some.k; low = c.in-Some.ensures.found.0; lack = c.in-Some.ensures.found.1; less_one = refl }

pub returns-in_default : goal.returns-in_default
returns-in_default c =
    let h = total_le_of (λ k. get_or c.args.w k 0) (λ k. get_or c.args.t.now k 0) 34 c.in_default.ensures.none in
    absurd (omega (arith, c.requires.1))
