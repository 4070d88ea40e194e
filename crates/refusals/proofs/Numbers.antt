-- A refusal's number is not 0, which is what a call gives that met none.
use Rattle.std.specs.Prelude.{◌<◌}
use Rattle.std.proofs.Common.{arith}
use Rattle.refusals.specs.declared.Refusal.{Refusal}
use Rattle.refusals.specs.declared.Refusal.TheVariants.{Length, Field, Descending, OverFour, Situation, NoReading, NoYaku, Argument, NotOpen, Declared, Riichi, Buffer, Entry, Discard, Page, MultiRon, Pao, Cards, Supersede, Stick, Claim}
use Rattle.refusals.specs.Refusal.{number}

pub number_above : (r : Refusal) → 0 < number r
number_above Length = omega arith
number_above Field = omega arith
number_above Descending = omega arith
number_above OverFour = omega arith
number_above Situation = omega arith
number_above NoReading = omega arith
number_above NoYaku = omega arith
number_above Argument = omega arith
number_above NotOpen = omega arith
number_above Declared = omega arith
number_above Riichi = omega arith
number_above Buffer = omega arith
number_above Entry = omega arith
number_above Discard = omega arith
number_above Page = omega arith
number_above MultiRon = omega arith
number_above Pao = omega arith
number_above Cards = omega arith
number_above Supersede = omega arith
number_above Stick = omega arith
number_above Claim = omega arith
