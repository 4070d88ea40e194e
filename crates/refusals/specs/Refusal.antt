-- The papers' numbers of refusals. "Where an answer is an enum, a definition gives this paper's number .. for each of its cases" (01, The form each place takes).
use Rattle.std.specs.Prelude.{ℕ, Result, Ok, Err}
use Rattle.refusals.specs.declared.Refusal.{Refusal}
use Rattle.refusals.specs.declared.Refusal.TheVariants.{Length, Field, Descending, OverFour, Situation, NoReading, NoYaku, Argument, NotOpen, Declared, Riichi, Buffer, Entry, Discard, Page, MultiRon, Pao, Cards, Supersede, Stick, Claim}

-- the number of a refusal (01, Read to Log; 02, S-1 to S-13); docs/REFUSALS.md has the words at each
abbrev pub number : Refusal → ℕ
number Length = 1
number Field = 2
number Descending = 3
number OverFour = 4
number Situation = 5
number NoReading = 6
number NoYaku = 7
number Argument = 8
number NotOpen = 9
number Declared = 10
number Riichi = 11
number Buffer = 13
number Entry = 14
number Discard = 15
number Page = 16
number MultiRon = 17
number Pao = 18
number Cards = 19
number Supersede = 20
number Stick = 21
number Claim = 22

-- the number that a call gives: its refusal's, 0 where it met none
abbrev pub refusal_in : {T : Type 0} → Result T Refusal → ℕ
refusal_in (Ok x) = 0
refusal_in (Err r) = number r
