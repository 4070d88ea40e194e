-- A win's payments in two parts, as the code makes them: what a seat pays of the gain with pao, and what it pays for the counters.
use Rattle.std.specs.Prelude.{Bool, cond, ℕ, ◌+◌, ◌*◌, ◌/◌, eqb}

-- what seat i, another than the winner, pays of the whole by article 67
unfoldable pub pao_pays : ℕ → ℕ → Bool → ℕ → ℕ → ℕ
pao_pays discarder feeder ron whole i =
    cond ron (cond (eqb i feeder) (whole / 2) 0 + cond (eqb i discarder) (whole / 2) 0) (cond (eqb i feeder) whole 0)

-- what it pays more for n counters, one seat paying them alone or not
unfoldable pub repeat_pays : ℕ → Bool → ℕ → ℕ → ℕ
repeat_pays payer alone n i = cond alone (cond (eqb i payer) (300 * n) 0) (100 * n)
