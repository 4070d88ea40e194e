-- A fine by how many seats are at fault, as the code makes it.
use Rattle.std.specs.Prelude.{Bool, cond, ℕ, ◌-◌, ◌*◌, ℤ, pos, neg_ℤ}

-- one of n seats at fault pays 3,000 to each that is not, and one that is not gets 3,000 of each of the n
abbrev pub fined_by : ℕ → Bool → ℤ
fined_by n pays = cond pays (neg_ℤ (pos (3000 * (4 - n)))) (pos (3000 * n))
