use Rattle.std.proofs.Common.{◌≡◌, ℕ, ◌^◌, List, ℤ, pos, get_or, ◌∙◌, arith, SFits, to_z, of_z, to_z-of_z}
use Rattle.std.specs.Int.{w32}
use Rattle.bits.proofs.laws.Elem.{elem_sfits}
use Rattle.score.proofs.laws.Z.{Within, mag_parts}
use Rattle.position_form.proofs.Sums.{sum_4, sum_5, test}
use Rattle.position_form.proofs.balanced.Goals as goal

-- a score, as it stands in a local of 32 bits, is the score
abbrev sc : List ℤ → ℕ → ℤ
sc s i = to_z w32 (of_z w32 (get_or s i (pos 0)))

abbrev Fit : List ℤ → Type 0
Fit s = (i : ℕ) → SFits w32 (get_or s i (pos 0))

same : (s : List ℤ) → Fit s → (i : ℕ) → sc s i ≡ get_or s i (pos 0)
same s f i = to_z-of_z (f i)

within : (s : List ℤ) → Fit s → (i : ℕ) → Within (sc s i) 2147483648
within s f i = let m = mag_parts (get_or s i (pos 0)) (2 ^ 31) (f i).sfits in rw (same s f i) (omega arith, omega arith)

pub overflow_add-scores-3 : goal.overflow_add-scores-3
overflow_add-scores-3 c =
    let s = c.args.s in
    let f = λ (i : ℕ). elem_sfits w32 s c.well_formed.0.0 i c.well_formed.0.1.1 in
    rw (c.from.ensures, c.from-2.ensures, c.from-3.ensures, c.from-4.ensures)
    (sum_4 (sc s 0) (sc s 1) (sc s 2) (sc s 3) c.args.sticks (within s f 0) (within s f 1) (within s f 2) (within s f 3) c.ranges.sticks.fits)

pub overflow_add-result : goal.overflow_add-result
overflow_add-result c =
    let s = c.args.s in
    let f = λ (i : ℕ). elem_sfits w32 s c.well_formed.0.0 i c.well_formed.0.1.1 in
    rw (c.from.ensures, c.from-2.ensures, c.from-3.ensures, c.from-4.ensures, c.from-5.ensures)
    (sum_5 (sc s 0) (sc s 1) (sc s 2) (sc s 3) c.args.sticks (within s f 0) (within s f 1) (within s f 2) (within s f 3) c.ranges.sticks.fits)

pub returns : goal.returns
returns c =
    let s = c.args.s in
    let f = λ (i : ℕ). elem_sfits w32 s c.well_formed.0.0 i c.well_formed.0.1.1 in
    rw (c.from.ensures, c.from-2.ensures, c.from-3.ensures, c.from-4.ensures, c.from-5.ensures)
    (test (sc s 0) (sc s 1) (sc s 2) (sc s 3) c.args.sticks (within s f 0) (within s f 1) (within s f 2) (within s f 3) c.ranges.sticks.fits
    ∙ rw (same s f 0, same s f 1, same s f 2, same s f 3))
