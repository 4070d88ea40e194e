-- Return by return.
use Rattle.std.proofs.Common.{◌≡◌, ℕ, List, take, drop, sym, ap, ◌∙◌, arith}
use Rattle.bits.specs.Bits.{val, bits_of}
use Rattle.unfinished.specs.Unfinished.{length_of, count_in}
use Rattle.unfinished.proofs.laws.Read.{read_not, read_as}
use Rattle.unfinished.proofs.read.Goals as goal

-- the meld count
count : (s : List ℕ) (m : ℕ) → m ≡ val 0 (take 3 (drop 0 (bits_of s))) → m ≡ count_in s
unfolding count_in
count s m e = e

pub returns-then-n-eq0 : goal.returns-then-n-eq0
returns-then-n-eq0 c = read_not _ (λ f. omega (arith, f.some))

pub returns-then-m-gt4 : goal.returns-then-m-gt4
returns-then-m-gt4 c = read_not _ (λ f. omega (arith, count c.args.s.now c.field-m.result c.field-m.ensures, f.few))

pub returns-then-n-m : goal.returns-then-n-m
returns-then-n-m c =
    read_not _ (λ f. c.if-n-m.true (f.right ∙ ap length_of (sym (count c.args.s.now c.field-m.result c.field-m.ensures))))

pub returns : goal.returns
returns c =
    c.given.ensures
    ∙ read_as _ _ (count c.args.s.now c.field-m.result c.field-m.ensures)
    (record { some = omega arith; few = c.if-m-gt4.false; right = c.if-n-m.false })
