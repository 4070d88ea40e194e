use Rattle.std.proofs.Common.{◌≡◌, ◌+◌, ◌-◌, ◌^◌, ◌<◌, take, drop}
use Rattle.bits.specs.Bits.{val}
use Rattle.bits.proofs.gather.Given as goal

abbrev pub invariant-loop-bit : goal.invariant-loop-bit
invariant-loop-bit l =
    (l.r < 2 ^ l.bit-index)
    × (val l.r (take (l.fn.n - l.bit-index) (drop (l.fn.at + l.bit-index) l.fn.b)) ≡ val 0 (take l.fn.n (drop l.fn.at l.fn.b)))
