use Rattle.std.proofs.Common.{◌≡◌, sym, ap, ◌∙◌, arith}
use Rattle.hand_record.specs.Record.{count_in, length_of}
use Rattle.hand_record.proofs.laws.Read.{whole}
use Rattle.hand_record.proofs.laws.Lengths.{record_short, record_over, record_cut, record_whole}
use Rattle.hand_record.proofs.record_length.Goals as goal

pub returns-then-s-lt4-clause-value : goal.returns-then-s-lt4-clause-value
returns-then-s-lt4-clause-value c = sym (record_short c.args.s.now c.if-s-lt4.true)

pub returns-then-m-gt4-clause-value : goal.returns-then-m-gt4-clause-value
returns-then-m-gt4-clause-value c =
    let s = c.args.s.now in
    let e : c.meld_count-m.result ≡ count_in s = c.meld_count-m.ensures in
    sym (record_over s c.if-s-lt4.false (omega arith))

pub returns-then-s-n-clause-value : goal.returns-then-s-n-clause-value
returns-then-s-n-clause-value c =
    let s = c.args.s.now in
    let e : c.meld_count-m.result ≡ count_in s = c.meld_count-m.ensures in
    sym (record_cut s c.if-s-lt4.false (omega arith) (rw (← e) c.if-s-n.true))

pub returns-clause-value : goal.returns-clause-value
returns-clause-value c =
    let s = c.args.s.now in
    let e : c.meld_count-m.result ≡ count_in s = c.meld_count-m.ensures in
    ap length_of e ∙ sym (record_whole s c.if-s-lt4.false (omega arith) (rw (← e) c.if-s-n.false))

pub returns-clause-some : goal.returns-clause-some
returns-clause-some c = omega (arith, whole _ c.if-m-gt4.false)
