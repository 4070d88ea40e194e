-- What is refused stores nothing, and else the record is stored.
use Rattle.std.proofs.Common.{◌≡◌, ℕ, ◌≤◌, List, Err, length, rules, sym, ◌∙◌, arith}
use Rattle.std.proofs.Math.ListN.{length-replicate}
use Rattle.bits.specs.Bits.{pack}
use Rattle.bits.proofs.laws.Pack.{take_replicate, below_replicate, sum_replicate, length_fill, below_fill, below_pack}
use Rattle.hand.specs.declared.Hand.{Hand}
use Rattle.hand.specs.Refusals.{unwritable}
use Rattle.hand_record.specs.declared.Written.{Written}
use Rattle.hand_record.specs.Record.{length_of, widths, values_of, written_of, buffer_of}
use Rattle.refusals.specs.declared.Refusal.{Refusal}
use Rattle.refusals.specs.Refusal.{number}
use Rattle.refusals.proofs.Numbers.{number_above}
use Rattle.hand_record.proofs.laws.Read.{whole}
use Rattle.hand_record.proofs.laws.Write.{few_melds, length_packed, refusal_hand, refusal_short, refusal_none, kept_by, wrote_by, stored}
use Rattle.hand_writer.proofs.try_write.Goals as goal

-- a refused hand
refused : (h : Hand) (buf : List ℕ) (r : Refusal) → number r ≡ unwritable h
    → (◌≡◌ {A = Written} (record { refusal = number r; len = 0 }) (written_of h buf)) × (buf ≡ buffer_of h buf)
refused h buf r e = kept_by h buf (number r) (refusal_hand h buf (number r) e (number_above r)) (number_above r)

few : (h : Hand) → 0 ≡ unwritable h → h.held.m ≤ 4
few h e = few_melds h (sym e)

pub returns-in_err-check_writable-clause-value : goal.returns-in_err-check_writable-clause-value
returns-in_err-check_writable-clause-value c =
    let e : c.from_residual.result ≡ Err c.in_err-check_writable.field-0.0 = search rules in
    rw e (refused c.args.h c.args.buf.now c.in_err-check_writable.field-0.0 c.in_err-check_writable.ensures).0

pub returns-in_err-check_writable-clause-buf_after : goal.returns-in_err-check_writable-clause-buf_after
returns-in_err-check_writable-clause-buf_after c =
    (refused c.args.h c.args.buf.now c.in_err-check_writable.field-0.0 c.in_err-check_writable.ensures).1

pub bounds-h : goal.bounds-h
bounds-h c = omega (arith, few c.args.h c.in_ok-check_writable.ensures)

pub returns-then-buf-n-clause-value : goal.returns-then-buf-n-clause-value
returns-then-buf-n-clause-value c =
    let a = c.args in
    (kept_by a.h a.buf.now 13
    (refusal_short a.h a.buf.now (sym c.in_ok-check_writable.ensures) c.if-buf-n.true) (omega arith)).0

pub returns-then-buf-n-clause-buf_after : goal.returns-then-buf-n-clause-buf_after
returns-then-buf-n-clause-buf_after c =
    let a = c.args in
    (kept_by a.h a.buf.now 13
    (refusal_short a.h a.buf.now (sym c.in_ok-check_writable.ensures) c.if-buf-n.true) (omega arith)).1

pub pack_hand-b-requires : goal.pack_hand-b-requires
pack_hand-b-requires c = few c.args.h c.in_ok-check_writable.ensures

pub unpack_into-requires : goal.unpack_into-requires
unpack_into-requires c =
    let h = c.args.h in
    let m = few h c.in_ok-check_writable.ensures in
    let melds : length h.held.melds ≡ 4 = search rules in
    let concealed : length h.held.concealed ≡ 13 = search rules in
    let n = length_of h.held.m in
    let w = whole h.held.m m in
    let p = pack (widths h.held.m) (values_of h) in
    let lp = length_packed h m (omega arith) (omega arith) in
    rw (c.pack_hand-b.ensures, take_replicate n 13 8 w.2) (
      omega (arith, length-replicate {A = ℕ} n 8, c.if-buf-n.false),
      below_replicate 9 n 8 (omega arith),
      omega (arith, sum_replicate n 8, length_fill 104 p (omega (arith, lp, w))),
      below_fill 2 104 p (below_pack (widths h.held.m) (values_of h)),
    )

pub returns-clause-value : goal.returns-clause-value
returns-clause-value c =
    let a = c.args in
    (wrote_by a.h a.buf.now
    (refusal_none a.h a.buf.now (sym c.in_ok-check_writable.ensures) c.if-buf-n.false)).0

pub returns-clause-buf_after : goal.returns-clause-buf_after
returns-clause-buf_after c =
    let a = c.args in
    let melds : length a.h.held.melds ≡ 4 = search rules in
    let concealed : length a.h.held.concealed ≡ 13 = search rules in
    stored a.h a.buf.now c.pack_hand-b.result c.unpack_into.new.out (few a.h c.in_ok-check_writable.ensures)
    (omega arith) (omega arith) c.if-buf-n.false c.pack_hand-b.ensures c.unpack_into.ensures
    ∙ (wrote_by a.h a.buf.now (refusal_none a.h a.buf.now (sym c.in_ok-check_writable.ensures) c.if-buf-n.false)).1
