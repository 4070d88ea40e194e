-- A buffer that is too short is left, and else the bytes are stored.
use Rattle.std.proofs.Common.{◌≡◌, ℕ, length, rules, ◌∙◌, arith}
use Rattle.std.proofs.Math.ListN.{length-replicate}
use Rattle.bits.specs.Bits.{pack}
use Rattle.bits.proofs.laws.Pack.{take_replicate, below_replicate, sum_replicate, length_fill, below_fill, below_pack}
use Rattle.unfinished.specs.Unfinished.{length_of, widths}
use Rattle.unfinished_writer.specs.Write.{values_of}
use Rattle.unfinished_writer.proofs.laws.Store.{bytes_11, length_packed, after_short, after_none, kept_by, wrote_by, stored}
use Rattle.unfinished_writer.proofs.store.Goals as goal

pub returns-then-buf-n-clause-value : goal.returns-then-buf-n-clause-value
returns-then-buf-n-clause-value c =
    let a = c.args in
    (kept_by a.x a.buf.now 0 13 (after_short a.x a.buf.now c.if-buf-n.true) (omega arith)).0

pub returns-then-buf-n-clause-buf_after : goal.returns-then-buf-n-clause-buf_after
returns-then-buf-n-clause-buf_after c =
    let a = c.args in
    (kept_by a.x a.buf.now 0 13 (after_short a.x a.buf.now c.if-buf-n.true) (omega arith)).1

pub unpack_into-requires : goal.unpack_into-requires
unpack_into-requires c =
    let x = c.args.x in
    let melds : length x.melds ≡ 4 = search rules in
    let concealed : length x.concealed ≡ 13 = search rules in
    let n = length_of x.m in
    let few = bytes_11 x.m c.requires in
    let p = pack (widths x.m) (values_of x) in
    let lp = length_packed x c.requires (omega arith) (omega arith) in
    rw (c.pack-b.ensures, take_replicate n 11 8 few) (
      omega (arith, length-replicate {A = ℕ} n 8, c.if-buf-n.false),
      below_replicate 9 n 8 (omega arith),
      omega (arith, few, sum_replicate n 8, length_fill 88 p (omega (arith, lp, few))),
      below_fill 2 88 p (below_pack (widths x.m) (values_of x)),
    )

pub returns-clause-value : goal.returns-clause-value
returns-clause-value c =
    let a = c.args in
    (wrote_by a.x a.buf.now 0 (after_none a.x a.buf.now c.if-buf-n.false)).0

pub returns-clause-buf_after : goal.returns-clause-buf_after
returns-clause-buf_after c =
    let a = c.args in
    let melds : length a.x.melds ≡ 4 = search rules in
    let concealed : length a.x.concealed ≡ 13 = search rules in
    stored a.x c.requires (omega arith) (omega arith) a.buf.now c.pack-b.result c.unpack_into.new.out
    c.if-buf-n.false c.pack-b.ensures c.unpack_into.ensures
    ∙ (wrote_by a.x a.buf.now 0 (after_none a.x a.buf.now c.if-buf-n.false)).1
