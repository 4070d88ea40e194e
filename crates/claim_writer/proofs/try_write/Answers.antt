-- What is refused stores nothing, and else the claim is stored.
use Rattle.std.proofs.Common.{◌≡◌, ◌≤◌, ℕ, Bool, true, sym, ◌∙◌, arith, length-take-le}
use Rattle.std.proofs.Math.ListN.{length-replicate}
use Rattle.bits.specs.Bits.{eights}
use Rattle.bits.proofs.laws.Pack.{take_replicate, below_replicate, sum_replicate}
use Rattle.claim_writer.specs.declared.Claim.{Claim}
use Rattle.claim_writer.specs.search.Bytes.{is_nameable, length_for}
use Rattle.claim_writer.proofs.laws.Named.{parts}
use Rattle.claim_writer.proofs.laws.Found.{length_is, length_most, packed_long, packed_bits, kept_22, kept_13, stored}
use Rattle.claim_writer.proofs.try_write.Goals as goal

-- a claim that bytes can name
few : (c : Claim) (x : Bool) → x ≡ is_nameable c → x ≡ true → c.m ≤ 4
few c x e t = (parts c (sym e ∙ t)).0

-- its length
short : (c : Claim) (x : Bool) → x ≡ is_nameable c → x ≡ true → (n : ℕ) → n ≡ length_for c → n ≤ 7
short c x e t n k = omega (arith, length_most c (few c x e t))

pub returns-then-not-is_nameable-clause-value : goal.returns-then-not-is_nameable-clause-value
returns-then-not-is_nameable-clause-value c =
    (kept_22 c.args.c c.args.buf.now c.is_nameable.result c.is_nameable.ensures c.if-not-is_nameable.true).1.0

pub returns-then-not-is_nameable-clause-buf_after : goal.returns-then-not-is_nameable-clause-buf_after
returns-then-not-is_nameable-clause-buf_after c =
    (kept_22 c.args.c c.args.buf.now c.is_nameable.result c.is_nameable.ensures c.if-not-is_nameable.true).1.1

pub length-n-requires : goal.length-n-requires
length-n-requires c = few c.args.c c.is_nameable.result c.is_nameable.ensures c.if-not-is_nameable.false

pub returns-then-buf-n-clause-value : goal.returns-then-buf-n-clause-value
returns-then-buf-n-clause-value c =
    (kept_13 c.args.c c.args.buf.now c.is_nameable.result c.is_nameable.ensures c.if-not-is_nameable.false c.length-n.result (length_is c.args.c _ c.length-n.ensures)
    c.if-buf-n.true).1.0

pub returns-then-buf-n-clause-buf_after : goal.returns-then-buf-n-clause-buf_after
returns-then-buf-n-clause-buf_after c =
    (kept_13 c.args.c c.args.buf.now c.is_nameable.result c.is_nameable.ensures c.if-not-is_nameable.false c.length-n.result (length_is c.args.c _ c.length-n.ensures)
    c.if-buf-n.true).1.1

pub pack_claim-b-requires : goal.pack_claim-b-requires
pack_claim-b-requires c =
    let p = parts c.args.c (sym c.is_nameable.ensures ∙ c.if-not-is_nameable.false) in
    (p.0, p.1)

pub slice_bounds-ew-end : goal.slice_bounds-ew-end
slice_bounds-ew-end c = short c.args.c c.is_nameable.result c.is_nameable.ensures c.if-not-is_nameable.false c.length-n.result (length_is c.args.c _ c.length-n.ensures)

pub slice_bounds-unpack_into-end : goal.slice_bounds-unpack_into-end
slice_bounds-unpack_into-end c =
    sym (length-take-le _ (eights 7) (short c.args.c c.is_nameable.result c.is_nameable.ensures c.if-not-is_nameable.false c.length-n.result
    (length_is c.args.c _ c.length-n.ensures)))

pub unpack_into-requires : goal.unpack_into-requires
unpack_into-requires c =
    let x = c.args.c in
    let n = c.length-n.result in
    let l = short x c.is_nameable.result c.is_nameable.ensures c.if-not-is_nameable.false n (length_is c.args.c _ c.length-n.ensures) in
    let q = parts x (sym c.is_nameable.ensures ∙ c.if-not-is_nameable.false) in
    rw (c.pack_claim-b.ensures, take_replicate n 7 8 l) (
      omega (arith, length-replicate {A = ℕ} n 8, c.if-buf-n.false),
      below_replicate 9 n 8 (omega arith),
      omega (arith, sum_replicate n 8, packed_long x q.0 q.2, l),
      packed_bits x,
    )

pub returns-clause-value : goal.returns-clause-value
returns-clause-value c =
    (stored c.args.c c.args.buf.now c.is_nameable.result c.is_nameable.ensures c.if-not-is_nameable.false c.length-n.result (length_is c.args.c _ c.length-n.ensures)
    c.if-buf-n.false c.pack_claim-b.result c.unpack_into.new.out c.pack_claim-b.ensures c.unpack_into.ensures).1.0

pub returns-clause-buf_after : goal.returns-clause-buf_after
returns-clause-buf_after c =
    (stored c.args.c c.args.buf.now c.is_nameable.result c.is_nameable.ensures c.if-not-is_nameable.false c.length-n.result (length_is c.args.c _ c.length-n.ensures)
    c.if-buf-n.false c.pack_claim-b.result c.unpack_into.new.out c.pack_claim-b.ensures c.unpack_into.ensures).1.1
