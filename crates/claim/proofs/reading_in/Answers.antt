-- By the shape, and a regular one by its tests.
use Rattle.std.proofs.Common.{sym}
use Rattle.bits.specs.Bits.{bits_of}
use Rattle.claim.proofs.laws.Claimed.{other_reading, regular_faulty, regular_named}
use Rattle.claim.proofs.reading_in.Goals as goal

pub returns-then-shape-ne0 : goal.returns-then-shape-ne0
returns-then-shape-ne0 c = other_reading c.args.m (bits_of c.args.s.now) c.args.shape (sym c.requires.2) _ c.if-shape-ne0.true c.of_shape.ensures

pub returns-then-faulty : goal.returns-then-faulty
returns-then-faulty c =
    regular_faulty c.args.m (bits_of c.args.s.now) c.args.shape (sym c.requires.2) c.if-shape-ne0.false c.field-pair.result c.field-place.result
    c.groups_in-groups.result c.ascend.result c.field-pair.ensures c.groups_in-groups.ensures c.field-place.ensures c.ascend.ensures c.if-faulty.true

pub returns : goal.returns
returns c =
    regular_named c.args.m (bits_of c.args.s.now) c.args.shape (sym c.requires.2) c.if-shape-ne0.false c.field-pair.result c.field-place.result
    c.groups_in-groups.result c.ascend.result c.field-pair.ensures c.groups_in-groups.ensures c.field-place.ensures c.ascend.ensures c.if-faulty.false
