-- No claim has under 3 bytes, and the others are read by the shape and the length.
use Rattle.std.proofs.Common.{◌≡◌, Bool, true, false, None, Some, refl, ◌∙◌, arith, lt-ltb, le-ltb}
use Rattle.bits.specs.Bits.{bits_of}
use Rattle.claim.specs.search.Claimed.{named_in}
use Rattle.claim.proofs.laws.Claimed.{far_length, far_shape, size_is, faulty_reading, faulty_padding, named, gain_is, padding_is}
use Rattle.claim.proofs.read_claim.Goals as goal

-- what is named where there is no fault
none_named : {A : Type 0} (f : Bool) (x : A) → None ≡ named_in f x → f ≡ true
none_named true x e = refl
none_named false x e = cc

some_named : {A : Type 0} (f : Bool) (x y : A) → Some y ≡ named_in f x → (f ≡ false) × (y ≡ x)
some_named true x y e = cc
some_named false x y e = (refl, cc)

pub returns-then-n-lt3 : goal.returns-then-n-lt3
returns-then-n-lt3 c = far_length c.args.m _ (bits_of c.args.s.now) c.requires (λ p q. omega (arith, c.if-n-lt3.true))

pub returns-then-far : goal.returns-then-far
returns-then-far c = far_shape c.args.m _ (bits_of c.args.s.now) _ c.field-shape.ensures (rw c.length.ensures at c.if-far.true)

pub returns-in_err-reading : goal.returns-in_err-reading
returns-in_err-reading c =
    c.from_residual.ensures
    ∙ faulty_reading c.args.m _ (bits_of c.args.s.now) _ c.field-shape.ensures (rw c.length.ensures at c.if-far.false) (none_named _ _ c.in_err-reading.ensures)

pub returns-then-padded : goal.returns-then-padded
returns-then-padded c =
    let b = bits_of c.args.s.now in
    let t = rw c.length.ensures at c.if-far.false in
    let n = size_is c.args.m _ b _ c.field-shape.ensures t in
    faulty_padding c.args.m _ b _ c.field-shape.ensures t (some_named _ _ _ c.in_ok-reading.ensures).0 c.field-padding.result
    (padding_is c.args.m b _ c.field-shape.ensures _ _ _ c.requires c.gain_at-at.ensures n c.field-padding.ensures) (lt-ltb 0 _ c.if-padded.true)

pub returns : goal.returns
returns c =
    let b = bits_of c.args.s.now in
    let t = rw c.length.ensures at c.if-far.false in
    let n = size_is c.args.m _ b _ c.field-shape.ensures t in
    let r = some_named _ _ _ c.in_ok-reading.ensures in
    named c.args.m _ b _ c.field-shape.ensures t r.0 c.field-padding.result
    (padding_is c.args.m b _ c.field-shape.ensures _ _ _ c.requires c.gain_at-at.ensures n c.field-padding.ensures) _ _ r.1
    (gain_is c.args.m b _ c.field-shape.ensures _ _ c.gain_at-at.ensures c.long_field-gain.ensures) (le-ltb 0 _ c.if-padded.false)
