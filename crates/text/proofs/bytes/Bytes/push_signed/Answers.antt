-- The number passes through its bits unchanged.
use Rattle.std.proofs.Common.{◌≡◌, ◌∷◌, rules, arith, ap, length, length-append, append_assoc, to_z-of_z, nat_abs}
use Rattle.text.specs.Text.{digits_of, signed_of}
use Rattle.text.proofs.laws.Digits.{signed_negative, signed_positive}
use Rattle.text.proofs.bytes.Bytes.push_signed.Goals.{then-n-lt0, else-n-lt0}
use Rattle.text.proofs.bytes.Bytes.push_signed.Goals as goal

pub push-requires : goal.push-requires
push-requires g c =
    let e : signed_of c.args.n ≡ 45 ∷ digits_of (nat_abs c.args.n) = signed_negative c.args.n (rw (to_z-of_z c.ranges.n) at c.if-n-lt0.true) in
    (search rules, omega (arith, c.requires, ap length e))

pub push_digits-requires : goal.push_digits-requires
push_digits-requires g c =
    let size = rw (to_z-of_z c.ranges.n) at c.unsigned_abs.ensures.value in
    elim c.if-n-lt0.branch [
      | then-n-lt0 w ↦ (search rules, rw (size, w.self-is, w.push.ensures, length-append) (omega (arith, c.requires, ap length (signed_negative c.args.n (rw (to_z-of_z c.ranges.n) at w.if-n-lt0.true)))))
      | else-n-lt0 w ↦ (search rules, rw (size, w.self-is) (omega (arith, c.requires, ap length (signed_positive c.args.n (rw (to_z-of_z c.ranges.n) at w.if-n-lt0.false)))))
    ]

pub returns : goal.returns
returns g c =
    let size = rw (to_z-of_z c.ranges.n) at c.unsigned_abs.ensures.value in
    elim c.if-n-lt0.branch [
      | then-n-lt0 w ↦ rw (c.push_digits.ensures, size, w.self-is, w.push.ensures, signed_negative c.args.n (rw (to_z-of_z c.ranges.n) at w.if-n-lt0.true), append_assoc)
      | else-n-lt0 w ↦ rw (c.push_digits.ensures, size, w.self-is, signed_positive c.args.n (rw (to_z-of_z c.ranges.n) at w.if-n-lt0.false))
    ]
