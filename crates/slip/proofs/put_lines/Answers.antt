use Rattle.std.proofs.Common.{◌≡◌, ◌≤◌, ◌+◌, ◌-◌, ◌*◌, length, drop, take, length-drop, length-take-le, refl, sym, ap, ◌∙◌, rules, arith}
use Rattle.slip.specs.Slip.{line_at}
use Rattle.slip.proofs.laws.Lines.{first_lines, lines_long, next_line, six_lines}
use Rattle.slip.proofs.put_lines.Goals as goal

pub loop-k-init : goal.loop-k-init
unfolding first_lines
loop-k-init c = record { kept = refl; long = refl; written = refl }

pub loop-k-preserved : goal.loop-k-preserved
loop-k-preserved c =
    let k = c.loop-k.k in
    let page = c.loop-k.page in
    let a = c.args.a in
    let inv = c.loop-k.invariant in
    let room : 25 * k + 25 ≤ length page = omega (arith, inv.kept, c.requires.in_bounds, c.loop-k-test.true) in
    let wide : 25 * k + 25 - 25 * k ≡ 25 = omega arith in
    let left : 25 ≤ length (drop (25 * k) page) = omega (arith, length-drop (25 * k) page) in
    let part : length (take (25 * k + 25 - 25 * k) (drop (25 * k) page)) ≡ 25 = rw wide (length-take-le 25 (drop (25 * k) page) left) in
    let long : length (line_at a k) ≡ 25 = sym (ap length c.put_line_at.ensures) ∙ c.put_line_at.auto.line ∙ part in
    record {
      kept = search rules;
      long = lines_long (line_at a) k inv.long long;
      written = rw (wide, c.put_line_at.ensures) (next_line (line_at a) k c.args.page.now page inv.long inv.written);
    }

pub returns : goal.returns
returns c =
    let l = c.loop-k in
    let e : l.k ≡ 6 = omega arith in
    l.invariant.written ∙ rw (e, six_lines c.args.a)
