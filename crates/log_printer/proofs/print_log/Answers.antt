-- What is printed and what is left make up the text.
use Rattle.std.proofs.Common.{◌≡◌, refl, sym, length, replicate, length-take-le, rules, arith}
use Rattle.log_printer.proofs.Kept.{starts, ends, fits, turns}
use Rattle.log_printer.proofs.print_log.Goals as goal

pub loop-page-init : goal.loop-page-init
loop-page-init g c = starts _ c.requires (replicate 65536 0) _ refl c.start-w.ensures

pub returns-then-n-eq0 : goal.returns-then-n-eq0
returns-then-n-eq0 g c =
    let k = c.loop-page in
    ends _ c.requires k.page k.w k.printed k.invariant _ c.lines-r.ensures.value c.if-n-eq0.true c.lines-r.ensures.s_value

pub slice_bounds-page-end : goal.slice_bounds-page-end
slice_bounds-page-end g c =
    let k = c.loop-page in
    let size : length c.lines-r.new.buf ≡ 65536 = search rules in
    omega (arith, size, fits _ c.requires k.page k.w k.printed k.invariant _ c.lines-r.ensures.value)

pub slice_bounds-put-end : goal.slice_bounds-put-end
slice_bounds-put-end g c =
    let k = c.loop-page in
    let size : length c.lines-r.new.buf ≡ 65536 = search rules in
    sym (length-take-le _ _ (omega (arith, size, fits _ c.requires k.page k.w k.printed k.invariant _ c.lines-r.ensures.value)))

pub overflow_add-printed : goal.overflow_add-printed
overflow_add-printed g c =
    let k = c.loop-page in
    let size : length c.lines-r.new.buf ≡ 65536 = search rules in
    omega (arith, turns _ c.requires k.page k.w k.printed k.invariant _ c.lines-r.ensures.value c.lines-r.new.buf size c.if-n-eq0.false, c.requires)

pub loop-page-smaller : goal.loop-page-smaller
loop-page-smaller g c =
    let k = c.loop-page in
    let size : length c.lines-r.new.buf ≡ 65536 = search rules in
    (turns _ c.requires k.page k.w k.printed k.invariant _ c.lines-r.ensures.value c.lines-r.new.buf size c.if-n-eq0.false).1

pub loop-page-preserved : goal.loop-page-preserved
loop-page-preserved g c =
    let k = c.loop-page in
    let size : length c.lines-r.new.buf ≡ 65536 = search rules in
    (turns _ c.requires k.page k.w k.printed k.invariant _ c.lines-r.ensures.value c.lines-r.new.buf size c.if-n-eq0.false).0
