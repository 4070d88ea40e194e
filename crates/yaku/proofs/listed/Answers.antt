-- `yaku::listed` meets its contract.
use Rattle.std.proofs.Common.{sym, ◌∙◌, rules, arith, length, ◌≡◌}
use Rattle.yaku.specs.Yaku.{listed}
use Rattle.yaku.proofs.laws.Lists.{from_at}
use Rattle.yaku.proofs.listed.Goals as goal

pub returns-then-not-yakuman : goal.returns-then-not-yakuman
unfolding listed
returns-then-not-yakuman c = rw (sym c.requires ∙ c.if-not-yakuman.true)

pub returns : goal.returns
unfolding listed
returns c =
    let long : length c.args.y ≡ 37 = search rules in
    let eleven = from_at 26 11 c.args.y (omega (arith, long)) in
    rw (sym c.requires ∙ c.if-not-yakuman.false, c.copy_from_slice.ensures.after, eleven)
