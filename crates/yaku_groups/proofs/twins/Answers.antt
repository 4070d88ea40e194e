-- `yaku_groups::twins` meets its contract: the groups in turn.
use Rattle.std.proofs.Common.{sym, get_or, ◌∙◌}
use Rattle.yaku_basics.proofs.laws.Twins.{pairs_in_turn}
use Rattle.yaku_basics.proofs.laws.Ways.{byte_of}
use Rattle.yaku_basics.specs.Tests.{twins}
use Rattle.yaku_groups.proofs.twins.Goals as goal

pub returns : goal.returns
unfolding twins
returns c =
    let g = c.args.g in
    rw (
      c.after_odd.ensures.value,
      c.after_odd-2.ensures.value,
      c.after_odd-3.ensures.value,
      c.from.ensures ∙ byte_of _,
      c.from-2.ensures ∙ byte_of _,
      c.from-3.ensures ∙ byte_of _,
      c.from-4.ensures ∙ byte_of _,
      c.from-5.ensures ∙ byte_of _,
      c.from-6.ensures ∙ byte_of _,
    ) (sym (pairs_in_turn (get_or g 0 0) (get_or g 1 0) (get_or g 2 0) (get_or g 3 0)))
