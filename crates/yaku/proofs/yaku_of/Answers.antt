-- `yaku::yaku_of` meets its contract.
use Rattle.yaku.specs.Yaku.{yaku_of}
use Rattle.yaku.specs.search.Common.{place_tests_of}
use Rattle.yaku.proofs.yaku_of.Goals as goal

pub listed-requires : goal.listed-requires
unfolding place_tests_of
listed-requires c = rw (c.requires.q_value, c.tests.ensures)

pub returns : goal.returns
unfolding yaku_of
returns c = rw (← c.tests.ensures) c.listed.ensures
