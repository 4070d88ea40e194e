-- `yaku::tests` meets its contract: the tests of the groups, and those of the place and the ways in their places.
use Rattle.std.proofs.Common.{ap}
use Rattle.yaku.specs.Yaku.{tests_of}
use Rattle.yaku.specs.declared.GroupTests.{GroupTests}
use Rattle.yaku.specs.search.Common.{any_place, group_tests_of, place_tests_of}
use Rattle.yaku.proofs.tests.Goals as goal

pub returns : goal.returns
unfolding tests_of any_place group_tests_of place_tests_of
returns c = rw (ap (λ (k : GroupTests). k.yaku) c.requires.k_value, c.requires.q_value)
