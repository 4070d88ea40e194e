-- A call has one group less to take off.
use Rattle.std.proofs.Common.{length}
use Rattle.claim.proofs.+splits_as.Given as goal

abbrev pub decreases-splits_as : goal.decreases-splits_as
decreases-splits_as l = length l.groups.now
