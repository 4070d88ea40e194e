-- Who is liable, by the feeder that the code has, or none.
use Rattle.std.specs.Prelude.{Option, None, Some, ℕ}
use Rattle.position.specs.Ledger.{Liable, nobody, the_feeder}

abbrev pub liable_as : Option ℕ → Liable
liable_as None = nobody
liable_as (Some x) = the_feeder x
