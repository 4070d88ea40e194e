-- `tiles::add` meets its contract: past the 34 kinds nothing is stored.
use borrow.Author.Rules.{rules}
use mathlib.Core.Path.{◌≡◌, refl, sym}
use native.Mathlib.Omega.{arith}
use lib.ListN.{length}
use lib.Seq.{set_out}
use Rattle.tiles.specs.Tally.{more}
use Rattle.tiles.proofs.add.Statement.{statement}
use Rattle.tiles.proofs.add.Tie as tie

pub add_spec : {M : Type 1} → statement M
unfolding more
add_spec =
    tie.close
    (tie.spec (λ c. search rules) (λ c. search rules) (λ c. search rules)
    (λ c. refl)
    (λ c. sym (set_out _ _ _ (let l : length c.before.args.t ≡ 34 = search rules in omega arith))))
