use Rattle.std.proofs.Common.{◌≡◌, rules, arith, List, ℕ}
use Rattle.tiles.specs.Tally.{tally_of}
use Rattle.tiles.proofs.laws.Tally.{tally_ext}
use Rattle.hand.specs.declared.Hand.{Hand}
use Rattle.hand.specs.Held.{in_held}
use Rattle.hand.specs.Hand.{in_concealed, in_hand, concealed_tally, hand_tally}
use Rattle.hand.proofs.laws.Held.{concealed_le, tally_at, tally_room}
use Rattle.hand.proofs.with_melds.Goals as goal

-- the concealed tiles with the winning tile
counted : (t : List ℕ) (h : Hand) → t ≡ concealed_tally h → t ≡ tally_of (in_concealed h)
unfolding concealed_tally
counted t h e = e

pub add_melds-requires : goal.add_melds-requires
add_melds-requires c k =
    let a = c.args in
    omega (arith, tally_room a.c (in_concealed a.h) (search rules) (counted a.c a.h c.requires) 14 (concealed_le a.h) k)

pub returns : goal.returns
unfolding hand_tally in_hand in_held in_concealed
returns c =
    let a = c.args in
    tally_ext c.add_melds.result _ (search rules)
    (λ k g. omega (arith, c.add_melds.ensures k g, tally_at a.c (in_concealed a.h) (search rules) (counted a.c a.h c.requires) k g))
