-- The header, and after it the tiles held with the padding.
use Rattle.std.proofs.Common.{◌≡◌, length, rules, arith}
use Rattle.hand_record.proofs.laws.Write.{packed}
use Rattle.hand_writer.proofs.pack_hand.Goals as goal

pub returns : goal.returns
returns c =
    let h = c.args.h in
    let melds : length h.held.melds ≡ 4 = search rules in
    let concealed : length h.held.concealed ≡ 13 = search rules in
    packed h c.requires (omega arith) (omega arith) c.pack_into.new.b c.pack_held.new.b c.pack_into.ensures c.pack_held.ensures
