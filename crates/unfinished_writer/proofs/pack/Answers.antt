-- The meld count, and after it the tiles held with the padding.
use Rattle.std.proofs.Common.{◌≡◌, length, rules, arith}
use Rattle.unfinished_writer.proofs.laws.Store.{packed}
use Rattle.unfinished_writer.proofs.pack.Goals as goal

pub returns : goal.returns
returns c =
    let x = c.args.x in
    let melds : length x.melds ≡ 4 = search rules in
    let concealed : length x.concealed ≡ 13 = search rules in
    packed x c.requires (omega arith) (omega arith) c.put.new.b c.pack_held.new.b c.put.ensures c.pack_held.ensures
