-- The 24 bytes before the last are filled, and the last is set.
use Rattle.std.proofs.Common.{◌≡◌, ◌++◌, length, take, drop, ap, ◌∙◌, arith, length-take-le, List, ℕ, set}
use Rattle.slip.specs.Line.{spaces}
use Rattle.slip.proofs.laws.Line.{line_feed_last}
use Rattle.slip.proofs.blank.Goals as goal

pub returns : goal.returns
returns c =
    let line = c.args.line.now in
    let long : length (take 24 line) ≡ 24 = length-take-le 24 line (omega arith) in
    let filled : c.fill.new.self ≡ spaces 24 = c.fill.ensures.after (λ y h. h) ∙ ap spaces long in
    ap (λ (l : List ℕ). set (l ++ drop 24 line) 24 10) filled ∙ line_feed_last line c.requires
