-- Label and value are put into an empty line.
use Rattle.std.proofs.Common.{◌≡◌, ◌≤◌, ◌++◌, ◌-◌, ℕ, List, length, take, drop, refl, ap, ◌∙◌, min, arith, length-drop, length-take-le}
use Rattle.slip.proofs.laws.Line.{line_written}
use Rattle.slip.proofs.put_line.Goals as goal

-- what a copy of n bytes, which fit, leaves
copied : (from to new : List ℕ) (r : ℕ) → r ≡ min (length from) (length to) → new ≡ take r from ++ drop r to → length from ≤ length to
    → new ≡ take (length from) from ++ drop (length from) to
copied from to new r c e h =
    let k : r ≡ length from = omega arith in
    e ∙ ap (λ (n : ℕ). take n from ++ drop n to) k

pub returns : goal.returns
returns c =
    let label = c.args.label.now in
    let value = c.args.value.now in
    let long = c.requires.label_len_bound.0 in
    let short = c.requires.label_len_bound.1 in
    let blank = c.blank.new.line in
    let full : length blank ≡ 25 = omega (arith, c.blank.auto.line, c.requires.line_len) in
    let labelled = copied label blank c.copy-at.new.to c.copy-at.result c.copy-at.ensures.count c.copy-at.ensures.copied (omega arith) in
    let at : ℕ = 24 - length value in
    let k : ℕ = 24 - at in
    let part : List ℕ = take k (drop at c.copy-at.new.to) in
    let room : length part ≡ k =
    length-take-le k (drop at c.copy-at.new.to) (omega (arith, length-drop at c.copy-at.new.to, c.copy-at.auto.to)) in
    let valued = copied value part c.copy.new.to c.copy.result c.copy.ensures.count c.copy.ensures.copied (omega arith) in
    line_written label value long short at k refl refl c.copy-at.new.to c.copy.new.to
    (labelled ∙ ap (λ (l : List ℕ). take (length label) label ++ drop (length label) l) c.blank.ensures) valued
