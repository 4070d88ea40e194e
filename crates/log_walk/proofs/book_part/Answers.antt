-- The entry of a part, kind by kind.
use Rattle.std.proofs.Common.{◌≡◌, ◌-◌, refl, sym, ap, ◌∙◌, length, take, drop, rules, arith}
use Rattle.log_entry.specs.EntryKind.{number}
use Rattle.log_entry.specs.search.Lengths.{kind_in}
use Rattle.log_entry.specs.search.Found.{result_by}
use Rattle.log_walk.proofs.laws.Turn.{part_booking, part_correction, by_result, not_correction}
use Rattle.log_walk.proofs.book_part.Goals as goal

pub returns-in-Pao : goal.returns-in-Pao
returns-in-Pao c =
    let k : 5 ≡ kind_in c.args.part.now = ap number (sym c.in-Pao.is) ∙ c.in_ok-kind.ensures ∙ c.kind.ensures in
    part_booking c.args.g c.args.part.now _ _ _ _ k (λ e. omega (arith, e)) refl c.book_pao.ensures

pub returns-in_ok-kind-in-Correction : goal.returns-in_ok-kind-in-Correction
returns-in_ok-kind-in-Correction c =
    let part = c.args.part.now in
    let k : 6 ≡ kind_in part = ap number (sym c.in-Correction.is) ∙ c.in_ok-kind.ensures ∙ c.kind.ensures in
    let r = result_by (number c.in_ok-kind-in-Correction.kind) c.argument-argument.result (take (length part - 2) (drop 2 part)) in
    part_correction c.args.g part _ _ _ _ (sym k) (c.in_ok-kind-in-Correction.ensures ∙ c.kind-in-Correction.ensures) c.argument-argument.ensures
    (c.correct.ensures r (λ m p. search rules))

pub returns-in_default : goal.returns-in_default
returns-in_default c =
    let part = c.args.part.now in
    let kind = c.in_ok-kind.kind in
    let a = c.argument-argument-in_default.result in
    let rest = take (length part - 1) (drop 1 part) in
    part_booking c.args.g part _ _ _ _ (c.in_ok-kind.ensures ∙ c.kind.ensures) (not_correction kind c.in_default.not-Correction)
    c.argument-argument-in_default.ensures
    (rw (by_result kind c.in_default.not-Riichi c.in_default.not-Pao a rest) (c.finish.ensures (result_by (number kind) a rest) (λ m p. search rules)))
